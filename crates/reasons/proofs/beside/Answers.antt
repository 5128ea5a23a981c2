-- Each return is one of the laws of StepLaws.
use Rattle.laws.specs.FlatLaws.{Counts, counts, Spot, spot}
use Rattle.reasons.specs.StepLaws.{above-some, above-none, below-some, below-none, left-some, left-none}
use Rattle.reasons.specs.StepLaws.{right-some, right-none}
use Rattle.reasons.proofs.beside.Goals.{Start}
use Rattle.reasons.proofs.beside.Goals as goal

few : (s : Start) → Counts s.args.h s.args.w
few s = counts s.requires.0

at : (s : Start) → Spot s.args.h s.args.w s.args.y s.args.x
at s = spot _ _ _ _ s.requires.1 s.requires.2

pub returns-in-Above : goal.returns-in-Above
returns-in-Above c =
    rw (c.in-Above.is, c.requires.3)
    (above-some (few (goal.at.returns-in-Above c).Start) (at (goal.at.returns-in-Above c).Start) c.if-y-gt0.true)

pub returns-in-Below : goal.returns-in-Below
returns-in-Below c =
    rw (c.in-Below.is, c.requires.3)
    (below-some (few (goal.at.returns-in-Below c).Start) (at (goal.at.returns-in-Below c).Start) c.if-y-h.true)

pub returns-in-Left : goal.returns-in-Left
returns-in-Left c =
    rw (c.in-Left.is, c.requires.3)
    (left-some (few (goal.at.returns-in-Left c).Start) (at (goal.at.returns-in-Left c).Start) c.if-x-gt0.true
    c.requires.2)

pub returns-in-Right : goal.returns-in-Right
returns-in-Right c =
    rw (c.in-Right.is, c.requires.3)
    (right-some (few (goal.at.returns-in-Right c).Start) (at (goal.at.returns-in-Right c).Start) c.if-x-w.true)

pub returns-in_default : goal.returns-in_default
returns-in_default c =
    rw c.in-Above.is
    (above-none (few (goal.at.returns-in_default c).Start) (at (goal.at.returns-in_default c).Start) c.if-y-gt0.false)

pub returns-in_default-2 : goal.returns-in_default-2
returns-in_default-2 c =
    rw c.in-Below.is
    (below-none (few (goal.at.returns-in_default-2 c).Start) (at (goal.at.returns-in_default-2 c).Start) c.if-y-h.false)

pub returns-in_default-3 : goal.returns-in_default-3
returns-in_default-3 c =
    rw c.in-Left.is
    (left-none (few (goal.at.returns-in_default-3 c).Start) (at (goal.at.returns-in_default-3 c).Start)
    c.if-x-gt0.false)

pub returns-in_default-4 : goal.returns-in_default-4
returns-in_default-4 c =
    rw c.in-Right.is
    (right-none (few (goal.at.returns-in_default-4 c).Start) (at (goal.at.returns-in_default-4 c).Start) c.if-x-w.false)
