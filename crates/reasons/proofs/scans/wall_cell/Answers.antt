-- One direction after another: `d` of the four are written.
use mathlib.Core.Path.{◌≡◌}
use borrow.Author.Rules.{rules}
use mathlib.Core.List.{List}
use Prim.Native.Nat.{ℕ}
use native.Mathlib.Omega.{arith}
use Rattle.lists.specs.UpTo.{up_to}
use Rattle.rules.specs.declared.Literal.{Literal}
use Rattle.groups.specs.Grouping.{numbers_in}
use Rattle.reasons.specs.Arrays.{direction_at, scan_test, scan_to, scan_at}
use Rattle.reasons.proofs.MemoryLaws.{turns-none, turns_more}
use Rattle.reasons.specs.ScanLaws.{scan-hops}
use Rattle.reasons.proofs.scans.wall_cell.Goals.{Start}
use Rattle.reasons.proofs.scans.wall_cell.Goals as goal

abbrev at : Start → ℕ → List Literal
at s i =
    let a = s.args in
    scan_to a.h a.w a.colours.now a.borders.now (numbers_in a.grouping.now) a.same
    a.flagged.now a.c (direction_at i)

whole : (s : Start) →
    let a = s.args in
    scan_at a.h a.w a.colours.now a.borders.now (numbers_in a.grouping.now) a.same
    a.flagged.now a.c
    ≡ up_to (at s) 4
whole s =
    let a = s.args in
    scan-hops a.h a.w a.colours.now a.borders.now (numbers_in a.grouping.now) a.same
    a.flagged.now a.c

pub loop-direction-init : goal.loop-direction-init
loop-direction-init c = turns-none _ c.requires.5

pub loop-direction-preserved : goal.loop-direction-preserved
unfolding direction_at
loop-direction-preserved c =
    let a = c.args in
    turns_more (at (goal.at.loop-direction-preserved c).Start) c.loop-direction.direction-index
    c.loop-direction.invariant
    (rw c.beside-n.ensures.is at c.append_kept-at.ensures
    (scan_test a.colours.now a.borders.now (numbers_in a.grouping.now) a.same a.flagged.now a.c)
    (λ n k p. search rules))

pub returns : goal.returns
returns c =
    let e : c.loop-direction.direction-index ≡ 4 = omega arith in
    rw (whole (goal.at.returns c).Start) (rw e at c.loop-direction.invariant)
