-- One direction after another.
use mathlib.Core.Path.{◌≡◌}
use borrow.Author.Rules.{rules}
use mathlib.Core.Bool.{Bool}
use mathlib.Core.List.{List}
use Prim.Native.Nat.{ℕ, ◌+◌, ◌*◌, ◌/◌, ◌%◌}
use Rattle.lists.specs.UpTo.{up_to}
use Rattle.rules.specs.declared.Side.TheVariants.{Open}
use Rattle.rules.specs.declared.Literal.{Literal}
use Rattle.rules.specs.Page.{Hop}
use Rattle.rules.specs.Flat.{flat}
use Rattle.rules.specs.Codes.{states_in}
use Rattle.rules.specs.Groups.{entry}
use Rattle.rules.specs.Reasons.{gather, inside_at}
use Rattle.groups.specs.Grouping.{numbers_in}
use Rattle.reasons.specs.Memory.{Wrote}
use Rattle.reasons.specs.Arrays.{hop_at, direction_at, open_kept}
use Rattle.reasons.proofs.MemoryLaws.{turns-none, turns_more}
use Rattle.reasons.specs.ScanLaws.{inside-hops}
use Rattle.reasons.proofs.scans.open_cell.Goals.{Start, After-append_kept-at}
use Rattle.reasons.proofs.scans.open_cell.Goals as goal

abbrev number : Start → ℕ → ℕ
number s = entry (numbers_in s.args.grouping.now)

abbrev test : Start → Hop → Bool
test s = open_kept (states_in s.args.borders.now) (number s) s.args.g

abbrev at : Start → ℕ → List Literal
at s i =
    let a = s.args in
    gather Open (test s)
    (hop_at a.h a.w (a.c / a.w) (a.c % a.w) (direction_at (2 * i + 1)))

whole : (s : Start) → let a = s.args in
    inside_at (flat a.h a.w) (states_in a.borders.now) (number s) a.g a.c ≡ up_to (at s) 2
whole s =
    let a = s.args in inside-hops a.h a.w (states_in a.borders.now) (number s) a.g a.c

start : (s : Start) → let a = s.args in Wrote a.memory.now a.from (up_to (at s) 0) a.memory.now a.from
start s = turns-none (at s) s.requires.3

-- the first direction
one : (c : After-append_kept-at) → let s = (goal.at.After-append_kept-at c).Start in
    Wrote c.args.memory.now c.args.from (up_to (at s) 1) c.append_kept-at.new.memory c.append_kept-at.result
unfolding direction_at
one c =
    let s = (goal.at.After-append_kept-at c).Start in
    turns_more (at s) 0 (start s)
    (rw c.beside-below.ensures.is at c.append_kept-at.ensures (test s) (λ n k p. search rules))

pub append_kept-requires-clause-spare : goal.append_kept-requires-clause-spare
append_kept-requires-clause-spare c = (one (goal.at.append_kept-requires-clause-spare c).After-append_kept-at).spare

pub returns : goal.returns
unfolding direction_at
returns c =
    let s = (goal.at.returns c).Start in
    rw (whole s)
    (turns_more (at s) 1 (one (goal.at.returns c).After-append_kept-at)
    (rw c.beside-right.ensures.is at c.append_kept.ensures (test s) (λ n k p. search rules)))
