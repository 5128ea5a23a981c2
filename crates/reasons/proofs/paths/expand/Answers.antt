-- One direction after another.
use mathlib.Core.Path.{refl}
use mathlib.Core.List.{List}
use Prim.Native.Nat.{ℕ, ◌/◌, ◌%◌}
use Rattle.rules.specs.Page.{Hop}
use Rattle.laws.specs.FlatLaws.{OnPage, row_of_lem}
use Rattle.reasons.specs.Arrays.{hop_at, direction_at}
use Rattle.reasons.specs.StepLaws.{around-is}
use Rattle.reasons.specs.SearchLaws.{looked-more}
use Rattle.reasons.proofs.paths.expand.Goals.{Start}
use Rattle.reasons.proofs.paths.expand.Goals as goal

row : (s : Start) → OnPage s.args.h s.args.w s.args.c
row s = row_of_lem _ _ _ s.requires.2

abbrev hops : Start → ℕ → List Hop
hops s i = let a = s.args in hop_at a.h a.w (a.c / a.w) (a.c % a.w) (direction_at i)

pub visit-left-requires : goal.visit-left-requires
visit-left-requires c =
    let b = c.expand_rows-below.ensures in
    (c.requires.0, c.requires.1, c.requires.2, b.old, b.lined, refl, refl)

pub visit-requires : goal.visit-requires
visit-requires c =
    (c.requires.0, c.requires.1, c.requires.2, c.visit-left.ensures.old, c.visit-left.ensures.lined, refl, refl)

pub returns : goal.returns
unfolding direction_at
returns c =
    let f = hops (goal.at.returns c).Start in
    let left = looked-more f 2 c.expand_rows-below.ensures c.visit-left.ensures in
    rw (around-is c.args.h c.args.w c.args.c) (looked-more f 3 left c.visit.ensures)
