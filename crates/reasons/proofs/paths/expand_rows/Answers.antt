-- One direction after another.
use mathlib.Core.Path.{refl}
use mathlib.Core.List.{List}
use Prim.Native.Nat.{ℕ, ◌/◌, ◌%◌}
use Rattle.rules.specs.Page.{Hop}
use Rattle.laws.specs.FlatLaws.{OnPage, row_of_lem}
use Rattle.reasons.specs.Arrays.{hop_at, direction_at}
use Rattle.reasons.specs.SearchLaws.{looked-none, looked-more}
use Rattle.reasons.proofs.paths.expand_rows.Goals.{Start}
use Rattle.reasons.proofs.paths.expand_rows.Goals as goal

row : (s : Start) → OnPage s.args.h s.args.w s.args.c
row s = row_of_lem _ _ _ s.requires.2

abbrev hops : Start → ℕ → List Hop
hops s i = let a = s.args in hop_at a.h a.w (a.c / a.w) (a.c % a.w) (direction_at i)

pub visit-above-requires : goal.visit-above-requires
visit-above-requires c = (c.requires.0, c.requires.1, c.requires.2, c.requires.3, c.requires.4, refl, refl)

pub visit-requires : goal.visit-requires
visit-requires c =
    (c.requires.0, c.requires.1, c.requires.2, c.visit-above.ensures.old, c.visit-above.ensures.lined, refl, refl)

pub returns : goal.returns
unfolding direction_at
returns c =
    let f = hops (goal.at.returns c).Start in
    let above = looked-more f 0 (looked-none f c.requires.4 c.requires.3) c.visit-above.ensures in
    looked-more f 1 above c.visit.ensures
