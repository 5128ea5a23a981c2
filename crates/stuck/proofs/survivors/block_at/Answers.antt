-- A blocked placement is written; the two others give nothing.
-- the cell's row and column
use mathlib.Core.List.{[], ◌∷◌}
use mathlib.Core.Logic.{◌⊎◌, inl, inr}
use mathlib.Core.Path.{◌≡◌, refl, ap₂, ◌∙◌}
use Prim.Native.Nat.{ℕ, ◌/◌, ◌%◌, ◌<◌}
use native.Mathlib.Nat.{mod-lt, div-lt_iff_lt-mul}
use native.Mathlib.Omega.{arith}
use lib.ListN.{get_or}
use Rattle.rules.specs.declared.Placement.{Placement}
use Rattle.rules.specs.declared.Placement.TheVariants.{Fits, Blocked, Cannot}
use Rattle.rules.specs.Page.{wall_at}
use Rattle.reasons.proofs.MemoryLaws.{naming-none}
use Rattle.stuck.specs.Survivors.{placed_at, block_in}
use Rattle.stuck.specs.PlacedLaws.{place-row, place-column, placed-within, block_one, block_none}
use Rattle.stuck.proofs.survivors.block_at.Goals.{After-placed, In-Blocked, Start}
use Rattle.stuck.proofs.survivors.block_at.Goals as goal

row : (s : Start) → get_or s.args.places.now s.args.o 0 / 32 ≡ s.args.o / s.args.w
row s = place-row s.requires.0 s.requires.3 s.requires.4

column : (s : Start) → get_or s.args.places.now s.args.o 0 % 32 ≡ s.args.o % s.args.w
column s = place-column s.requires.0 s.requires.3 s.requires.4

low : (s : Start) → s.args.o / s.args.w < s.args.h
low s = (div-lt_iff_lt-mul {k = s.args.w} (omega (arith, s.requires.0.columns))).1 s.requires.4

slim : (s : Start) → s.args.o % s.args.w < s.args.w
slim s = mod-lt s.args.o (omega (arith, s.requires.0.columns))

-- its placement
is : (c : After-placed) → c.placed.result
    ≡ placed_at c.args.h c.args.w c.args.borders.now c.args.rows.now c.args.turned.now
    c.args.n (c.args.o / c.args.w) (c.args.o % c.args.w)
is c = rw c.from-place.ensures at c.placed.ensures
    ∙ ap₂
    (placed_at c.args.h c.args.w c.args.borders.now c.args.rows.now c.args.turned.now
    c.args.n) (row (goal.at.After-placed c).Start) (column (goal.at.After-placed c).Start)

-- the blocker
one : (c : In-Blocked) → block_in c.args.h c.args.w c.args.borders.now c.args.rows.now c.args.turned.now
    c.args.n c.args.o ≡ wall_at c.in-Blocked.border ∷ []
one c = block_one c.args.h c.args.w c.args.borders.now c.args.rows.now c.args.turned.now
    c.args.n c.args.o (is (goal.at.In-Blocked c).After-placed) c.in-Blocked.is

-- a placement that is not blocked
other : (p : Placement) → ((x : ℕ) → p ≡ Blocked x → ⊥) → (p ≡ Fits) ⊎ (p ≡ Cannot)
other Fits n = inl refl
other (Blocked x) n = absurd (n x refl)
other Cannot n = inr refl

pub returns-in_default : goal.returns-in_default
returns-in_default c =
    let p = c.placed.result in
    let e = block_none c.args.h c.args.w c.args.borders.now c.args.rows.now c.args.turned.now
    c.args.n c.args.o (is (goal.at.returns-in_default c).After-placed)
    (other p c.in_default.not-Blocked) in
    rw e (naming-none c.requires.5)

pub append-requires : goal.append-requires
append-requires c =
    let w = placed-within c.args.h c.args.w c.args.borders.now c.args.rows.now c.args.turned.now
    c.args.n c.requires.0 c.requires.2 _ _ (low (goal.at.append-requires c).Start)
    (slim (goal.at.append-requires c).Start) in (
      c.requires.5,
      rw (← is (goal.at.append-requires c).After-placed, c.in-Blocked.is) at w,
    )

pub returns : goal.returns
returns c = rw (one (goal.at.returns c).In-Blocked) c.append.ensures
