-- On a flat page a cell's neighbours lie over different borders, and it is the first cell of those below and right.
--
--   flat-hops           so it is, on pages of every height, and every width from 1 up
use Rattle.std.specs.Prelude.{◌≡◌, refl, Bool, true, false, ◌⊎◌, List, ◌++◌, ℕ, ◌+◌, ◌-◌, ◌*◌, ◌/◌, ◌%◌, ◌<◌, ltb}
use Rattle.std.proofs.Common.{inl, inr, arith, ltb-true}
use mathlib.Core.List.Memᴰ
use Rattle.std.proofs.lemmas.List.{map-append}
use Rattle.lists.specs.Lists.{◌∈◌, Distinct}
use Rattle.lists.specs.Pairs.{distinct_append}
use Rattle.rules.specs.Page.{Hop}
use Rattle.rules.specs.Flat.{hop_if, cell_at, right_of, below_of, hop_above, hop_below, hop_left, hop_right, around_at}
use Rattle.rules.specs.Flat.{ahead_at}
use Rattle.rules.specs.Flat.{flat}
use Rattle.laws.specs.FlatLaws.{Spot, spot, row_of_lem}
use Rattle.laws.specs.FlatLinks.{flat-linked}
use Rattle.laws.specs.PageLaws.{hop_borders, HopsOnce}

if-once : (v : Bool) (b t : ℕ) → Distinct (hop_borders (hop_if v b t))
unfolding hop_if
if-once true b t = (λ m. Memᴰ.not-nil m, tt)
if-once false b t = tt

if-over : (v : Bool) (b t : ℕ) {c : ℕ} → c ∈ hop_borders (hop_if v b t) → (v ≡ true) × (c ≡ b)
unfolding hop_if
if-over true b t m = (refl, Memᴰ.eq_of_singleton m)
if-over false b t m = absurd (Memᴰ.not-nil m)

-- two lists of hops with different borders
sum-once : (hs ks : List Hop) → Distinct (hop_borders hs) → Distinct (hop_borders ks)
    → ((b : ℕ) → b ∈ hop_borders hs → b ∈ hop_borders ks → ⊥) → Distinct (hop_borders (hs ++ ks))
sum-once hs ks d e n =
    rw (map-append (λ (h : Hop). h.border) hs ks) (distinct_append (hop_borders hs) (hop_borders ks) d e n)

sum_over : (hs ks : List Hop) {b : ℕ} → b ∈ hop_borders (hs ++ ks) → b ∈ hop_borders hs ⊎ b ∈ hop_borders ks
sum_over hs ks m = Memᴰ.append_cases (hop_borders hs) (rw (map-append (λ (h : Hop). h.border) hs ks) at m)

module _ (h w y x : ℕ) (hy : y < h) (hx : x < w) where
  S : Spot h w y x
  S = spot h w y x hy hx

  above : {b : ℕ} → b ∈ hop_borders (hop_above h w y x) → (0 < y) × (b ≡ h * (w - 1) + ((y - 1) * w + x))
  unfolding hop_above below_of cell_at
  above m = let r = if-over (ltb 0 y) _ _ m in (ltb-true 0 y r.0, r.1)

  below : {b : ℕ} → b ∈ hop_borders (hop_below h w y x) → b ≡ h * (w - 1) + (y * w + x)
  unfolding hop_below below_of cell_at
  below m = (if-over (ltb (y + 1) h) _ _ m).1

  left : {b : ℕ} → b ∈ hop_borders (hop_left h w y x) → (0 < x) × (b ≡ y * (w - 1) + (x - 1))
  unfolding hop_left right_of
  left m = let r = if-over (ltb 0 x) _ _ m in (ltb-true 0 x r.0, r.1)

  right : {b : ℕ} → b ∈ hop_borders (hop_right h w y x) → (x + 1 < w) × (b ≡ y * (w - 1) + x)
  unfolding hop_right right_of
  right m = let r = if-over (ltb (x + 1) w) _ _ m in (ltb-true (x + 1) w r.0, r.1)

  above-once : Distinct (hop_borders (hop_above h w y x))
  unfolding hop_above
  above-once = if-once (ltb 0 y) (below_of h w (y - 1) x) (cell_at h w (y - 1) x)

  below-once : Distinct (hop_borders (hop_below h w y x))
  unfolding hop_below
  below-once = if-once (ltb (y + 1) h) (below_of h w y x) (cell_at h w (y + 1) x)

  left-once : Distinct (hop_borders (hop_left h w y x))
  unfolding hop_left
  left-once = if-once (ltb 0 x) (right_of h w y (x - 1)) (cell_at h w y (x - 1))

  right-once : Distinct (hop_borders (hop_right h w y x))
  unfolding hop_right
  right-once = if-once (ltb (x + 1) w) (right_of h w y x) (cell_at h w y (x + 1))

  abbrev side : List Hop
  side = hop_left h w y x ++ hop_right h w y x

  side-once : Distinct (hop_borders side)
  side-once =
      sum-once (hop_left h w y x) (hop_right h w y x) left-once right-once
      (λ b p q. let a = left p in let c = right q in omega (arith, a, c))

  -- a border on the side has a smaller number than one above or below
  side-low : {b : ℕ} → b ∈ hop_borders side → b < h * (w - 1)
  side-low m = go (sum_over (hop_left h w y x) (hop_right h w y x) m)
    where
      go : {b : ℕ} → b ∈ hop_borders (hop_left h w y x) ⊎ b ∈ hop_borders (hop_right h w y x) → b < h * (w - 1)
      go (inl p) = let a = left p in omega (arith, a, S.line)
      go (inr p) = let a = right p in omega (arith, a, S.line)

  at_ahead : Distinct (hop_borders (ahead_at h w y x))
  unfolding ahead_at
  at_ahead =
      sum-once (hop_below h w y x) (hop_right h w y x) below-once right-once
      (λ b p q. let a = below p in let c = right q in omega (arith, a, c, S.line))

  at-around : Distinct (hop_borders (around_at h w y x))
  unfolding around_at
  at-around =
      sum-once (hop_above h w y x) (hop_below h w y x ++ side) above-once
      (sum-once (hop_below h w y x) side below-once side-once
      (λ b p q. let a = below p in let c = side-low q in omega (arith, a, c)))
      (λ b p q. upper (above p) (sum_over (hop_below h w y x) side q))
    where
      upper : {b : ℕ} → (0 < y) × (b ≡ h * (w - 1) + ((y - 1) * w + x))
          → b ∈ hop_borders (hop_below h w y x) ⊎ b ∈ hop_borders side → ⊥
      upper a (inl q) = let c = below q in omega (arith, a, c, S.up a.0)
      upper a (inr q) = let c = side-low q in omega (arith, a, c)

pub flat-hops : (h w : ℕ) → 0 < w → HopsOnce (flat h w)
unfolding flat
flat-hops h w hw =
    record {
      ahead-first = λ x j l m. ((flat-linked h w hw).of-ahead x j l m).first-is;
      ahead-once = λ x l. let r = row_of_lem h w x l in at_ahead h w (x / w) (x % w) r.row r.column;
      around-once = λ x l. let r = row_of_lem h w x l in at-around h w (x / w) (x % w) r.row r.column;
    }
