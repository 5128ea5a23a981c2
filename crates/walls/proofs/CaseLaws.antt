-- More laws of the definitions, by cases; no answer cites them.
use Rattle.std.specs.Prelude.{◌≡◌, refl, true, false, ℕ, zero, suc, ◌+◌, ◌-◌, ◌*◌, ◌<◌, ◌≤◌, Option, Some, None}
use Rattle.std.specs.Option.{option_or, MatchOption}
use Rattle.std.proofs.Common.{◌∙◌, arith, mul-le-mul_right, add-mul}
use Rattle.rules.specs.Page.{State}
use Rattle.reasons.specs.declared.Neighbour.{Neighbour}
use Rattle.reasons.specs.Arrays.{hops_in, hop_of}
use Rattle.walls.specs.declared.Breach.{Breach}
use Rattle.walls.specs.Breaches.{is_breach, breach_on, breach_from}
use Rattle.walls.specs.WallCases.{hop-off, hop-some}

-- WallCases: the neighbour that `step` answers
module _ (s : ℕ → State) (block : ℕ → ℕ) (c : ℕ) where
  pub hop-found : (n : Neighbour) → is_breach s block c (hop_of n) ≡ true
      → Some (record { cell = c; border = n.border; to = n.to }) ≡ breach_on s block c (hops_in (Some n))
  hop-found n e = rw e at (hop-some s block c n)

  -- there is none, or it is no breach
  pub hop-missed : (r : Option Neighbour) → MatchOption r (Unit {0}) (λ n. is_breach s block c (hop_of n) ≡ false)
      → None ≡ breach_on s block c (hops_in r)
  hop-missed None e = hop-off s block c
  hop-missed (Some n) e = rw e at (hop-some s block c n)

-- some cells, and then the others
module _ (f : ℕ → Option Breach) where
  or-assoc : (a b c : Option Breach) → option_or a (option_or b c) ≡ option_or (option_or a b) c
  or-assoc None b c = refl
  or-assoc (Some a) b c = refl

  from-parts : (k n i : ℕ) → breach_from f (k + n) i ≡ option_or (breach_from f k i) (breach_from f n (i + k))
  unfolding breach_from
  from-parts zero n i = let e : i + 0 ≡ i = omega arith in let z : 0 + n ≡ n = omega arith in rw (z, e)
  from-parts (suc k) n i =
      let e : i + suc k ≡ suc i + k = omega arith in
      let z : suc k + n ≡ suc (k + n) = omega arith in
      rw (z, e, from-parts k n (suc i)) (or-assoc (f i) _ _)

  -- what is left of a row of w cells, and of the page
  pub row-split : (w i x : ℕ) → x < w
      → breach_from f (w - x) (i + x) ≡ option_or (f (i + x)) (breach_from f (w - (x + 1)) (i + (x + 1)))
  unfolding breach_from
  row-split w i x h =
      let e : w - x ≡ suc (w - (x + 1)) = omega arith in
      let d : suc (i + x) ≡ i + (x + 1) = omega arith in
      rw (e, d)

  pub page-split : (h w y : ℕ) → y < h
      → breach_from f (h * w - y * w) (y * w)
      ≡ option_or (breach_from f w (y * w)) (breach_from f (h * w - (y + 1) * w) ((y + 1) * w))
  page-split h w y l =
      let n : (y + 1) * w ≡ y * w + w = add-mul y 1 w ∙ omega arith in
      let m : (y + 1) * w ≤ h * w = mul-le-mul_right w (omega arith) in
      let e : h * w - y * w ≡ w + (h * w - (y + 1) * w) = omega arith in
      rw (e, from-parts w (h * w - (y + 1) * w) (y * w), n)
