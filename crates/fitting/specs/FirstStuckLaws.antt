-- Laws of the search for a unit that does not fit: what it stops at is step 3's hit.
use Rattle.std.specs.Prelude.{◌≡◌, Bool, not, cond, Some, None}
use Rattle.std.proofs.Math.Path.{refl, sym}
use Rattle.std.proofs.Common.{◌∙◌}
use Rattle.std.proofs.Math.Bool.{true, false}
use mathlib.Core.List.{List, [], ◌∷◌}
use Prim.Native.Nat.{ℕ, zero, suc, ◌+◌, ◌-◌, ◌<◌, ◌≤◌}
use Rattle.std.proofs.Math.Numerals.{add-one}
use native.Mathlib.Omega.{arith}
use Rattle.lists.specs.Lists.{first_hit, or_else, range, range_from}
use Rattle.rules.specs.Page.{State, Puzzle}
use Rattle.rules.specs.Groups.{members, unit_of, potential_of}
use Rattle.rules.specs.Check.{hit_if, unit_reason, unit_hit_in, unit_hit_on, unit_hit}
use Rattle.groups.specs.Pages.{head_of, potential_in}
use Rattle.fitting.specs.FirstStuck.{first_from, first_fail, Passed, fits_on, fits_unit, stuck_hit}

-- the search goes from number to number
pub passed_start : (f : ℕ → Bool) (n : ℕ) → Passed f n 0
unfolding first_fail
passed_start f n = let e : n - 0 ≡ n = omega arith in record { most = omega arith; left = rw e }

module _ {f : ℕ → Bool} {n i : ℕ} (k : Passed f n i) where
  pub passed-done : n ≤ i → None ≡ first_fail f n
  unfolding first_from
  passed-done h =
      let e : n - i ≡ 0 = omega arith in
      sym (k.left ∙ rw e)

  pub passed-all : n ≤ i → Passed f n n
  passed-all h = let m = k.most in let e : i ≡ n = omega arith in rw e at k

  module _ (h : i < n) where
    next : n - i ≡ suc (n - (i + 1))
    next = omega arith

    pub passed_here : f i ≡ false → Some i ≡ first_fail f n
    unfolding first_from
    passed_here e = sym (k.left ∙ rw (next, e))

    pub passed-next : f i ≡ true → Passed f n (i + 1)
    unfolding first_from
    passed-next e = record { most = omega arith; left = k.left ∙ rw (next, e, add-one i) }

module _ (Z : Puzzle) (s : ℕ → State) where
  hit-on : (U : ℕ) (xs : List ℕ)
      → unit_hit_on Z s U xs ≡ hit_if (not (fits_on Z s U xs)) (unit_reason Z s U (potential_of Z s (head_of xs)))
  unfolding unit_hit_on unit_hit_in fits_on hit_if
  hit-on U [] = refl
  hit-on U (x ∷ xs) = refl

  hit-unit : (U : ℕ) → unit_hit Z s U ≡ hit_if (not (fits_unit Z s U)) (unit_reason Z s U (potential_in Z s U))
  unfolding unit_hit fits_unit potential_in
  hit-unit U = hit-on U (members Z.page (unit_of Z s) U)

  hits-from : (i n : ℕ)
      → first_hit (unit_hit Z s) (range_from i n) ≡ stuck_hit Z s (first_from (fits_unit Z s) i n)
  unfolding first_hit or_else stuck_hit hit_if first_from
  hits-from i zero = refl
  hits-from i (suc n) =
      rw (hit-unit i) (go (fits_unit Z s i) (hits-from (suc i) n))
    where
      go : (b : Bool)
          → first_hit (unit_hit Z s) (range_from (suc i) n) ≡ stuck_hit Z s (first_from (fits_unit Z s) (suc i) n)
          → or_else (hit_if (not b) (unit_reason Z s i (potential_in Z s i)))
          (first_hit (unit_hit Z s) (range_from (suc i) n))
          ≡ stuck_hit Z s (cond b (first_from (fits_unit Z s) (suc i) n) (Some i))
      go true e = e
      go false e = refl

  -- step 3 is the reason of the first unit that does not fit
  pub stuck-hit : (n : ℕ) → first_hit (unit_hit Z s) (range n) ≡ stuck_hit Z s (first_fail (fits_unit Z s) n)
  unfolding first_fail
  stuck-hit n = hits-from 0 n

-- what is found is one of the numbers
from-low : (f : ℕ → Bool) (i n : ℕ) {u : ℕ} → first_from f i n ≡ Some u → u < i + n
unfolding first_from
from-low f i zero e = cc
from-low f i (suc n) {u} e = go (f i) e (from-low f (suc i) n)
  where
    go : (b : Bool) → cond b (first_from f (suc i) n) (Some i) ≡ Some u
        → (first_from f (suc i) n ≡ Some u → u < suc i + n) → u < i + suc n
    go true e h = omega (arith, h e)
    go false e h = let d : i ≡ u = cc in omega arith

pub fail-low : (f : ℕ → Bool) (n : ℕ) {u : ℕ} → first_fail f n ≡ Some u → u < n
unfolding first_fail
fail-low f n e = omega (arith, from-low f 0 n e)
