-- Laws of the search in one row: the word that is left after some connections, and the loop with its early exit.
use Rattle.std.specs.Prelude.{◌≡◌, Bool, false, not, ◌&&◌, List, eqb}
use Rattle.std.proofs.Math.Path.{refl, sym}
use Rattle.std.proofs.Common.{ap₂, ◌∙◌, lt_of_le_of_lt, eq-or-lt_of_le, le_of_suc-le-suc, add-one}
use Rattle.std.proofs.Math.Bool.{and_assoc, and-true}
use Rattle.std.proofs.Math.Logic.{⊎_elim}
use Prim.Native.Nat.{ℕ, zero, suc, ◌+◌, ◌*◌, ◌/◌, ◌^◌, ◌<◌, ◌≤◌}
use native.Mathlib.Omega.{arith}
use Rattle.std.specs.Int.Bits.{bit_and, and_le_l}
use Rattle.std.proofs.Math.ListN.{get_or}
use Rattle.lists.specs.Tests.{all_below}
use Rattle.lists.specs.TestLaws.{any-cong}
use Rattle.shapes.specs.Raising.{ys_in, xs_in}
use Rattle.planes.specs.Bits.{bit_at}
use Rattle.planes.specs.BitLaws.{bit-and, bit-shr, some-bit}
use Rattle.planes.specs.Masks.{plane_bit, clear_word, line_fits}

module _ (p : List ℕ) (y : ℕ) (ts : List ℕ) (v : ℕ) where
  abbrev left : ℕ → ℕ
  left j = clear_word p y ts v j

  -- connection j, as it is laid over the row
  abbrev mask : ℕ → ℕ
  mask j = get_or p (2 * y + get_or (ys_in ts) j 0) 0 / 2 ^ (get_or (xs_in ts) j 0 / 2)

  -- connection j is clear at column x
  abbrev clear : ℕ → ℕ → Bool
  clear x j = plane_bit p (2 * y + get_or (ys_in ts) j 0) (get_or (xs_in ts) j 0 / 2 + x)

  pub clear_none : v ≡ clear_word p y ts v 0
  unfolding clear_word
  clear_none = refl

  pub clear-more : (j : ℕ) {acc : ℕ} → acc ≡ clear_word p y ts v j
      → bit_and acc (get_or p (2 * y + get_or (ys_in ts) j 0) 0 / 2 ^ (get_or (xs_in ts) j 0 / 2))
      ≡ clear_word p y ts v (j + 1)
  unfolding clear_word
  clear-more j e = rw (add-one, e)

  -- no origin is left
  stays : (j n : ℕ) → j ≤ n → left j ≡ 0 → left n ≡ 0
  unfolding clear_word
  stays j zero l e = let d : j ≡ 0 = omega arith in rw d at e
  stays j (suc n) l e =
      ⊎_elim
      (λ (d : j ≡ suc n). rw d at e)
      (λ (d : j < suc n). rw (stays j n (le_of_suc-le-suc d) e))
      (eq-or-lt_of_le l)

  left_le : (n : ℕ) → left n ≤ v
  unfolding clear_word
  left_le zero = omega arith
  left_le (suc n) = omega (arith, left_le n, and_le_l (left n) (mask n))

  pub left-bit : (n x : ℕ) → bit_at (left n) x ≡ bit_at v x && all_below n (clear x)
  unfolding clear_word all_below
  left-bit zero x = sym (and-true (bit_at v x))
  left-bit (suc n) x =
      bit-and (left n) (mask n) x
      ∙ (ap₂ (λ (a b : Bool). a && b) (left-bit n x)
      (bit-shr (get_or p (2 * y + get_or (ys_in ts) n 0) 0) (get_or (xs_in ts) n 0 / 2) x)
      ∙ and_assoc (bit_at v x) (all_below n (clear x)) (clear x n))

  pub fits_word : (n : ℕ) → v < 18446744073709551616 → line_fits p y ts n v ≡ not (eqb (left n) 0)
  unfolding line_fits
  fits_word n h =
      any-cong 64 (λ x. bit_at v x && all_below n (clear x)) (bit_at (left n)) (λ x l. sym (left-bit n x))
      ∙ some-bit 64 (left n) (lt_of_le_of_lt (left_le n) h)

  -- the exit in the loop
  pub word-left-none : (n j : ℕ) {acc : ℕ} → acc ≡ clear_word p y ts v j → j ≤ n → acc ≡ 0
      → 0 ≡ clear_word p y ts v n
  word-left-none n j e l z = sym (stays j n l (sym e ∙ z))

-- a row without origins
pub fits-empty : (p : List ℕ) (y : ℕ) (ts : List ℕ) (n : ℕ) {v : ℕ} → v ≡ 0 → line_fits p y ts n v ≡ false
fits-empty p y ts n {v} e =
    fits_word p y ts v n (omega arith)
    ∙ rw (← word-left-none p y ts v n 0 (clear_none p y ts v) (omega arith) e)
