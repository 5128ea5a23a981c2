-- Laws of up_to: one list more, how long the lists are, a search through them, and flat_map and filter as up_to.
use Rattle.std.specs.Prelude.{◌≡◌, Bool, true, false, length, get_or}
use Rattle.std.proofs.Math.Path.{refl, ap, sym}
use Rattle.std.proofs.Common.{◌∙◌, not-suc-le-zero, eq-or-lt_of_le, le_of_suc-le-suc, add-one, arith}
use Rattle.std.proofs.Math.Bool.{or-true}
use Rattle.std.proofs.Math.Logic.{⊎_elim}
use mathlib.Core.List.{List, [], ◌∷◌, ◌++◌, map, map-append, append_assoc, append-nil}
use Prim.Native.Nat.{ℕ, zero, suc, ◌+◌, ◌<◌, ◌≤◌}
use Rattle.std.proofs.Math.ListN.{length-append}
use Rattle.lists.specs.Lists.{keep_if, filter, any, flat_map, range}
use Rattle.lists.specs.UpTo.{up_to}
use Rattle.lists.specs.Arithmetic.{if-same}
use Rattle.lists.specs.Appends.{any_append}
use Rattle.lists.specs.Filters.{filter_more}

module _ {A : Type 0} where
  pub up_none : (f : ℕ → List A) → up_to f 0 ≡ []
  unfolding up_to
  up_none f = refl

  pub up_more : (f : ℕ → List A) (n : ℕ) → up_to f (n + 1) ≡ up_to f n ++ f n
  unfolding up_to
  up_more f n = rw (add-one n)

  pub up_same : (f g : ℕ → List A) (n : ℕ) → ((i : ℕ) → i < n → f i ≡ g i) → up_to f n ≡ up_to g n
  unfolding up_to
  up_same f g zero e = refl
  up_same f g (suc n) e = rw (up_same f g n (λ i l. e i (omega arith)), e n (omega arith))

  -- the lists to k end before the last one does
  pub up_fits : (f : ℕ → List A) (n k : ℕ) → k < n → length (up_to f k) + length (f k) ≤ length (up_to f n)
  unfolding up_to
  up_fits f zero k h = absurd (not-suc-le-zero h)
  up_fits f (suc n) k h =
      ⊎_elim
      (λ (e : k ≡ n). rw e (omega (arith, length-append (up_to f n) (f n))))
      (λ l. omega (arith, up_fits f n k l, length-append (up_to f n) (f n)))
      (eq-or-lt_of_le (le_of_suc-le-suc h))

  up-shift : (f : ℕ → List A) (n : ℕ) → up_to f (suc n) ≡ f 0 ++ up_to (λ i. f (suc i)) n
  unfolding up_to
  up-shift f zero = sym (append-nil (f 0))
  up-shift f (suc n) = rw (up-shift f n) (simp append_assoc)

  pub flat_up : (f : ℕ → List A) (xs : List ℕ) → flat_map f xs ≡ up_to (λ i. f (get_or xs i 0)) (length xs)
  unfolding flat_map up_to
  flat_up f [] = refl
  flat_up f (x ∷ xs) = rw (flat_up f xs) (sym (up-shift (λ i. f (get_or (x ∷ xs) i 0)) (length xs)))

  -- what a loop gathers that looks at one number after the other
  pub up-filter : (f : ℕ → A) (t : ℕ → Bool) (n : ℕ)
      → up_to (λ i. map f (keep_if (t i) i [])) n ≡ map f (filter t (range n))
  unfolding up_to filter
  up-filter f t zero = refl
  up-filter f t (suc n) =
      ap (λ xs. xs ++ map f (keep_if (t n) n [])) (up-filter f t n)
      ∙ (sym (map-append f (filter t (range n)) (keep_if (t n) n []))
      ∙ ap (map f) (sym (filter_more t n)))

-- a search through lists one after another
module _ {A : Type 0} (f : A → Bool) (g : ℕ → List A) where
  pub up-found : (d n : ℕ) → d < n → any f (g d) ≡ true → any f (up_to g n) ≡ true
  unfolding up_to
  up-found d zero l e = absurd (not-suc-le-zero l)
  up-found d (suc n) l e =
      any_append f (up_to g n) (g n)
      ∙ if-same d n
      (λ z. rw (← z, e) (or-true (any f (up_to g d))))
      (λ z. rw (up-found d n (omega (arith, z)) e))

  pub up-still : (d : ℕ) → any f (up_to g d) ≡ false → any f (g d) ≡ false → any f (up_to g (d + 1)) ≡ false
  up-still d a b = rw (up_more g d, any_append f (up_to g d) (g d), a, b)
