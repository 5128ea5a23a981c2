-- Laws of lists that are filled up with one value: a loop that fills one, its length, and what stands where in it.
use Rattle.std.specs.Prelude.{◌≡◌, refl, List, [], ◌∷◌, ◌++◌, ℕ, zero, suc, ◌+◌, ◌-◌, ◌<◌, ◌≤◌, length, get_or, set}
use Rattle.std.specs.Prelude.{take, replicate}
use Rattle.std.proofs.Common.{ap, sym, ◌∙◌, ⊎_elim, not-suc-le-zero, le_of_suc-le-suc, add-one, arith, length-append}
use Rattle.std.proofs.Common.{take_all, ext_get_or, length-take-le, get_or-take, get_or-append-add}
use Rattle.std.proofs.Math.Decide.{dec_lt}
use Rattle.std.proofs.lemmas.List.{length-replicate}
use Rattle.std.proofs.Math.ListN.{get_or-append, get_or-eq_default}
use Rattle.lists.specs.Padded.{padded, filled}
use Rattle.lists.specs.Arithmetic.{le-or-lt, below_more}

module _ {A : Type 0} where
  -- ---- a list of one value
  pub replicate-at : (z : A) (n i : ℕ) → get_or (replicate n z) i z ≡ z
  replicate-at z zero i = refl
  replicate-at z (suc n) zero = refl
  replicate-at z (suc n) (suc i) = replicate-at z n i

  pub replicate-is : (z : A) (n : ℕ) (l : List A) → length l ≡ n → ((i : ℕ) → i < n → get_or l i z ≡ z)
      → l ≡ replicate n z
  replicate-is z n l e h =
      ext_get_or z l (replicate n z) (e ∙ sym (length-replicate n z))
      (λ i k. h i (omega arith) ∙ sym (replicate-at z n i))

  -- ---- a loop that fills
  fill : (m : ℕ) (z d : A) (l : List A) (i : ℕ) → i < length l
      → set (take i l ++ replicate (suc m) z) i (get_or l i d) ≡ take (suc i) l ++ replicate m z
  fill m z d [] i h = absurd (not-suc-le-zero h)
  fill m z d (x ∷ l) zero h = refl
  fill m z d (x ∷ l) (suc i) h = ap (λ t. x ∷ t) (fill m z d l i (le_of_suc-le-suc h))

  pub filled_more : (n : ℕ) (z d : A) (l : List A) (i : ℕ) → i < length l → i < n
      → set (filled n z l i) i (get_or l i d) ≡ filled n z l (i + 1)
  filled_more n z d l i h k =
      let e : n - i ≡ suc (n - (i + 1)) = omega arith in
      rw (e, fill (n - (i + 1)) z d l i h, add-one)

  pub filled-all : (n : ℕ) (z : A) (l : List A) → filled n z l (length l) ≡ padded n z l
  filled-all n z l = rw (take_all (length l) l (omega arith))

  -- ---- a padded list
  pub length-padded : (n : ℕ) (z : A) (l : List A) → length l ≤ n → length (padded n z l) ≡ n
  length-padded n z l h =
      omega (arith, length-append l (replicate (n - length l) z), length-replicate (n - length l) z)

  pub get_d-padded : (n : ℕ) (z : A) (l : List A) (i : ℕ) → get_or (padded n z l) i z ≡ get_or l i z
  get_d-padded n z l i = go (dec_lt i (length l))
    where
      go : Dec (i < length l) → get_or (padded n z l) i z ≡ get_or l i z
      go (yes h) = get_or-append l (replicate (n - length l) z) z i h
      go (no h) =
          let e : length l + (i - length l) ≡ i = omega arith in
          let k : length l ≤ i = omega arith in
          ap (λ (j : ℕ). get_or (padded n z l) j z) (sym e)
          ∙ get_or-append-add l (replicate (n - length l) z) (i - length l) z
          ∙ replicate-at z (n - length l) (i - length l) ∙ sym (get_or-eq_default l z k)

  -- a list of n that has these values, and z past them
  pub padded-is : (n : ℕ) (z : A) (l out : List A) → length l ≤ n → length out ≡ n
      → ((i : ℕ) → get_or out i z ≡ get_or l i z) → out ≡ padded n z l
  padded-is n z l out h e f =
      ext_get_or z out (padded n z l) (e ∙ sym (length-padded n z l h)) (λ i k. f i ∙ sym (get_d-padded n z l i))

  -- a list of n that has z from m on
  pub padded-take : (z : A) (n m : ℕ) (l : List A) → length l ≡ n → m ≤ n → ((i : ℕ) → m ≤ i → get_or l i z ≡ z)
      → padded n z (take m l) ≡ l
  padded-take z n m l e h f =
      let t = length-take-le m l (omega arith) in
      sym (padded-is n z (take m l) l (omega arith) e (λ i. go i t (dec_lt i m)))
    where
      go : (i : ℕ) → length (take m l) ≡ m → Dec (i < m) → get_or l i z ≡ get_or (take m l) i z
      go i t (yes q) = sym (get_or-take m l i z q)
      go i t (no q) = f i (omega arith) ∙ sym (get_or-eq_default (take m l) z (omega arith))

pub zeros : (n i : ℕ) → ◌≡◌ {A = ℕ} (get_or (replicate n 0) i 0) 0
zeros = replicate-at 0

-- one place more is 0, upwards and downwards
pub zero_more : (m : List ℕ) (i : ℕ) → ((j : ℕ) → j < i → get_or m j 0 ≡ 0) → get_or m i 0 ≡ 0
    → (j : ℕ) → j < i + 1 → get_or m j 0 ≡ 0
zero_more m i h e = below_more (λ j. get_or m j 0 ≡ 0) i h e

pub zero-down : (m : List ℕ) (i n : ℕ) → ((j : ℕ) → i ≤ j → j < n → get_or m j 0 ≡ 0) → get_or m (i - 1) 0 ≡ 0
    → (j : ℕ) → i - 1 ≤ j → j < n → get_or m j 0 ≡ 0
zero-down m i n h e j l k =
    ⊎_elim (λ (a : i ≤ j). h j a k) (λ (a : j < i). let d : j ≡ i - 1 = omega arith in rw d e) (le-or-lt i j)
