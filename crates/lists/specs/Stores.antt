-- Laws of stores: into one list after another, of one list after another, past the end, of a flag, and of the lists of
-- a flat_map.
use Rattle.std.specs.Prelude.{◌≡◌, refl, length, get_or, set, take, drop}
use Rattle.std.proofs.Math.Path.{ap}
use Rattle.std.proofs.Common.{ap₂, sym, ◌∙◌, not-suc-le-zero, le_of_suc-le-suc, add-one, length-append}
use Rattle.std.proofs.Common.{take-append-drop, get_or-append-add, take-suc, take-suc-set, drop-drop, drop_at}
use Rattle.std.proofs.Common.{length-take-le, get_or-set_same, get_or-set_other}
use mathlib.Core.List.{List, [], ◌∷◌, ◌++◌, append_assoc}
use Prim.Native.Nat.{ℕ, zero, suc, ◌+◌, ◌*◌, ◌<◌, ◌≤◌}
use Rattle.std.proofs.Math.Nat.{mul-zero, mul-suc}
use native.Mathlib.Omega.{arith}
use Rattle.std.proofs.Math.Seq.{sets, take-append_seam, slice, set_out}
use Rattle.std.proofs.lemmas.List.Edits.{sets-eq}
use Rattle.std.proofs.lemmas.List.{drop-append-le}
use Rattle.lists.specs.Lists.{flat_map}
use Rattle.lists.specs.Arithmetic.{if-same}
use Rattle.lists.specs.Flats.{length-flat, flat-last}

-- ---- one list after another
module _ {A : Type 0} (p q : List A) (m : ℕ) (e : length p ≡ m) where
  pub get_d_past : (i : ℕ) (d : A) → get_or (p ++ q) (m + i) d ≡ get_or q i d
  get_d_past i d = rw (← e) (get_or-append-add p q i d)

module _ {A : Type 0} where
  set-append-add : (p q : List A) (i : ℕ) (a : A) → set (p ++ q) (length p + i) a ≡ p ++ set q i a
  set-append-add [] q i a = let e : 0 + i ≡ i = omega arith in ap (λ j. set q j a) e
  set-append-add (x ∷ p) q i a =
      let e : suc (length p) + i ≡ suc (length p + i) = omega arith in
      ap (λ j. set (x ∷ (p ++ q)) j a) e ∙ ap (λ (l : List A). x ∷ l) (set-append-add p q i a)

  sets-append-add : (p q : List A) (i : ℕ) (vs : List A) → sets (p ++ q) (length p + i) vs ≡ p ++ sets q i vs
  sets-append-add p q i [] = refl
  sets-append-add p q i (v ∷ vs) =
      let e : suc (length p + i) ≡ length p + suc i = omega arith in
      ap₂ (λ (l : List A) (j : ℕ). sets l j vs) (set-append-add p q i v) e ∙ sets-append-add p (set q i v) (suc i) vs

  pub sets-past : (p q : List A) (m i : ℕ) (vs : List A) → length p ≡ m → sets (p ++ q) (m + i) vs ≡ p ++ sets q i vs
  sets-past p q m i vs e = rw (← e) (sets-append-add p q i vs)

  pub sets-append : (l : List A) (i : ℕ) (xs ys : List A) → sets l i (xs ++ ys) ≡ sets (sets l i xs) (i + length xs) ys
  sets-append l i [] ys = let e : i + 0 ≡ i = omega arith in sym (ap (λ j. sets l j ys) e)
  sets-append l i (x ∷ xs) ys =
      let e : suc i + length xs ≡ i + suc (length xs) = omega arith in
      sets-append (set l i x) (suc i) xs ys ∙ ap (λ j. sets (sets (set l i x) (suc i) xs) j ys) e

  -- what was stored from the start stands there
  pub take-sets : (l vs : List A) → length vs ≤ length l → take (length vs) (sets l 0 vs) ≡ vs
  take-sets l vs h =
      ap (λ (x : List A). take (length vs) x) (sets-eq vs l 0 (omega arith)) ∙ take-append_seam vs _

  -- stored over as many others
  pub sets_over : (vs r t : List A) → length r ≡ length vs → sets (r ++ t) 0 vs ≡ vs ++ t
  sets_over vs r t e =
      let l = length-append r t in
      sets-eq vs (r ++ t) 0 (omega arith)
      ∙ ap (λ (x : List A). vs ++ x) (drop_at r t (0 + length vs) (omega arith))

  -- stored into the first of two lists
  pub sets-front : (p q vs : List A) → length vs ≤ length p → sets (p ++ q) 0 vs ≡ sets p 0 vs ++ q
  sets-front p q vs h =
      let l = length-append p q in
      sets-eq vs (p ++ q) 0 (omega arith)
      ∙ ap (λ (x : List A). vs ++ x) (drop-append-le (0 + length vs) p q (omega arith))
      ∙ sym (ap (λ (x : List A). x ++ q) (sets-eq vs p 0 (omega arith))
      ∙ append_assoc vs (drop (0 + length vs) p) q)

  -- the elements before i are stored from a on, and one more
  pub sets_more : (l : List A) (a : ℕ) (xs : List A) (i : ℕ) (d : A) → i < length xs
      → set (sets l a (take i xs)) (a + i) (get_or xs i d) ≡ sets l a (take (i + 1) xs)
  sets_more l a xs i d h =
      let t = length-take-le i xs (omega arith) in
      let e : a + i ≡ a + length (take i xs) = omega arith in
      ap (λ j. sets (sets l a (take i xs)) j (get_or xs i d ∷ [])) e
      ∙ sym (sets-append l a (take i xs) (get_or xs i d ∷ []))
      ∙ ap (λ (x : List A). sets l a x) (sym (take-suc xs i d h) ∙ ap (λ j. take j xs) (sym (add-one i)))

  -- the next n elements, and what comes after them
  pub drop-split : (n i : ℕ) (l : List A) → drop i l ≡ take n (drop i l) ++ drop (i + n) l
  drop-split n i l =
      sym (ap (λ (x : List A). take n (drop i l) ++ x) (sym (drop-drop n i l)) ∙ take-append-drop n (drop i l))

  -- past the end nothing is stored
  pub sets-out : (l : List A) (i : ℕ) (vs : List A) → length l ≤ i → sets l i vs ≡ l
  sets-out l i [] h = refl
  sets-out l i (v ∷ vs) h = rw (set_out l i v h) (sets-out l (suc i) vs (omega arith))

  -- a slice with what is stored at its end
  pub slice-push : (f t : ℕ) (l : List A) (v : A) → f ≤ t → t < length l
      → slice f (suc t) (set l t v) ≡ slice f t l ++ (v ∷ [])
  slice-push f t l v q r =
      rw (take-suc-set l t v r) (drop-append-le f (take t l) (v ∷ []) (rw (length-take-le t l (omega arith)) q))

-- a flag once set stays so, whatever flag is set next
pub flag-set : (F : List ℕ) (to c : ℕ) → to < length F → get_or F c 0 ≡ 1 → get_or (set F to 1) c 0 ≡ 1
flag-set F to c l e = if-same c to (λ q. rw q (get_or-set_same F to 1 0 l)) (λ q. get_or-set_other F to c 1 0 q ∙ e)

-- ---- the lists of k elements each that flat_map puts in a row
module _ {A B : Type 0} (f : A → List B) (k : ℕ) (long : (x : A) → length (f x) ≡ k) where
  -- one element is replaced by storing its list
  pub sets-flat : ((x y : A) (l : List B) → sets (f x ++ l) 0 (f y) ≡ f y ++ l)
      → (xs : List A) (i : ℕ) (a : A) → i < length xs → sets (flat_map f xs) (k * i) (f a) ≡ flat_map f (set xs i a)
  unfolding flat_map
  sets-flat over [] i a h = absurd (not-suc-le-zero h)
  sets-flat over (x ∷ xs) zero a h =
      let e : k * 0 ≡ 0 = mul-zero k in
      ap (λ n. sets (f x ++ flat_map f xs) n (f a)) e ∙ over x a (flat_map f xs)
  sets-flat over (x ∷ xs) (suc i) a h =
      let q : k * suc i ≡ k * i + k = mul-suc k i in
      let e : k * suc i ≡ k + k * i = omega arith in
      ap (λ n. sets (f x ++ flat_map f xs) n (f a)) e
      ∙ sets-past (f x) (flat_map f xs) k (k * i) (f a) (long x)
      ∙ ap (λ (l : List B). f x ++ l) (sets-flat over xs i a (le_of_suc-le-suc h))

  -- the lists of the elements before i are stored from a on, and one more
  pub sets-flat-more : (s : List B) (a : ℕ) (xs : List A) (i : ℕ) (d : A) → i < length xs
      → sets (sets s a (flat_map f (take i xs))) (a + k * i) (f (get_or xs i d))
      ≡ sets s a (flat_map f (take (i + 1) xs))
  sets-flat-more s a xs i d h =
      let t = length-take-le i xs (omega arith) in
      let l = length-flat f k (take i xs) (λ x m. long x) ∙ ap (λ n. k * n) t in
      let e : a + k * i ≡ a + length (flat_map f (take i xs)) = omega arith in
      ap (λ j. sets (sets s a (flat_map f (take i xs))) j (f (get_or xs i d))) e
      ∙ sym (sets-append s a (flat_map f (take i xs)) (f (get_or xs i d)))
      ∙ ap (λ (x : List B). sets s a x)
      (sym (flat-last f (take i xs) (get_or xs i d))
      ∙ ap (λ (x : List A). flat_map f x) (sym (take-suc xs i d h) ∙ ap (λ j. take j xs) (sym (add-one i))))
