-- Laws of flat_map: two functions that agree, one after another, its length, and what stands where in it.
use Rattle.std.specs.Prelude.{◌≡◌}
use Rattle.std.proofs.Math.Path.{refl, ap, ap₂, sym}
use Rattle.std.proofs.Common.{◌∙◌, not-suc-le-zero, le_of_suc-le-suc}
use mathlib.Core.List.Memᴰ
use mathlib.Core.List.{List, [], ◌∷◌, ◌++◌, map, map-append, append-nil}
use Prim.Native.Nat.{ℕ, zero, suc, ◌+◌, ◌*◌, ◌<◌}
use Rattle.std.proofs.Math.Nat.{mul-zero, mul-suc}
use native.Mathlib.Omega.{arith}
use Rattle.std.proofs.Math.ListN.{length, get_or, replicate, length-append, replicate-append-replicate, get_or-append}
use Rattle.std.proofs.Math.Seq.{get_or-append-add}
use Rattle.lists.specs.Lists.{◌∈◌, flat_map, range}
use Rattle.lists.specs.Appends.{flat_append}
use Rattle.lists.specs.Ranges.{range-more}

module _ {A B C : Type 0} where
  pub flat-map : (f : B → List C) (g : A → B) (xs : List A) → flat_map f (map g xs) ≡ flat_map (λ x. f (g x)) xs
  unfolding flat_map
  flat-map f g [] = refl
  flat-map f g (x ∷ xs) = rw (flat-map f g xs)

  pub map-flat : (g : B → C) (f : A → List B) (xs : List A) → map g (flat_map f xs) ≡ flat_map (λ x. map g (f x)) xs
  unfolding flat_map
  map-flat g f [] = refl
  map-flat g f (x ∷ xs) = map-append g (f x) (flat_map f xs) ∙ ap (λ (l : List C). map g (f x) ++ l) (map-flat g f xs)

  pub flat-flat : (f : B → List C) (g : A → List B) (xs : List A)
      → flat_map f (flat_map g xs) ≡ flat_map (λ x. flat_map f (g x)) xs
  unfolding flat_map
  flat-flat f g [] = refl
  flat-flat f g (x ∷ xs) = flat_append f (g x) (flat_map g xs) ∙ rw (flat-flat f g xs)

module _ {A B : Type 0} where
  pub flat-same : (f g : A → List B) (xs : List A) → ((x : A) → x ∈ xs → f x ≡ g x) → flat_map f xs ≡ flat_map g xs
  unfolding flat_map
  flat-same f g [] e = refl
  flat-same f g (x ∷ xs) e = rw (e x (Memᴰ.head refl), flat-same f g xs (λ y m. e y (Memᴰ.tail m)))

  pub flat-one : (f : A → List B) (x : A) → flat_map f (x ∷ []) ≡ f x
  unfolding flat_map
  flat-one f x = append-nil (f x)

  -- one more element, at the end
  pub flat-last : (f : A → List B) (xs : List A) (x : A) → flat_map f (xs ++ (x ∷ [])) ≡ flat_map f xs ++ f x
  flat-last f xs x =
      flat_append f xs (x ∷ []) ∙ ap (λ (l : List B). flat_map f xs ++ l) (flat-one f x)

  -- ---- lengths
  pub length-flat : (f : A → List B) (k : ℕ) (xs : List A) → ((x : A) → x ∈ xs → length (f x) ≡ k)
      → length (flat_map f xs) ≡ k * length xs
  unfolding flat_map
  length-flat f k [] h = sym (mul-zero k)
  length-flat f k (x ∷ xs) h =
      let a = length-append (f x) (flat_map f xs) in
      let b = h x (Memᴰ.head refl) in
      let c = length-flat f k xs (λ y m. h y (Memᴰ.tail m)) in
      let d : k * suc (length xs) ≡ k * length xs + k = mul-suc k (length xs) in
      omega arith

  -- ---- lists of k elements each
  pub get_d-flat : (f : A → List B) (k : ℕ) → ((x : A) → length (f x) ≡ k)
      → (xs : List A) (i j : ℕ) (d : A) (z : B) → i < length xs → j < k
      → get_or (flat_map f xs) (k * i + j) z ≡ get_or (f (get_or xs i d)) j z
  unfolding flat_map
  get_d-flat f k long [] i j d z h l = absurd (not-suc-le-zero h)
  get_d-flat f k long (x ∷ xs) zero j d z h l =
      let b = long x in
      let q : k * 0 ≡ 0 = mul-zero k in
      let e : k * 0 + j ≡ j = omega arith in
      ap (λ n. get_or (f x ++ flat_map f xs) n z) e ∙ get_or-append (f x) (flat_map f xs) z j (omega arith)
  get_d-flat f k long (x ∷ xs) (suc i) j d z h l =
      let b = long x in
      let q : k * suc i ≡ k * i + k = mul-suc k i in
      let e : k * suc i + j ≡ length (f x) + (k * i + j) = omega arith in
      ap (λ n. get_or (f x ++ flat_map f xs) n z) e
      ∙ get_or-append-add (f x) (flat_map f xs) (k * i + j) z
      ∙ get_d-flat f k long xs i j d z (le_of_suc-le-suc h) l

  -- as many times z
  pub flat-replicate : (f : A → List B) (k : ℕ) (a : A) (z : B) → f a ≡ replicate k z
      → (n : ℕ) → flat_map f (replicate n a) ≡ replicate (k * n) z
  unfolding flat_map
  flat-replicate f k a z e zero = let q : k * 0 ≡ 0 = mul-zero k in sym (ap (λ n. replicate n z) q)
  flat-replicate f k a z e (suc n) =
      let q : k + k * n ≡ k * suc n = omega (arith, mul-suc k n) in
      ap₂ (λ (x y : List B). x ++ y) e (flat-replicate f k a z e n)
      ∙ replicate-append-replicate k (k * n) z
      ∙ ap (λ m. replicate m z) q

-- one more number
pub flat-range : {B : Type 0} (f : ℕ → List B) (n : ℕ) → flat_map f (range (suc n)) ≡ flat_map f (range n) ++ f n
flat-range f n = ap (flat_map f) (range-more n) ∙ flat-last f (range n) n
