-- Laws of any and all: element by element, two tests that agree, and any and all of maps, flat_maps, tables and ranges.
use Rattle.std.specs.Prelude.{◌≡◌, Bool, true, false, ◌&&◌, length, get_or}
use Rattle.std.proofs.Math.Path.{refl, sym, ap}
use Rattle.std.proofs.Common.{◌∙◌}
use Rattle.std.proofs.Math.Bool.{or-true, and-true}
use mathlib.Core.List.Memᴰ
use mathlib.Core.List.{List, [], ◌∷◌, map}
use Prim.Native.Nat.{ℕ, zero, suc, ◌+◌, ◌<◌}
use native.Mathlib.Omega.{arith}
use Rattle.lists.specs.Lists.{◌∈◌, any, all, flat_map, range_from}
use Rattle.lists.specs.Table.{table}
use Rattle.lists.specs.Tests.{all_below}
use Rattle.lists.specs.Booleans.{T_true}
use Rattle.lists.specs.ListLaws.{any-find, all-mem, get_d-mem}
use Rattle.lists.specs.Appends.{any_append, all_append}
use Rattle.lists.specs.TestLaws.{all-cong, all_first}

-- ---- element by element
module _ {A : Type 0} (f : A → Bool) {xs : List A} where
  pub any-nil : xs ≡ [] → any f xs ≡ false
  unfolding any
  any-nil e = rw e

  pub all_nil : xs ≡ [] → all f xs ≡ true
  unfolding all
  all_nil e = rw e

  module _ {x : A} {ys : List A} (e : xs ≡ x ∷ ys) where
    pub any-hit : f x ≡ true → any f xs ≡ true
    unfolding any
    any-hit h = rw (e, h)

    pub any-skip : f x ≡ false → any f xs ≡ any f ys
    unfolding any
    any-skip h = rw (e, h)

    pub all-miss : f x ≡ false → all f xs ≡ false
    unfolding all
    all-miss h = rw (e, h)

    pub all-skip : f x ≡ true → all f xs ≡ all f ys
    unfolding all
    all-skip h = rw (e, h)

module _ {A : Type 0} where
  -- ---- two tests that agree
  pub any_same : (f g : A → Bool) (xs : List A) → ((x : A) → x ∈ xs → f x ≡ g x) → any f xs ≡ any g xs
  unfolding any
  any_same f g [] e = refl
  any_same f g (x ∷ xs) e = rw (e x (Memᴰ.head refl), any_same f g xs (λ y m. e y (Memᴰ.tail m)))

  pub all_same : (f g : A → Bool) (xs : List A) → ((x : A) → x ∈ xs → f x ≡ g x) → all f xs ≡ all g xs
  unfolding all
  all_same f g [] e = refl
  all_same f g (x ∷ xs) e = rw (e x (Memᴰ.head refl), all_same f g xs (λ y m. e y (Memᴰ.tail m)))

  -- no element passes
  pub any-never : (f : A → Bool) (xs : List A) → ((x : A) → x ∈ xs → f x ≡ false) → any f xs ≡ false
  unfolding any
  any-never f [] e = refl
  any-never f (x ∷ xs) e = rw (e x (Memᴰ.head refl), any-never f xs (λ y m. e y (Memᴰ.tail m)))

  -- ---- the element that passes
  pub any-holds : (p : A → Bool) (xs : List A) → any p xs ≡ true → (x : A) × x ∈ xs × (p x ≡ true)
  any-holds p xs e = let r = any-find p xs (rw e tt) in (r.0, r.1, T_true (p r.0) r.2)

  pub holds-any : (p : A → Bool) {x : A} {xs : List A} → x ∈ xs → p x ≡ true → any p xs ≡ true
  unfolding any
  holds-any p (Memᴰ.head q) e = rw (← q, e)
  holds-any p {xs = y ∷ ys} (Memᴰ.tail m) e = rw (holds-any p m e) (or-true (p y))

  pub all-get : (p : A → Bool) (xs : List A) (i : ℕ) (d : A) → all p xs ≡ true → i < length xs
      → p (get_or xs i d) ≡ true
  all-get p xs i d e h = T_true (p (get_or xs i d)) (all-mem p xs (rw e tt) (get_d-mem xs i d h))

-- ---- maps, flat_maps, tables, ranges
module _ {A B : Type 0} where
  pub any-map : (p : B → Bool) (f : A → B) (xs : List A) → any p (map f xs) ≡ any (λ x. p (f x)) xs
  unfolding any
  any-map p f [] = refl
  any-map p f (x ∷ xs) = rw (any-map p f xs)

  pub any-flat : (p : B → Bool) (f : A → List B) (xs : List A) → any p (flat_map f xs) ≡ any (λ x. any p (f x)) xs
  unfolding any flat_map
  any-flat p f [] = refl
  any-flat p f (x ∷ xs) = any_append p (f x) (flat_map f xs) ∙ rw (any-flat p f xs)

  pub all_map : (p : B → Bool) (f : A → B) (xs : List A) → all p (map f xs) ≡ all (λ x. p (f x)) xs
  unfolding all
  all_map p f [] = refl
  all_map p f (x ∷ xs) = rw (all_map p f xs)

  pub all-flat : (p : B → Bool) (f : A → List B) (xs : List A) → all p (flat_map f xs) ≡ all (λ x. all p (f x)) xs
  unfolding all flat_map
  all-flat p f [] = refl
  all-flat p f (x ∷ xs) = all_append p (f x) (flat_map f xs) ∙ rw (all-flat p f xs)

module _ {A : Type 0} where
  pub all-table : (p : A → Bool) (n : ℕ) (f : ℕ → A) → all p (table n f) ≡ all_below n (λ i. p (f i))
  unfolding table all_below all
  all-table p zero f = refl
  all-table p (suc n) f = rw (all_append p (table n f) (f n ∷ []), all-table p n f, and-true (p (f n)))

  pub all-range : (p : A → Bool) (f : ℕ → A) (i n : ℕ)
      → all p (map f (range_from i n)) ≡ all_below n (λ j. p (f (i + j)))
  unfolding all all_below
  all-range p f i zero = refl
  all-range p f i (suc n) =
      let e : i ≡ i + 0 = omega arith in
      ap (λ (b : Bool). p (f i) && b)
      (all-range p f (suc i) n
      ∙ all-cong n (λ j. p (f (suc i + j))) (λ j. p (f (i + suc j)))
      (λ j l. ap (λ k. p (f k)) (omega arith)))
      ∙ (ap (λ k. p (f k) && all_below n (λ j. p (f (i + suc j)))) e ∙ sym (all_first n (λ j. p (f (i + j)))))
