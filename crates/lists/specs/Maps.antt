-- Laws of map: two functions that agree, one map after another, and an element of a map.
use Rattle.std.specs.Prelude.{◌≡◌, refl, List, [], ◌∷◌, map, ℕ, zero, suc, ◌<◌, length, get_or}
use Rattle.std.proofs.Common.{ap, ap₂, not-suc-le-zero, le_of_suc-le-suc}
use mathlib.Core.List.Memᴰ
use Rattle.lists.specs.Lists.{◌∈◌}

module _ {A B : Type 0} where
  pub map_same : (f g : A → B) (xs : List A) → ((x : A) → x ∈ xs → f x ≡ g x) → map f xs ≡ map g xs
  map_same f g [] e = refl
  map_same f g (x ∷ xs) e =
      ap₂ (λ y ys. y ∷ ys) (e x (Memᴰ.head refl)) (map_same f g xs (λ y m. e y (Memᴰ.tail m)))

  pub get_d_map : (f : A → B) (xs : List A) (i : ℕ) (a : A) (b : B) → i < length xs
      → get_or (map f xs) i b ≡ f (get_or xs i a)
  get_d_map f [] i a b h = absurd (not-suc-le-zero h)
  get_d_map f (x ∷ xs) zero a b h = refl
  get_d_map f (x ∷ xs) (suc i) a b h = get_d_map f xs i a b (le_of_suc-le-suc h)

pub map-map : {A B C : Type 0} (f : B → C) (g : A → B) (xs : List A) → map f (map g xs) ≡ map (λ a. f (g a)) xs
map-map f g [] = refl
map-map f g (x ∷ xs) = ap (λ l. f (g x) ∷ l) (map-map f g xs)
