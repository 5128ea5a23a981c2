-- The functions of Lists on one list after the other.
use Rattle.std.specs.Prelude.{◌≡◌, Bool, ◌&&◌, ◌||◌}
use Rattle.std.proofs.Math.Path.{refl, ap}
use Rattle.std.proofs.Common.{sym}
use Rattle.std.proofs.Math.Bool.{true, false, and_assoc, or_assoc}
use mathlib.Core.List.{List, [], ◌∷◌, ◌++◌, append_assoc}
use Rattle.std.proofs.Math.Option.{Option, some, none}
use Rattle.lists.specs.Lists.{keep_if, filter, any, all, or_else, flat_map, first_hit}

module _ {A : Type 0} where
  pub filter-append : (p : A → Bool) (xs ys : List A) → filter p (xs ++ ys) ≡ filter p xs ++ filter p ys
  unfolding filter
  filter-append p [] ys = refl
  filter-append p (x ∷ xs) ys = go (p x) (filter-append p xs ys)
    where
      go : (b : Bool) → filter p (xs ++ ys) ≡ filter p xs ++ filter p ys
          → keep_if b x (filter p (xs ++ ys)) ≡ keep_if b x (filter p xs) ++ filter p ys
      go true e = ap (λ (l : List A). x ∷ l) e
      go false e = e

  pub any_append : (p : A → Bool) (xs ys : List A) → any p (xs ++ ys) ≡ any p xs || any p ys
  unfolding any
  any_append p [] ys = refl
  any_append p (x ∷ xs) ys = rw (any_append p xs ys) (sym (or_assoc (p x) (any p xs) (any p ys)))

  pub all_append : (p : A → Bool) (xs ys : List A) → all p (xs ++ ys) ≡ all p xs && all p ys
  unfolding all
  all_append p [] ys = refl
  all_append p (x ∷ xs) ys = rw (all_append p xs ys) (sym (and_assoc (p x) (all p xs) (all p ys)))

module _ {A B : Type 0} where
  pub flat_append : (f : A → List B) (xs ys : List A) → flat_map f (xs ++ ys) ≡ flat_map f xs ++ flat_map f ys
  unfolding flat_map
  flat_append f [] ys = refl
  flat_append f (x ∷ xs) ys = rw (flat_append f xs ys, append_assoc)

  pub first-append : (f : A → Option B) (xs ys : List A)
      → first_hit f (xs ++ ys) ≡ or_else (first_hit f xs) (first_hit f ys)
  unfolding first_hit or_else
  first-append f [] ys = refl
  first-append f (x ∷ xs) ys = go (f x) (first-append f xs ys)
    where
      go : (o : Option B) → first_hit f (xs ++ ys) ≡ or_else (first_hit f xs) (first_hit f ys)
          → or_else o (first_hit f (xs ++ ys)) ≡ or_else (or_else o (first_hit f xs)) (first_hit f ys)
      go none e = e
      go (some b) e = refl
