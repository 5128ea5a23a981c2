-- Lists: what the definitions of crate rules are written with. Every function computes.
--
--   x ∈ xs              x is an element of xs
--   keep_if test x xs   xs with x before it where the test holds, otherwise xs
--   filter p xs         the elements that pass the test, in order
--   any p xs, all p xs  some element passes; every element passes
--   or_else a b         a where it is some, otherwise b
--   head? xs            the first element, if there is one
--   flat_map f xs       the lists f gives, one after the other
--   first_hit f xs      the first some that f gives
--   range_from i n      n numbers from i on, in order
--   range n             0 to n - 1, in order
--   Distinct xs         no element stands in xs twice
use Rattle.std.specs.Prelude.{Bool, true, false, ◌&&◌, ◌||◌, ℕ, zero, suc}
use mathlib.Core.List.{List, [], ◌∷◌, ◌++◌, Memᴰ}
use Rattle.std.proofs.Math.Option.{Option, some, none}

infix 25 ◌∈◌
abbrev pub ◌∈◌ {ℓ} : {A : Type ℓ} → A → List A → Type ℓ
x ∈ xs = Memᴰ x xs

module _ {A : Type 0} where
  abbrev pub keep_if : Bool → A → List A → List A
  keep_if true x xs = x ∷ xs
  keep_if false x xs = xs

  unfoldable pub filter : (A → Bool) → List A → List A
  filter p [] = []
  filter p (x ∷ xs) = keep_if (p x) x (filter p xs)

  unfoldable pub any : (A → Bool) → List A → Bool
  any p [] = false
  any p (x ∷ xs) = p x || any p xs

  unfoldable pub all : (A → Bool) → List A → Bool
  all p [] = true
  all p (x ∷ xs) = p x && all p xs

  unfoldable pub or_else : Option A → Option A → Option A
  or_else (some a) o = some a
  or_else none o = o

  abbrev pub head? : List A → Option A
  head? [] = none
  head? (x ∷ xs) = some x

module _ {A B : Type 0} where
  unfoldable pub flat_map : (A → List B) → List A → List B
  flat_map f [] = []
  flat_map f (x ∷ xs) = f x ++ flat_map f xs

  -- the first hit
  unfoldable pub first_hit : (A → Option B) → List A → Option B
  unfolding or_else
  first_hit f [] = none
  first_hit f (x ∷ xs) = let rest = first_hit f xs in or_else (f x) rest

-- 0 to n - 1, in order
abbrev pub range_from : ℕ → ℕ → List ℕ
range_from i zero = []
range_from i (suc n) = i ∷ range_from (suc i) n

abbrev pub range : ℕ → List ℕ
range n = range_from zero n

abbrev pub Distinct : {A : Type 0} → List A → Type 0
Distinct [] = Unit {0}
Distinct (x ∷ xs) = (x ∈ xs → ⊥) × Distinct xs
