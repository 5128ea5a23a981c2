-- A claim about every reason that a hit can give: none is given, or the claim holds of it.
--
--   Each Q o                        there is no hit, or the claim Q holds of its reason
--   each-hit, each-else, each_or, each_first, each_none  Each for hit_if, or_else, first_hit, none
--   each-some                       what it says of a reason that was given
--   hit-misses, else-none           what a search that gives none has passed
use Rattle.std.specs.Prelude.{◌≡◌, Bool, ℕ, T}
use Rattle.std.proofs.Math.Path.{refl}
use Rattle.std.proofs.Math.Bool.{true, false}
use mathlib.Core.List.Memᴰ
use mathlib.Core.List.{List, [], ◌∷◌}
use Rattle.std.proofs.Math.Option.{Option, some, none}
use Rattle.std.proofs.Common.{arith}
use Rattle.lists.specs.Lists.{◌∈◌, or_else, first_hit}
use Rattle.rules.specs.Check.{Reason, hit_if}

module _ (Q : Reason → Type 0) where
  unfoldable pub Each : Option Reason → Type 0
  Each none = Unit {0}
  Each (some r) = Q r

  pub each_none : Each none
  unfolding Each
  each_none = tt

  pub each-some : (r : Reason) → Each (some r) → Q r
  unfolding Each
  each-some r q = q

  pub each-hit : (b : Bool) (r : Reason) → (T b → Q r) → Each (hit_if b r)
  unfolding Each hit_if
  each-hit true r f = f tt
  each-hit false r f = tt

  -- the second search runs only where the first gives none
  pub each-else : (a b : Option Reason) → Each a → (a ≡ none → Each b) → Each (or_else a b)
  unfolding Each or_else
  each-else none b p q = q refl
  each-else (some r) b p q = p

  pub each_or : (a b : Option Reason) → Each a → Each b → Each (or_else a b)
  each_or a b p q = each-else a b p (λ e. q)

  pub each_first : {A : Type 0} (f : A → Option Reason) (xs : List A) → ((x : A) → x ∈ xs → Each (f x))
      → Each (first_hit f xs)
  unfolding Each first_hit
  each_first f [] p = tt
  each_first f (x ∷ xs) p =
      each-else (f x) (first_hit f xs) (p x (Memᴰ.head refl)) (λ e. each_first f xs (λ y m. p y (Memᴰ.tail m)))

pub hit-misses : (b : Bool) (r : Reason) → hit_if b r ≡ none → T b → ⊥
unfolding hit_if
hit-misses true r e t = let z : ◌≡◌ {A = ℕ} 0 1 = cc in omega arith
hit-misses false r e t = t

pub else-none : (a b : Option Reason) → or_else a b ≡ none → (a ≡ none) × (b ≡ none)
unfolding or_else
else-none none b e = (refl, e)
else-none (some r) b e = let z : ◌≡◌ {A = ℕ} 0 1 = cc in absurd (omega arith)
