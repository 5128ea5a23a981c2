-- Tests of states and colours as facts, and the parts of a reason.
--
--   contains-l, contains-r, has   what contains a reason contains its parts and its literals
--   open_is, wall-is, open-not-wall  tests of a state
--   not-both, not-self, unlike-T  tests of two colours
--   colour-listed                 both colours are tried
use Rattle.std.specs.Prelude.{◌≡◌, refl, Bool, true, false, not, List, [], ◌∷◌, ◌++◌, ℕ, T}
use Rattle.std.proofs.Common.{◌∙◌, true≢false}
use Rattle.std.specs.Bool.{beq}
use Rattle.std.proofs.lemmas.Bool.{false≢true}
use mathlib.Core.List.Memᴰ
use Rattle.lists.specs.Lists.{◌∈◌}
use Rattle.rules.specs.declared.Side.TheVariants.{Wall, Open}
use Rattle.rules.specs.declared.Literal.{Literal}
use Rattle.rules.specs.Page.{State, undecided, decided, Has, Contains, is_wall, is_open}

pub contains-l : (σ : ℕ → State) (r q : List Literal) → Contains σ (r ++ q) → Contains σ r
unfolding Contains
contains-l σ r q c l m = c l (Memᴰ.append_left q m)

pub contains-r : (σ : ℕ → State) (r q : List Literal) → Contains σ (r ++ q) → Contains σ q
unfolding Contains
contains-r σ r q c l m = c l (Memᴰ.append_right r m)

pub has : (σ : ℕ → State) (r : List Literal) → Contains σ r → (l : Literal) → l ∈ r → Has σ l
unfolding Contains
has σ r c l m = c l m

pub open_is : (m : State) → T (is_open m) → m ≡ decided Open
open_is undecided t = absurd t
open_is (decided Wall) t = absurd t
open_is (decided Open) t = refl

pub wall-is : (m : State) → T (is_wall m) → m ≡ decided Wall
wall-is undecided t = absurd t
wall-is (decided Open) t = absurd t
wall-is (decided Wall) t = refl

pub open-not-wall : (m : State) → T (is_open m) → m ≡ decided Wall → ⊥
open-not-wall m t e = rw e at t

pub not-both : (a b : Bool) → T (not (beq a b)) → b ≡ not a
not-both true true t = absurd t
not-both true false t = refl
not-both false true t = refl
not-both false false t = absurd t

pub not-self : (a b : Bool) → a ≡ b → b ≡ not a → ⊥
not-self true b e f = true≢false (e ∙ f)
not-self false b e f = false≢true (e ∙ f)

pub unlike-T : (a b : Bool) → b ≡ not a → T (not (beq a b))
unlike-T true b e = rw e tt
unlike-T false b e = rw e tt

pub colour-listed : (c : Bool) → c ∈ (false ∷ true ∷ [])
colour-listed false = Memᴰ.head refl
colour-listed true = Memᴰ.tail (Memᴰ.head refl)
