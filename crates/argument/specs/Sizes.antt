-- The size of a unit: the computed count is the rules' size, and a solution's block has units of one size.
--
--   unit_size Z s x         how many cells the unit of x has, as computed
--   unit_mem, mem_unit      the computed list of a unit's cells has exactly the unit's cells
--   unit-has                the computed count is the size of the unit in the sense of the rules
--   unit-size-unique        a unit has one size
--   unit-size-is            so the size that a clue asks for is the computed count
--   congruent-size          congruent units have as many cells
--   block_size              in a solution two cells of one block have units of one size
use Rattle.std.specs.Prelude.{◌≡◌, refl, ◌⊎◌, not, ℕ, ◌≤◌, ◌<◌, T}
use Rattle.std.proofs.Common.{◌∙◌, sym, inl, inr}
use Rattle.std.proofs.Math.Path.{ap, subst}
use Rattle.std.specs.Bool.{beq}
use native.Mathlib.Omega.{arith}
use Rattle.std.proofs.Math.ListN.{length}
use Rattle.lists.specs.Lists.{◌∈◌}
use Rattle.lists.specs.Lengths.{inject-le, subset-le}
use Rattle.lists.specs.Booleans.{T-dec, beq-eq}
use Rattle.rules.specs.Page.{◌⊕◌, Puzzle, State}
use Rattle.rules.specs.Rules.{joins_unit, SameBlock, SameUnit, UnitHas, Congruent, Solution}
use Rattle.rules.specs.Groups.{members, unit_of}
use Rattle.laws.specs.PointLaws.{cancel}
use Rattle.laws.specs.PageLaws.{Bordered, CellsPlaced}
use Rattle.laws.specs.StateLaws.{not-both}
use Rattle.laws.specs.RuleLaws.{join-in}
use Rattle.laws.specs.GroupLaws.{number-joined, joined_number, mem-members, members-lt, members-number}
use Rattle.laws.specs.GroupLaws.{members-distinct, unit_cells, own_unit}

unfoldable pub unit_size : Puzzle → (ℕ → State) → ℕ → ℕ
unit_size Z s x = length (own_unit Z s x)

pub unit-size-unique : (Z : Puzzle) (s : ℕ → State) (x m n : ℕ) → UnitHas Z s x m → UnitHas Z s x n → m ≡ n
unit-size-unique Z s x m n u v =
    let a = subset-le u.cells v.cells u.once (λ y k. v.every y (u.each y k)) in
    let b = subset-le v.cells u.cells v.once (λ y k. u.every y (v.each y k)) in
    let p = u.size in
    let q = v.size in
    omega arith

module _ (Z : Puzzle) (K : Bordered Z.page) (s : ℕ → State) where
  pub unit_mem : (x y : ℕ) → x < Z.page.cells → SameUnit Z s x y → y ∈ own_unit Z s x
  unit_mem x y h j =
      mem-members Z.page (unit_of Z s) _ y (join-in Z.page K _ h j)
      (sym (joined_number Z.page K (joins_unit Z s) h j))

  pub mem_unit : (x y : ℕ) → x < Z.page.cells → y ∈ own_unit Z s x → SameUnit Z s x y
  mem_unit x y h m =
      number-joined Z.page K (joins_unit Z s) x y h (members-lt Z.page (unit_of Z s) _ y m)
      (sym (members-number Z.page (unit_of Z s) _ y m))

  pub unit-has : (x : ℕ) → x < Z.page.cells
      → UnitHas Z s x (length (members Z.page (unit_of Z s) (unit_of Z s x)))
  unit-has x h = record {
    cells = own_unit Z s x;
    once = members-distinct Z.page (unit_of Z s) (unit_of Z s x);
    each = λ y m. mem_unit x y h m;
    every = λ y j. unit_mem x y h j;
    size = refl;
  }

  pub unit-size-is : (x n : ℕ) → x < Z.page.cells → UnitHas Z s x n → unit_size Z s x ≡ n
  unfolding unit_size
  unit-size-is x n h u = unit-size-unique Z s x _ n (unit-has x h) u

  pub unit-size-has : (x n : ℕ) → x < Z.page.cells → unit_size Z s x ≡ n → UnitHas Z s x n
  unfolding unit_size
  unit-size-has x n h e = subst (UnitHas Z s x) e (unit-has x h)

  pub same-unit-size : (x y : ℕ) → x < Z.page.cells → SameUnit Z s x y → unit_size Z s x ≡ unit_size Z s y
  unfolding unit_size
  same-unit-size x y h j = ap (λ k. length (unit_cells Z s k)) (joined_number Z.page K (joins_unit Z s) h j)

-- what a solution has
module _ (Z : Puzzle) (K : Bordered Z.page) (P : CellsPlaced Z.page) (σ : ℕ → State) where
  pub congruent-size : (x y : ℕ) → x < Z.page.cells → y < Z.page.cells → Congruent Z σ x y
      → unit_size Z σ x ≡ unit_size Z σ y
  unfolding unit_size
  congruent-size x y hx hy c = let u = le in let v = ge in omega arith
    where
      le : length (own_unit Z σ x) ≤ length (own_unit Z σ y)
      le = inject-le (λ p q. Z.page.place q ≡ c.turn (Z.page.place p) ⊕ c.shift) _ _
          (members-distinct Z.page (unit_of Z σ) _)
          (λ p m. let r = c.onto p (mem_unit Z K σ x p hx m) in (r.0, unit_mem Z K σ y r.0 hy r.1, r.2))
          (λ p q z m n e f.
          P.place-inj p q (members-lt Z.page (unit_of Z σ) _ p m) (members-lt Z.page (unit_of Z σ) _ q n)
          (P.turns-ok.inj c.turn c.listed _ _ (cancel _ _ c.shift (sym e ∙ f))))

      ge : length (own_unit Z σ y) ≤ length (own_unit Z σ x)
      ge = inject-le (λ q p. Z.page.place q ≡ c.turn (Z.page.place p) ⊕ c.shift) _ _
          (members-distinct Z.page (unit_of Z σ) _)
          (λ q m. let r = c.from q (mem_unit Z K σ y q hy m) in (r.0, unit_mem Z K σ x r.0 hx r.1, r.2))
          (λ p q z m n e f.
          P.place-inj p q (members-lt Z.page (unit_of Z σ) _ p m) (members-lt Z.page (unit_of Z σ) _ q n)
          (e ∙ sym f))

  pub block_size : Solution Z σ → (x y : ℕ) → x < Z.page.cells → SameBlock Z σ x y → unit_size Z σ x ≡ unit_size Z σ y
  block_size sol x y h j = go (T-dec (beq (Z.colour x) (Z.colour y)))
    where
      go : T (beq (Z.colour x) (Z.colour y)) ⊎ T (not (beq (Z.colour x) (Z.colour y)))
          → unit_size Z σ x ≡ unit_size Z σ y
      go (inl t) = same-unit-size Z K σ x y h (sol.one x y h j (beq-eq _ _ t))
      go (inr t) =
          congruent-size x y h (join-in Z.page K _ h j)
          (sol.congruent x y h j (not-both (Z.colour x) (Z.colour y) t))
