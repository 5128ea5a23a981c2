-- On a full board the potential units are the units.
--
--   open_of             what is not wall is open
--   pot-unit, unit-pot  cells of one potential unit are of one unit, and the other way round
--   unit_size_lem       so a unit is as large as its potential unit
--   in_block            the cells of a block are those of its number
--   size-count          a unit is no larger than its block's count of its colour
use Rattle.std.specs.Prelude.{◌≡◌, not, ℕ, ◌≤◌, ◌<◌}
use Rattle.std.proofs.Common.{◌∙◌, sym}
use Rattle.std.proofs.Math.Path.{refl}
use Rattle.std.proofs.Math.Bool.{beq}
use native.Mathlib.Omega.{arith}
use Rattle.std.proofs.Math.Dec.{T}
use Rattle.std.proofs.Math.ListN.{length}
use Rattle.lists.specs.Lists.{◌∈◌}
use Rattle.lists.specs.ListLaws.{mem-filter}
use Rattle.lists.specs.Lengths.{subset-le}
use Rattle.lists.specs.Booleans.{T-and-l, T-and-r, T_and, eq-beq}
use Rattle.rules.specs.declared.Side.TheVariants.{Wall, Open}
use Rattle.rules.specs.Page.{Puzzle, State, undecided, decided, is_wall, is_open}
use Rattle.rules.specs.Rules.{Joined, joins_block, joins_unit, SameBlock, SameUnit}
use Rattle.rules.specs.Groups.{joins_potential, block_of, unit_of, potential_of}
use Rattle.rules.specs.Check.{size_of, coloured}
use Rattle.laws.specs.PageLaws.{Bordered}
use Rattle.laws.specs.RuleLaws.{join-weaken, join-map, join-in, unit-colour, unit-block}
use Rattle.laws.specs.GroupLaws.{number-joined, joined_number, mem-members, members-lt, members-number}
use Rattle.laws.specs.GroupLaws.{members-distinct, own_block, own_unit, own_potential}
use Rattle.argument.specs.Demand.{Full}
use Rattle.argument.specs.Sizes.{unit_size}

module _ (Z : Puzzle) (K : Bordered Z.page) (s : ℕ → State) (full : Full Z s) where
  pub open_of : (b : ℕ) → b < Z.page.borders → T (not (is_wall (s b))) → T (is_open (s b))
  unfolding Full
  open_of b h t = go (s b) refl t
    where
      go : (m : State) → s b ≡ m → T (not (is_wall m)) → T (is_open m)
      go undecided e u = absurd (full b h e)
      go (decided Wall) e u = absurd u
      go (decided Open) e u = tt

  open_free : (m : State) → T (is_open m) → T (not (is_wall m))
  open_free undecided t = absurd t
  open_free (decided Wall) t = absurd t
  open_free (decided Open) t = tt

  pot-join : {x y : ℕ} → x < Z.page.cells → Joined Z.page (joins_potential Z s) y x → SameUnit Z s x y
  unfolding joins_potential joins_unit
  pot-join h j =
      join-map Z.page (joins_potential Z s) (joins_unit Z s) K
      (λ b k t.
      let u = open_of b k (T-and-l (not (is_wall (s b))) _ t) in
      let v = T-and-r (not (is_wall (s b))) _ t in
      search T_and) h j

  join-pot : {x y : ℕ} → SameUnit Z s x y → Joined Z.page (joins_potential Z s) y x
  unfolding joins_potential joins_unit
  join-pot j =
      join-weaken Z.page (joins_unit Z s) (joins_potential Z s)
      (λ b t.
      let u = open_free (s b) (T-and-l (is_open (s b)) _ t) in
      let v = T-and-r (is_open (s b)) _ t in
      search T_and) j

  pub pot-unit : (x y : ℕ) → x < Z.page.cells → y < Z.page.cells → potential_of Z s x ≡ potential_of Z s y
      → SameUnit Z s x y
  pot-unit x y hx hy e = pot-join hx (number-joined Z.page K (joins_potential Z s) x y hx hy e)

  pub unit-pot : (x y : ℕ) → x < Z.page.cells → SameUnit Z s x y → potential_of Z s x ≡ potential_of Z s y
  unit-pot x y hx j = joined_number Z.page K (joins_potential Z s) hx (join-pot j)

  pub unit_size_lem : (x : ℕ) → x < Z.page.cells → unit_size Z s x ≡ size_of Z s (potential_of Z s x)
  unfolding unit_size size_of
  unit_size_lem x hx = let a = le in let b = ge in omega arith
    where
      le : length (own_unit Z s x) ≤ length (own_potential Z s x)
      le = subset-le _ _ (members-distinct Z.page _ _) (λ y m. let hy = members-lt Z.page (unit_of Z s) _ y m in
          mem-members Z.page (potential_of Z s) _ y hy
          (unit-pot y x hy (number-joined Z.page K (joins_unit Z s) y x hy hx
          (members-number Z.page (unit_of Z s) _ y m))))

      ge : length (own_potential Z s x) ≤ length (own_unit Z s x)
      ge = subset-le _ _ (members-distinct Z.page _ _)
          (λ y m. let hy = members-lt Z.page (potential_of Z s) _ y m in
          mem-members Z.page (unit_of Z s) _ y hy
          (joined_number Z.page K (joins_unit Z s) hy
          (pot-unit y x hy hx (members-number Z.page (potential_of Z s) _ y m))))

  pub in_block : (x y : ℕ) → x < Z.page.cells → SameBlock Z s x y → y ∈ own_block Z s x
  in_block x y hx j = mem-members Z.page (block_of Z s) _ y (join-in Z.page K _ hx j)
      (sym (joined_number Z.page K (joins_block Z s) hx j))

  -- a unit is no larger than its block's count of its colour
  pub size-count : (x y : ℕ) → x < Z.page.cells → y ∈ own_block Z s x
      → size_of Z s (potential_of Z s y) ≤ length (coloured Z s (Z.colour y) (own_block Z s x))
  unfolding size_of coloured
  size-count x y hx m = subset-le _ _ (members-distinct Z.page _ _)
      (λ z n. let hz = members-lt Z.page (potential_of Z s) _ z n in
      let hy = members-lt Z.page (block_of Z s) _ y m in
      let u = pot-unit z y hz hy (members-number Z.page (potential_of Z s) _ z n) in
      mem-filter (λ w. beq (Z.colour w) (Z.colour y)) (own_block Z s x)
      (mem-members Z.page (block_of Z s) _ z hz
      (joined_number Z.page K (joins_block Z s) hz (unit-block Z K s u)
      ∙ members-number Z.page (block_of Z s) _ y m)) (eq-beq (Z.colour z) (Z.colour y) (unit-colour Z K s hz u)))
