-- Rules, by relations: what a solution is.
--
--   Joined G link c x   x is joined to c by hops over borders that pass the test link
--   one_colour Z b      the two cells of border b have one colour
--   joins_block, joins_unit  the borders that join the cells of a block, of a unit
--   SameBlock x y, SameUnit x y  x and y are cells of one block, of one unit
--   UnitHas x n         the unit of x has n cells
--   Congruent x y       the unit of y is the unit of x turned or reflected, and shifted
--   Solution Z s        the setting s is a solution of the puzzle Z
use Rattle.std.specs.Prelude.{◌≡◌, Bool, not, ◌&&◌, List, ℕ, ◌<◌, T, length}
use Rattle.std.specs.Bool.{beq}
use Rattle.std.proofs.Math.Option.{some}
use Rattle.lists.specs.Lists.{◌∈◌, Distinct}
use Rattle.rules.specs.declared.Side.TheVariants.{Wall}
use Rattle.rules.specs.Page.{Page, Puzzle, State, undecided, decided, is_open, Hop, Point, ◌⊕◌}

pub data Joined (G : Page) (link : ℕ → Bool) (c : ℕ) : ℕ → Type 0 where
  stay : {x : ℕ} → x ≡ c → Joined G link c x
  step : {x : ℕ} (h : Hop) → h ∈ G.around x → T (link h.border) → Joined G link c h.to → Joined G link c x

-- the two cells of border b have one colour
unfoldable pub one_colour : Puzzle → ℕ → Bool
one_colour Z b = beq (Z.colour (Z.page.first b)) (Z.colour (Z.page.second b))

module _ (Z : Puzzle) (s : ℕ → State) where
  -- "joined by open borders"
  unfoldable pub joins_block : ℕ → Bool
  joins_block b = is_open (s b)

  -- "the same within one colour"
  unfoldable pub joins_unit : ℕ → Bool
  joins_unit b = is_open (s b) && one_colour Z b

  -- "A block is a set of cells joined by open borders, as large as possible"
  abbrev pub SameBlock : ℕ → ℕ → Type 0
  SameBlock x y = Joined Z.page joins_block y x

  -- "a unit is the same within one colour"
  abbrev pub SameUnit : ℕ → ℕ → Type 0
  SameUnit x y = Joined Z.page joins_unit y x

  -- a list without repeats of exactly the unit's cells has n elements
  pub record UnitHas (x n : ℕ) : Type 0 where
    pub cells : List ℕ
    pub once : Distinct cells
    pub each : (y : ℕ) → y ∈ cells → SameUnit x y
    pub every : (y : ℕ) → SameUnit x y → y ∈ cells
    pub size : length cells ≡ n

  -- "congruent (shift, quarter turns, reflection)"
  pub record Congruent (x y : ℕ) : Type 0 where
    pub turn : Point → Point
    pub listed : turn ∈ Z.page.turns
    pub shift : Point
    pub onto : (p : ℕ) → SameUnit x p → (q : ℕ) × SameUnit y q × (Z.page.place q ≡ turn (Z.page.place p) ⊕ shift)
    pub from : (q : ℕ) → SameUnit y q → (p : ℕ) × SameUnit x p × (Z.page.place q ≡ turn (Z.page.place p) ⊕ shift)

  pub record Solution : Type 0 where
    -- "A full setting makes each border wall or open"
    pub full : (b : ℕ) → b < Z.page.borders → s b ≡ undecided → ⊥
    -- "no wall between two cells of one block"
    pub no_wall : (x : ℕ) (h : Hop) → x < Z.page.cells → h ∈ Z.page.around x → SameBlock x h.to
        → s h.border ≡ decided Wall → ⊥
    -- "each block has exactly one unit of each colour": it has both colours ..
    pub both : (x : ℕ) (c : Bool) → x < Z.page.cells → (y : ℕ) × SameBlock x y × (Z.colour y ≡ c)
    -- .. and its cells of one colour are one unit
    pub one : (x y : ℕ) → x < Z.page.cells → SameBlock x y → Z.colour x ≡ Z.colour y → SameUnit x y
    -- "these two are congruent"
    pub congruent : (x y : ℕ) → x < Z.page.cells → SameBlock x y → Z.colour y ≡ not (Z.colour x) → Congruent x y
    -- "each clue equals the size of its cell's unit"
    pub clues : (x n : ℕ) → x < Z.page.cells → Z.clue x ≡ some n → UnitHas x n
