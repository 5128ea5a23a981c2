-- The page: the geometry that every definition is written over, and what is decided on it.
--
--   Hop            a neighbour of a cell: over which border, and which cell
--   Point          a place with three coordinates; on a flat page the layer is 0
--   p ⊕ q          the sum of two places
--   opposite p     p with every sign changed
--   Shape          cells, and connections in doubled coordinates
--   Page           the geometry as plain data; Flat has the flat page
--   Puzzle         a page with its colours and its clues
--   State          what a border has: undecided, or decided with a side
--   Has s l        the setting s contains the literal l; l holds on the board with the borders s
--   Contains s r   every literal of r
--   is_wall, is_open, is_undecided  tests of a state
--   wall_at b, open_at b  the literal of border b with that side
--
-- A board's borders and a full setting are one kind of thing, a function from border numbers to states.
use Rattle.std.specs.Prelude.{◌≡◌, Bool, true, false, List, ℕ, ℤ, neg_ℤ, ◌+ℤ◌}
use Rattle.std.proofs.Math.Option.{Option}
use Rattle.lists.specs.Lists.{◌∈◌}
use Rattle.rules.specs.declared.Side.{Side}
use Rattle.rules.specs.declared.Side.TheVariants.{Wall, Open}
use Rattle.rules.specs.declared.Literal.{Literal}

pub record Hop : Type 0 where
  pub border : ℕ
  pub to : ℕ

pub record Point : Type 0 where
  pub layer : ℤ
  pub row : ℤ
  pub column : ℤ

infixl 60 ◌⊕◌
unfoldable pub ◌⊕◌ : Point → Point → Point
p ⊕ q = record { layer = p.layer +ℤ q.layer; row = p.row +ℤ q.row; column = p.column +ℤ q.column }

unfoldable pub opposite : Point → Point
opposite p = record { layer = neg_ℤ p.layer; row = neg_ℤ p.row; column = neg_ℤ p.column }

-- "Cells sorted by (y,x), first at (0,0)", and "Connections, in doubled coordinates"
pub record Shape : Type 0 where
  pub cells : List Point
  pub connections : List Point

-- Cells and borders are numbered from 0.
pub record Page : Type 0 where
  pub cells : ℕ
  pub borders : ℕ
  -- the two cells of a border
  pub first : ℕ → ℕ
  pub second : ℕ → ℕ
  -- the scan "below then right", and the scan "above, below, left, right"
  pub ahead : ℕ → List Hop
  pub around : ℕ → List Hop
  pub place : ℕ → Point
  -- the border between the two cells whose places add up to a doubled place; none if that is off the page
  pub reads : Point → Option ℕ
  -- what "congruent" allows beside a shift
  pub turns : List (Point → Point)
  -- the listed transforms of a shape, in order
  pub transforms : Shape → List Shape

pub record Puzzle : Type 0 where
  pub page : Page
  -- true is 1-coloured
  pub colour : ℕ → Bool
  pub clue : ℕ → Option ℕ

pub data State : Type 0 where
  undecided : State
  decided : Side → State

-- "A setting contains a literal, and a literal holds on a board, if that border has that side there"
abbrev pub Has : (ℕ → State) → Literal → Type 0
Has s l = s l.border ≡ decided l.side

-- the same of a whole reason
unfoldable pub Contains : (ℕ → State) → List Literal → Type 0
Contains s r = (l : Literal) → l ∈ r → Has s l

abbrev pub is_wall : State → Bool
is_wall undecided = false
is_wall (decided Wall) = true
is_wall (decided Open) = false

abbrev pub is_open : State → Bool
is_open undecided = false
is_open (decided Wall) = false
is_open (decided Open) = true

abbrev pub is_undecided : State → Bool
is_undecided undecided = true
is_undecided (decided x) = false

abbrev pub wall_at : ℕ → Literal
wall_at b = record { border = b; side = Wall }

abbrev pub open_at : ℕ → Literal
open_at b = record { border = b; side = Open }
