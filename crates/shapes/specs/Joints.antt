-- A unit's connections as written to the lent outline.
--
--   joint_if b y x      the doubled place (y,x), if b
--   joined_to number g to  the neighbour, if there is one, is a cell of group g
--   JointRoom o k       the outline has a place for connection k
--   Grown o k js o' r   o' is the outline o with js written after its first k connections: r connections
--   OutlineJoined h w units g o  the outline's connections are those of group g
--   Joining h w number g o₀ o k i  o is the outline o₀ with the k connections of its first i cells
--   JointIn o j         the doubled place of connection j is on the largest page, and lies between two cells
use Rattle.std.specs.Prelude.{◌≡◌, Bool, true, false, List, [], ◌∷◌, ◌++◌, ℕ, ◌+◌, ◌*◌, ◌%◌, ◌<◌, ◌≤◌, eqb, length}
use Rattle.std.specs.Prelude.{get_or, Option, Some, None}
use Rattle.lists.specs.Lists.{flat_map}
use Rattle.lists.specs.Sections.{Only}
use Rattle.lists.specs.Table.{table}
use Rattle.rules.specs.Flat.{flat}
use Rattle.rules.specs.Groups.{entry}
use Rattle.rules.specs.Shapes.{connections_at}
use Rattle.rules.specs.Page.{Point}
use Rattle.groups.specs.declared.Grouping.{Grouping}
use Rattle.groups.specs.Grouping.{numbers_in}
use Rattle.shapes.specs.Outlines.{rows_in, columns_in, down_in, across_in, joint_count}
use Rattle.shapes.specs.Spots.{place_at, spots, joint_spots, joints}

abbrev pub joint_if : Bool → ℕ → ℕ → List Point
joint_if true y x = place_at y x ∷ []
joint_if false y x = []

abbrev pub joined_to : (ℕ → ℕ) → ℕ → Option ℕ → Bool
joined_to number g (Some c) = eqb (number c) g
joined_to number g None = false

pub record JointRoom (o : List ℕ) (k : ℕ) : Type 0 where
  pub long : length o ≡ 6146
  pub space : k < 2048

pub record Grown (o : List ℕ) (k : ℕ) (js : List Point) (o' : List ℕ) (r : ℕ) : Type 0 where
  pub only : Only 2048 6144 o o'
  pub here : spots (down_in o') (across_in o') r ≡ spots (down_in o) (across_in o) k ++ js

pub record OutlineJoined (h w : ℕ) (units : Grouping) (g : ℕ) (o : List ℕ) : Type 0 where
  pub few : joint_count o ≤ 2048
  pub here : joint_spots o ≡ joints h w (entry (numbers_in units)) g

-- the outline after the connections of the first i cells
pub record Joining (h w : ℕ) (number : ℕ → ℕ) (g : ℕ) (o₀ o : List ℕ) (k i : ℕ) : Type 0 where
  pub only : Only 2048 6144 o₀ o
  pub few : k ≤ 2 * i
  pub here : spots (down_in o) (across_in o) k
      ≡ flat_map (connections_at (flat h w) number g)
      (table i (λ j. get_or (rows_in o₀) j 0 * w + get_or (columns_in o₀) j 0))

pub record JointIn (o : List ℕ) (j : ℕ) : Type 0 where
  pub inside : j < 2048
  pub down : get_or (down_in o) j 0 < 64
  pub across : get_or (across_in o) j 0 < 64
  pub odd : get_or (down_in o) j 0 % 2 + get_or (across_in o) j 0 % 2 ≡ 1
