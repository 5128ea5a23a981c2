-- Writing: what the code that writes the reason of a unit is measured by.
--
--   Low mates            a list of mates, of which each is below 1024
--   Mated .. mates       each of them is the number of a group
--   flags_of xs          for each number below 1024 whether it is one of xs: 1 for yes, 0 for no
--   edges_in gs          Edge of each of the groups gs, over the arrays
--   far_in gs xs         the walls from the cells xs to other-coloured cells whose potential unit is not one of gs
--   walls_in             Edge(P), Edge of each adjacent unit, then the walls to units that are not adjacent
--   Arranged .. us ps    the groupings of the units and the potential units, and the list of P's mates
--   blocks_by r          the blockers of the placements of the unit's image by row r of the table
--   blocks_listed l      those of its images by the listed rows
--   Imaged .. o l        the outline and the listed rows of unit U
--   StuckAt .. us ps     what a caller gives for unit U: the groupings of the page
use Rattle.std.specs.Prelude.{◌≡◌, false, List, ◌++◌, ℕ, ◌*◌, ◌<◌, ◌≤◌, eqb, length, get_or}
use Rattle.lists.specs.Lists.{any, flat_map}
use Rattle.lists.specs.Table.{table}
use Rattle.lists.specs.Count.{bit}
use Rattle.rules.specs.declared.Literal.{Literal}
use Rattle.rules.specs.Page.{Puzzle, Point, State}
use Rattle.rules.specs.Flat.{flat}
use Rattle.rules.specs.Codes.{states_in, unclued}
use Rattle.rules.specs.Groups.{entry, unit_of, potential_count}
use Rattle.rules.specs.Shapes.{shape_of, flat_transforms}
use Rattle.rules.specs.Check.{mates, transforms_of}
use Rattle.groups.specs.declared.Grouping.{Grouping}
use Rattle.groups.specs.Grouping.{numbers_in, cells_in, starts_in, count_in}
use Rattle.groups.specs.Pages.{Drawn}
use Rattle.reasons.specs.Arrays.{GroupAt, edge_in, scan_of}
use Rattle.shapes.specs.Rows.{rows_of}
use Rattle.shapes.specs.Spots.{UnitAt}
use Rattle.shapes.specs.Joints.{OutlineJoined}
use Rattle.shapes.specs.Images.{image_joints}
use Rattle.adjacent.specs.Mates.{mate_count, Gathered, Known, Grouped}
use Rattle.adjacent.specs.Homes.{Sorted}
use Rattle.planes.specs.Placing.{bare}
use Rattle.planes.specs.Laying.{blocks_beside}

pub record Low (mates : List ℕ) : Type 0 where
  pub long : length mates ≡ 1025
  pub end : mate_count mates ≤ 1024
  pub each : (i : ℕ) → i < mate_count mates → get_or mates i 0 < 1024

pub record Mated (h w : ℕ) (potential : Grouping) (mates : List ℕ) : Type 0 where
  pub low : Low mates
  pub each : (i : ℕ) → i < mate_count mates → GroupAt h w potential (get_or mates i 0)

unfoldable pub flags_of : List ℕ → List ℕ
flags_of xs = table 1024 (λ q. bit (any (eqb q) xs))

module _ (h w : ℕ) (cs bs ids : List ℕ) where
  -- "Edge of each adjacent unit"
  unfoldable pub edges_in : List ℕ → List Literal
  edges_in gs = flat_map (edge_in h w cs bs ids) gs

  -- "walls to other-coloured cells whose potential unit is not adjacent to P": xs are the cells of P, gs its mates
  unfoldable pub far_in : List ℕ → List ℕ → List Literal
  far_in gs xs = scan_of h w cs bs ids false (flags_of gs) xs

  -- "Edge(P), Edge of each adjacent unit, then" those walls
  unfoldable pub walls_in : ℕ → List ℕ → List ℕ → List Literal
  walls_in p gs xs = edge_in h w cs bs ids p ++ (edges_in gs ++ far_in gs xs)

pub record Arranged (h w : ℕ) (cs bs : List ℕ) (us ps : Grouping) (list : List ℕ) (u p : ℕ) : Type 0 where
  pub drawn : Drawn h w cs
  pub colours : length cs ≡ 1024
  pub borders : length bs ≡ 1984
  -- the unit U
  pub unit : GroupAt h w us u
  pub number : (c : ℕ) → c < h * w → get_or (numbers_in us) c 0 ≡ unit_of (unclued h w cs) (states_in bs) c
  -- the potential units, among them P
  pub numbers : length (numbers_in ps) ≡ 1024
  pub known : Known h w cs bs (numbers_in ps)
  pub grouped : Grouped h w cs bs (cells_in ps) (starts_in ps) (potential_count (unclued h w cs) (states_in bs))
  pub one : p < potential_count (unclued h w cs) (states_in bs)
  pub mates : Gathered (mates (unclued h w cs) (states_in bs) p) list

module _ (Z : Puzzle) (s : ℕ → State) (cells offs mates : List ℕ) where
  -- places, connections, row
  unfoldable pub blocks_by : List Point → List Point → ℕ → List Literal
  blocks_by ps js r = blocks_beside Z s (bare (image_joints r ps js)) cells offs mates

  unfoldable pub blocks_listed : List Point → List Point → List ℕ → List Literal
  blocks_listed ps js rows = flat_map (blocks_by ps js) rows

pub record Imaged (h w : ℕ) (cs bs : List ℕ) (us : Grouping) (o l : List ℕ) (u : ℕ) : Type 0 where
  pub cells : UnitAt h w us u o
  pub connections : OutlineJoined h w us u o
  pub rows : l ≡ rows_of (shape_of (flat h w) (entry (numbers_in us)) u)
  pub transforms : transforms_of (unclued h w cs) (states_in bs) u
      ≡ flat_transforms (shape_of (flat h w) (entry (numbers_in us)) u)

pub record StuckAt (h w : ℕ) (cs bs : List ℕ) (us ps : Grouping) (u : ℕ) : Type 0 where
  pub ready : Sorted h w cs bs us ps
  pub colours : length cs ≡ 1024
  pub borders : length bs ≡ 1984
  pub low : u < count_in us
