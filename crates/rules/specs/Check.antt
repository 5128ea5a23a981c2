-- Check: the first hit is the reason.
--
--   Reason               a list of literals
--   hit_if test r        the reason r where the test holds, otherwise no hit
--   is_some o            o is a number, not none
--   clash k l            k and l are clues that differ
--   block_clue clue xs   the first clue among the cells xs
--   Verdict              pass with a count, or conflict with a reason
--   inside_block B       Inside of block B
--   inside_unit U        Inside of unit U
--   edge_of P            Edge of potential unit P
--   size_of P            how many cells potential unit P has
--   coloured c xs        the cells of colour c among xs
--   stray_from x y       y has the colour of cell x, but another potential unit
--   cell_hit B ys x      (a) and (b) of step 1 for cell x of block B; ys are the earlier cells of B
--   cell_hits B ys xs    the first such hit at the cells xs of B; ys are the cells before them
--   small_hit B xs c o   the hit of step 1 where the potential unit of o, B's first cell of colour c, is smaller than
--                        B's count of the other colour; xs are the cells of B
--   big_hit B xs n c o   the hit of step 1 where the clue n is above the size of that potential unit
--   clue_hit B xs k      the hits of step 1 for the clue k of block B
--   block_hit_on B xs    step 1 for block B with the cells xs
--   block_hit B          step 1 for block B
--   wall_hit x h         step 2 for cell x and one neighbour
--   wall_hits x          step 2 for cell x
--   touches Q c h        the hop h leads from cell c to an other-coloured cell of potential unit Q, not over a wall
--   adjacent P Q         the potential units P and Q are adjacent
--   mates P              the potential units adjacent to P, by number
--   by_last_wall last    a placement with every connection read: blocked by the last wall, or it fits if there is none
--   judge last os        the placement whose connections still to be read have the borders os; `last` is the last wall
--                        so far
--   laid t o             the placement of the transform t with its origin at cell o
--   is_fit p             the placement p fits
--   blockers p           the blocker of p as a wall literal, if it has one
--   transforms_of U      the listed transforms of unit U; none for a number that no unit has
--   placements U P       the placements of unit U in potential unit P, in order
--   far_walls_at P c     the walls from cell c to other-coloured cells whose potential unit is not adjacent to P
--   far_walls P          those of all cells of P
--   unit_reason U P      the reason of step 3 for unit U in potential unit P
--   unit_hit_in U P      step 3 for unit U in potential unit P
--   unit_hit_on U xs     step 3 for unit U with the cells xs
--   unit_hit U           step 3 for unit U
--   hit Z s              the first hit of the three steps
--   borders_named r      the borders that the literals of r name, in order
--   same_side a b        a and b are one side
--   same_literal l k     l and k are equal literals
--   once r               r with the first of equal literals kept and later ones dropped
--   once_in o            the same of a hit's reason
--   undecided_count Z s  the count of undecided borders
--   verdict_of n o       conflict with the reason o; pass with n where o is no hit
--   check Z s            pass with the count of undecided borders, or the reason, each literal once
use Rattle.std.specs.Prelude.{Bool, true, false, not, ◌&&◌, ◌||◌, cond, List, [], ◌∷◌, ◌++◌, map, ℕ, eqb, ltb, length}
use Rattle.std.specs.Bool.{beq}
use Rattle.std.proofs.Math.Option.{Option, some, none}
use Rattle.lists.specs.Lists.{filter, flat_map, any, first_hit, or_else, head?, range}
use Rattle.lists.specs.Count.{count_below}
use Rattle.rules.specs.declared.Side.{Side}
use Rattle.rules.specs.declared.Side.TheVariants.{Wall, Open}
use Rattle.rules.specs.declared.Literal.{Literal}
use Rattle.rules.specs.declared.Placement.{Placement}
use Rattle.rules.specs.declared.Placement.TheVariants.{Fits, Blocked, Cannot}
use Rattle.rules.specs.Page.{Puzzle, State, is_wall, is_undecided, Hop, Shape, ◌⊕◌, wall_at}
use Rattle.rules.specs.Rules.{one_colour}
use Rattle.rules.specs.Groups.{members, block_of, block_count, unit_of, unit_count, potential_of, potential_count}
use Rattle.rules.specs.Reasons.{gather, inside, edge, path}
use Rattle.rules.specs.Shapes.{shape_of}

abbrev pub Reason : Type 0
Reason = List Literal

unfoldable pub hit_if : Bool → Reason → Option Reason
hit_if true r = some r
hit_if false r = none

abbrev pub is_some : Option ℕ → Bool
is_some (some n) = true
is_some none = false

abbrev pub clash : Option ℕ → Option ℕ → Bool
clash (some m) (some n) = not (eqb m n)
clash (some m) none = false
clash none o = false

-- the first clue among some cells
unfoldable pub block_clue : (ℕ → Option ℕ) → List ℕ → Option ℕ
block_clue clue xs = first_hit clue xs

pub data Verdict : Type 0 where
  pass : ℕ → Verdict
  conflict : Reason → Verdict

module _ (Z : Puzzle) (s : ℕ → State) where
  -- Inside of a block, Inside of a unit, Edge of a potential unit
  unfoldable pub inside_block : ℕ → Reason
  inside_block B = inside Z.page s (block_of Z s) B

  unfoldable pub inside_unit : ℕ → Reason
  inside_unit U = inside Z.page s (unit_of Z s) U

  unfoldable pub edge_of : ℕ → Reason
  edge_of P = edge Z.page Z.colour s (potential_of Z s) P

  -- how many cells a potential unit has, and the cells of one colour
  unfoldable pub size_of : ℕ → ℕ
  size_of P = length (members Z.page (potential_of Z s) P)

  unfoldable pub coloured : Bool → List ℕ → List ℕ
  coloured c xs = filter (λ x. beq (Z.colour x) c) xs

  -- Step 1. "(a) its potential unit differs from that of an earlier cell of its colour"
  unfoldable pub stray_from : ℕ → ℕ → Bool
  stray_from x y = beq (Z.colour y) (Z.colour x) && not (eqb (potential_of Z s y) (potential_of Z s x))

  -- "(b) its clue differs from an earlier clue of B"
  unfoldable pub cell_hit : ℕ → List ℕ → ℕ → Option Reason
  cell_hit B earlier x =
      or_else
      (hit_if (any (stray_from x) earlier) (inside_block B ++ edge_of (potential_of Z s x)))
      (hit_if (any (λ y. clash (Z.clue y) (Z.clue x)) earlier) (inside_block B))

  -- "cell by cell"
  unfoldable pub cell_hits : ℕ → List ℕ → List ℕ → Option Reason
  cell_hits B earlier [] = none
  cell_hits B earlier (x ∷ xs) = let rest = cell_hits B (x ∷ earlier) xs in or_else (cell_hit B earlier x) rest

  -- "B has a cell of colour c, and that cell's potential unit P is smaller than B's count of the other colour";
  -- xs are the cells of B
  unfoldable pub small_hit : ℕ → List ℕ → Bool → Option ℕ → Option Reason
  small_hit B xs c none = none
  small_hit B xs c (some x) =
      hit_if (ltb (size_of (potential_of Z s x)) (length (coloured (not c) xs)))
      (inside_block B ++ edge_of (potential_of Z s x))

  -- "n above P's size: Edge(P), followed by Inside(B) if no c-coloured cell of B has a clue"
  unfoldable pub big_hit : ℕ → List ℕ → ℕ → Bool → Option ℕ → Option Reason
  big_hit B xs n c none = none
  big_hit B xs n c (some x) =
      hit_if (ltb (size_of (potential_of Z s x)) n)
      (edge_of (potential_of Z s x) ++ cond (any (λ y. is_some (Z.clue y)) (coloured c xs)) [] (inside_block B))

  -- "with clue n: n below B's count of either colour: Inside(B)"
  unfoldable pub clue_hit : ℕ → List ℕ → Option ℕ → Option Reason
  clue_hit B xs none = none
  clue_hit B xs (some n) =
      or_else
      (hit_if (ltb n (length (coloured false xs)) || ltb n (length (coloured true xs))) (inside_block B))
      (first_hit (λ c. big_hit B xs n c (head? (coloured c xs))) (false ∷ true ∷ []))

  unfoldable pub block_hit_on : ℕ → List ℕ → Option Reason
  block_hit_on B xs =
      or_else (cell_hits B [] xs)
      (or_else
      (first_hit (λ c. small_hit B xs c (head? (coloured c xs))) (false ∷ true ∷ []))
      (clue_hit B xs (block_clue Z.clue xs)))

  -- "Per block B"
  unfoldable pub block_hit : ℕ → Option Reason
  block_hit B = block_hit_on B (members Z.page (block_of Z s) B)

  -- Step 2. "a wall between cells of one block: Path from the cell to that neighbour, then that wall"
  unfoldable pub wall_hit : ℕ → Hop → Option Reason
  wall_hit x h =
      hit_if (is_wall (s h.border) && eqb (block_of Z s x) (block_of Z s h.to))
      (path Z.page s x h.to ++ (wall_at h.border ∷ []))

  -- "Row by row, below then right"
  unfoldable pub wall_hits : ℕ → Option Reason
  wall_hits x = first_hit (wall_hit x) (Z.page.ahead x)

  -- Step 3. "Potential units are adjacent if a border between their differing colours is not wall"
  unfoldable pub touches : ℕ → ℕ → Hop → Bool
  touches Q c h =
      not (beq (Z.colour c) (Z.colour h.to))
      && not (is_wall (s h.border))
      && eqb (potential_of Z s h.to) Q

  unfoldable pub adjacent : ℕ → ℕ → Bool
  adjacent P Q = any (λ c. any (touches Q c) (Z.page.around c)) (members Z.page (potential_of Z s) P)

  unfoldable pub mates : ℕ → List ℕ
  mates P = filter (adjacent P) (range (potential_count Z s))

  abbrev pub by_last_wall : Option ℕ → Placement
  by_last_wall none = Fits
  by_last_wall (some b) = Blocked b

  -- "Connections .. are read in order: one off the page .. or joining two colours ends the placement without blocker;
  -- otherwise the last wall is the blocker"
  unfoldable pub judge : Option ℕ → List (Option ℕ) → Placement
  judge last [] = by_last_wall last
  judge last (none ∷ os) = Cannot
  judge last (some b ∷ os) = cond (one_colour Z b) (judge (cond (is_wall (s b)) (some b) last) os) Cannot

  -- "Connections, shifted by twice the origin"
  unfoldable pub laid : Shape → ℕ → Placement
  laid t o = judge none (map (λ d. Z.page.reads (Z.page.place o ⊕ Z.page.place o ⊕ d)) t.connections)

  abbrev pub is_fit : Placement → Bool
  is_fit Fits = true
  is_fit Cannot = false
  is_fit (Blocked b) = false

  abbrev pub blockers : Placement → List Literal
  blockers Fits = []
  blockers Cannot = []
  blockers (Blocked b) = wall_at b ∷ []

  -- "A unit number that no unit has gives no transforms"
  unfoldable pub transforms_of : ℕ → List Shape
  transforms_of U =
      cond (ltb U (unit_count Z s)) (Z.page.transforms (shape_of Z.page (unit_of Z s) U)) []

  -- "for each transform, each adjacent potential unit by number, each cell of it as origin"
  unfoldable pub placements : ℕ → ℕ → List Placement
  placements U P =
      flat_map
      (λ t. flat_map (λ Q. map (laid t) (members Z.page (potential_of Z s) Q)) (mates P))
      (transforms_of U)

  -- "per cell of P, above, below, left, right, walls to other-coloured cells whose potential unit is not adjacent to P"
  unfoldable pub far_walls_at : ℕ → ℕ → List Literal
  far_walls_at P c =
      gather Wall
      (λ h.
      is_wall (s h.border)
      && not (beq (Z.colour c) (Z.colour h.to))
      && not (adjacent P (potential_of Z s h.to)))
      (Z.page.around c)

  unfoldable pub far_walls : ℕ → List Literal
  far_walls P = flat_map (far_walls_at P) (members Z.page (potential_of Z s) P)

  -- "blockers in order, Inside(U), Edge(P), Edge of each adjacent unit, then" those walls
  unfoldable pub unit_reason : ℕ → ℕ → Reason
  unit_reason U P =
      flat_map blockers (placements U P)
      ++ (inside_unit U ++ (edge_of P ++ (flat_map edge_of (mates P) ++ far_walls P)))

  -- "If none fits"
  unfoldable pub unit_hit_in : ℕ → ℕ → Option Reason
  unit_hit_in U P = hit_if (not (any is_fit (placements U P))) (unit_reason U P)

  -- "Per unit U in potential unit P": that of its cells
  unfoldable pub unit_hit_on : ℕ → List ℕ → Option Reason
  unit_hit_on U [] = none
  unit_hit_on U (x ∷ xs) = unit_hit_in U (potential_of Z s x)

  unfoldable pub unit_hit : ℕ → Option Reason
  unit_hit U = unit_hit_on U (members Z.page (unit_of Z s) U)

  -- "First hit is the reason"
  unfoldable pub hit : Option Reason
  hit =
      or_else (first_hit block_hit (range (block_count Z s)))
      (or_else (first_hit wall_hits (range Z.page.cells)) (first_hit unit_hit (range (unit_count Z s))))

  unfoldable pub undecided_count : ℕ
  undecided_count = count_below Z.page.borders (λ b. is_undecided (s b))

-- "A literal is a border number with its side"
abbrev pub borders_named : Reason → List ℕ
borders_named r = map (λ (l : Literal). l.border) r

abbrev pub same_side : Side → Side → Bool
same_side Wall Wall = true
same_side Wall Open = false
same_side Open Wall = false
same_side Open Open = true

abbrev pub same_literal : Literal → Literal → Bool
same_literal l k = eqb l.border k.border && same_side l.side k.side

-- 02: "A reason keeps the first of equal literals and drops later ones, in the order they first came"
unfoldable pub once : Reason → Reason
once [] = []
once (l ∷ ls) = l ∷ filter (λ k. not (same_literal l k)) (once ls)

abbrev pub once_in : Option Reason → Option Reason
once_in none = none
once_in (some r) = some (once r)

abbrev pub verdict_of : ℕ → Option Reason → Verdict
verdict_of n none = pass n
verdict_of n (some r) = conflict r

-- "No hit: pass, with the count of undecided borders"
unfoldable pub check : Puzzle → (ℕ → State) → Verdict
check Z s = verdict_of (undecided_count Z s) (once_in (hit Z s))
