-- 01's small boards marked P, and one of 02's No. 4, as one theorem that is computed.
--
--   Says Z borders answer      Check answers so on that puzzle with those borders, 0 undecided, 1 wall, 2 open
--   HasTransforms Z borders n  its unit number 0 has n transforms
--   pair_puzzle clues          the puzzle of 1×2 with the colours 01
--   four                       the puzzle of 1×4 with the colours 0011, without clues
--   Boards                     all the boards
use Rattle.std.specs.Prelude.{◌≡◌, refl, List, [], ◌∷◌, ℕ, ℤ, pos, negsuc, length}
use Rattle.lists.specs.Lists.{filter, any, or_else, flat_map, first_hit}
use Rattle.lists.specs.Count.{count_below}
use Rattle.rules.specs.Page.{Puzzle, wall_at, open_at, ◌⊕◌, opposite}
use Rattle.rules.specs.Codes.{states_in, colours_in, clues_in, puzzle_in}
use Rattle.rules.specs.Rules.{one_colour, joins_block, joins_unit}
use Rattle.rules.specs.Groups.{labels, entry, is_first, numbers, group_count, members, joins_potential}
use Rattle.rules.specs.Reasons.{gather, inside_at, inside, edge_at, edge, is_found, trace, look, hunt, path}
use Rattle.rules.specs.Turns.{apply}
use Rattle.rules.specs.Shapes.{same_points, insert, sort, shift_by, normal, turned, connections_at, shape_of, with_half}
use Rattle.rules.specs.Shapes.{quarters, with_quarter, with_flip, flat_transforms}
use Rattle.rules.specs.Check.{Verdict, pass, conflict, check, hit_if, block_clue, inside_block, inside_unit, edge_of}
use Rattle.rules.specs.Check.{size_of}
use Rattle.rules.specs.Check.{coloured, stray_from, cell_hit, cell_hits, small_hit, big_hit, clue_hit, block_hit_on}
use Rattle.rules.specs.Check.{block_hit}
use Rattle.rules.specs.Check.{wall_hit, wall_hits, touches, adjacent, mates, judge, laid, transforms_of, placements}
use Rattle.rules.specs.Check.{far_walls_at, far_walls, unit_reason, unit_hit_in, unit_hit_on, unit_hit, hit}
use Rattle.rules.specs.Check.{once, undecided_count}
use Rattle.rules.specs.Flat.{flat, cell_at, right_of, below_of, border_count, hop_if, hop_above, hop_below, hop_left}
use Rattle.rules.specs.Flat.{hop_right, around_at, ahead_at, flat_first, flat_second, flat_place, flat_reads_at}
use Rattle.rules.specs.Flat.{flat_reads}

abbrev pub Says : Puzzle → List ℕ → Verdict → Type 0
Says Z bs a = check Z (states_in bs) ≡ a

abbrev pub HasTransforms : Puzzle → List ℕ → ℕ → Type 0
HasTransforms Z bs n = length (transforms_of Z (states_in bs) 0) ≡ n

abbrev no_clue : ℤ
no_clue = negsuc 0

-- 1×2 with the colours 01
abbrev pub pair_puzzle : List ℤ → Puzzle
pair_puzzle ks = puzzle_in 1 2 (0 ∷ 1 ∷ []) ks

-- 1×4 with the colours 0011
abbrev pub four : Puzzle
four = puzzle_in 1 4 (0 ∷ 0 ∷ 1 ∷ 1 ∷ []) (no_clue ∷ no_clue ∷ no_clue ∷ no_clue ∷ [])

pub record Boards : Type 0 where
  -- "h=2, w=3: 7 borders; right of (1,1) is 3, below (0,2) is 6"
  pub seven-borders : border_count 2 3 ≡ 7
  pub right-three : right_of 2 3 1 1 ≡ 3
  pub below-six : below_of 2 3 0 2 ≡ 6
  -- "1×1 without clue: empty reason"
  pub one-cell-empty : Says (puzzle_in 1 1 (0 ∷ []) (no_clue ∷ [])) (0 ∷ []) (conflict [])
  -- "1×2, colours 00, undecided: empty reason"
  pub one-colour-empty : Says (puzzle_in 1 2 (0 ∷ 0 ∷ []) (no_clue ∷ no_clue ∷ [])) (0 ∷ []) (conflict [])
  -- "1×2, 01: undecided passes with 1; open passes with 0; wall: 0w"
  pub undecided-passes : Says (pair_puzzle (no_clue ∷ no_clue ∷ [])) (0 ∷ []) (pass 1)
  pub open-passes : Says (pair_puzzle (no_clue ∷ no_clue ∷ [])) (2 ∷ []) (pass 0)
  pub wall-conflicts : Says (pair_puzzle (no_clue ∷ no_clue ∷ [])) (1 ∷ []) (conflict (wall_at 0 ∷ []))
  -- "1×2, 01, clue at (0,0): 1 passes undecided; 0 and 2 give the empty reason"
  pub clue-one-passes : Says (pair_puzzle (pos 1 ∷ no_clue ∷ [])) (0 ∷ []) (pass 1)
  pub clue-zero-empty : Says (pair_puzzle (pos 0 ∷ no_clue ∷ [])) (0 ∷ []) (conflict [])
  pub clue-two-empty : Says (pair_puzzle (pos 2 ∷ no_clue ∷ [])) (0 ∷ []) (conflict [])
  -- "1×3, 010, both open: 0o 1o"
  pub both-open : Says (puzzle_in 1 3 (0 ∷ 1 ∷ 0 ∷ []) (no_clue ∷ no_clue ∷ no_clue ∷ [])) (2 ∷ 2 ∷ [])
      (conflict (open_at 0 ∷ open_at 1 ∷ []))
  -- "1×4, 0011, all open: passes"
  pub four-passes : Says four (2 ∷ 2 ∷ 2 ∷ []) (pass 0)
  -- "border 0 wall, others open: 1o 2o 0w"
  pub four-wall : Says four (1 ∷ 2 ∷ 2 ∷ []) (conflict (open_at 1 ∷ open_at 2 ∷ wall_at 0 ∷ []))
  -- 02, No. 4: a wall that blocks a placement and stands in Edge is named once; before striking, 2w 0o 2w
  pub four-once : Says four (2 ∷ 0 ∷ 1 ∷ []) (conflict (wall_at 2 ∷ open_at 0 ∷ []))
  -- "2×2, rows 01 and 01; 0, 2, 3 open, 1 wall: 3o 0o 2o 1w"
  pub wall-in-block : Says (puzzle_in 2 2 (0 ∷ 1 ∷ 0 ∷ 1 ∷ []) (no_clue ∷ no_clue ∷ no_clue ∷ no_clue ∷ []))
      (2 ∷ 1 ∷ 2 ∷ 2 ∷ []) (conflict (open_at 3 ∷ open_at 0 ∷ open_at 2 ∷ wall_at 1 ∷ []))
  -- "transforms: one cell 1, straight pair 2, three-cell corner 4"
  pub cell-one : HasTransforms (puzzle_in 1 1 (0 ∷ []) (no_clue ∷ [])) (0 ∷ []) 1
  pub pair-two : HasTransforms (puzzle_in 1 2 (0 ∷ 0 ∷ []) (no_clue ∷ no_clue ∷ [])) (2 ∷ []) 2
  pub corner-four : HasTransforms (puzzle_in 2 2 (0 ∷ 0 ∷ 0 ∷ 1 ∷ []) (no_clue ∷ no_clue ∷ no_clue ∷ no_clue ∷ []))
      (2 ∷ 0 ∷ 2 ∷ 0 ∷ []) 4

pub boards : Boards
unfolding filter any or_else flat_map first_hit count_below ◌⊕◌ opposite states_in colours_in clues_in
    one_colour joins_block
    joins_unit labels entry is_first numbers group_count members joins_potential gather inside_at inside edge_at
    edge is_found
    trace look hunt path apply same_points insert sort shift_by normal turned connections_at shape_of with_half quarters
    with_quarter with_flip flat_transforms check hit_if block_clue inside_block inside_unit edge_of size_of
    coloured stray_from
    cell_hit cell_hits small_hit big_hit clue_hit block_hit_on block_hit wall_hit wall_hits touches adjacent
    mates judge laid
    transforms_of placements far_walls_at far_walls unit_reason unit_hit_in unit_hit_on unit_hit hit once
    undecided_count flat
    cell_at right_of below_of border_count hop_if hop_above hop_below hop_left hop_right around_at ahead_at
    flat_first flat_second
    flat_place flat_reads_at flat_reads
boards =
    record {
      seven-borders = refl;
      right-three = refl;
      below-six = refl;
      one-cell-empty = refl;
      one-colour-empty = refl;
      undecided-passes = refl;
      open-passes = refl;
      wall-conflicts = refl;
      clue-one-passes = refl;
      clue-zero-empty = refl;
      clue-two-empty = refl;
      both-open = refl;
      four-passes = refl;
      four-wall = refl;
      four-once = refl;
      wall-in-block = refl;
      cell-one = refl;
      pair-two = refl;
      corner-four = refl;
    }
