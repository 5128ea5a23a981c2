-- Laying: where a transform is laid, and what that gives.
--
--   fits_among t xs     the transform t fits at one of the cells xs
--   block_at t o        the blocker of the placement of t with its origin at cell o, if it has one
--   blocks_among t xs   the blockers of its placements at the cells xs, in order
--   fits_beside t gs    it fits at a cell of one of the groups gs
--   blocks_beside t gs  the blockers of its placements at the cells of these, in order
use Rattle.std.specs.Prelude.{Bool, List, ℕ}
use Rattle.lists.specs.Lists.{any, flat_map}
use Rattle.rules.specs.declared.Literal.{Literal}
use Rattle.rules.specs.Page.{Puzzle, Shape, State}
use Rattle.rules.specs.Check.{laid, blockers}
use Rattle.groups.specs.Parts.{part_of}
use Rattle.planes.specs.Placing.{fits_of}

module _ (Z : Puzzle) (s : ℕ → State) (t : Shape) where
  unfoldable pub fits_among : List ℕ → Bool
  fits_among xs = any (fits_of Z s t) xs

  unfoldable pub block_at : ℕ → List Literal
  block_at o = blockers Z s (laid Z s t o)

  unfoldable pub blocks_among : List ℕ → List Literal
  blocks_among xs = flat_map block_at xs

  module _ (cells offs : List ℕ) where
    unfoldable pub fits_beside : List ℕ → Bool
    fits_beside gs = any (λ Q. fits_among (part_of cells offs Q)) gs

    unfoldable pub blocks_beside : List ℕ → List Literal
    blocks_beside gs = flat_map (λ Q. blocks_among (part_of cells offs Q)) gs
