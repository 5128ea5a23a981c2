-- Found: what a check finds, and its memory afterwards.
--
--   found_of o          what the code answers for the hit o: how many literals its reason has, each once
--   written_by o m      the memory m with the hit's reason, each literal once, from its start; unchanged where nothing
--                       was hit
--   blocks_hit, walls_hit, units_hit  the first hit of each step
--   early_hit           the first hit of steps 1 and 2
--   Answers o m after r  for the hit o the code answers r, and leaves the memory `after` where it was m
--   Room cs bs m        the arrays of colours and borders are whole, and the memory has a place for each border
use Rattle.std.specs.Prelude.{◌≡◌, List, ℕ, ◌≤◌, length, Option, None, Some}
use Rattle.std.proofs.Math.Option.{Option as Maybe, some, none}
use Rattle.lists.specs.Lists.{first_hit, or_else, range}
use Rattle.rules.specs.Page.{Puzzle, State}
use Rattle.rules.specs.Codes.{put}
use Rattle.rules.specs.Groups.{block_count, unit_count}
use Rattle.rules.specs.Check.{Reason, block_hit, wall_hits, unit_hit, once}

unfoldable pub found_of : Maybe Reason → Option ℕ
found_of none = None
found_of (some r) = Some (length (once r))

unfoldable pub written_by : Maybe Reason → List ℕ → List ℕ
written_by none m = m
written_by (some r) m = put m 0 (once r)

module _ (Z : Puzzle) (s : ℕ → State) where
  -- "Per block B"
  unfoldable pub blocks_hit : Maybe Reason
  blocks_hit = first_hit (block_hit Z s) (range (block_count Z s))

  -- "Row by row"
  unfoldable pub walls_hit : Maybe Reason
  walls_hit = first_hit (wall_hits Z s) (range Z.page.cells)

  unfoldable pub early_hit : Maybe Reason
  early_hit = or_else blocks_hit walls_hit

  -- "Per unit U"
  unfoldable pub units_hit : Maybe Reason
  units_hit = first_hit (unit_hit Z s) (range (unit_count Z s))

pub record Answers (o : Maybe Reason) (m after : List ℕ) (r : Option ℕ) : Type 0 where
  pub found : r ≡ found_of o
  pub memory : after ≡ written_by o m

-- "no border is named twice"
pub record Room (cs bs m : List ℕ) : Type 0 where
  pub colours : length cs ≡ 1024
  pub borders : length bs ≡ 1984
  pub memory : 1984 ≤ length m
