-- The reason of a unit asks no clue.
use Rattle.std.specs.Prelude.{◌≡◌, refl, ℕ}
use mathlib.Core.List.{List, ◌++◌, map}
use Rattle.std.proofs.Math.Option.{Option}
use Rattle.lists.specs.Lists.{flat_map}
use Rattle.rules.specs.Codes.{clued_by, unclued}
use Rattle.rules.specs.declared.Placement.{Placement}
use Rattle.rules.specs.declared.Placement.TheVariants.{Fits, Blocked, Cannot}
use Rattle.rules.specs.Page.{Puzzle, State}
use Rattle.rules.specs.Rules.{one_colour, joins_unit}
use Rattle.rules.specs.Groups.{members, joins_potential, potential_of}
use Rattle.rules.specs.Check.{blockers, placements, transforms_of, inside_unit, edge_of, touches, adjacent, mates}
use Rattle.rules.specs.Check.{far_walls_at, far_walls, unit_reason}
use Rattle.planes.specs.JudgeLaws.{laid-clue}

module _ (h w : ℕ) (cs : List ℕ) (k : ℕ → Option ℕ) (s : ℕ → State) where
  abbrev Z : Puzzle
  Z = unclued h w cs

  block-clue : (x : Placement) → blockers (clued_by h w cs k) s x ≡ blockers Z s x
  block-clue Fits = refl
  block-clue Cannot = refl
  block-clue (Blocked b) = refl

  pub reason-clue : (u p : ℕ) → unit_reason (clued_by h w cs k) s u p ≡ unit_reason Z s u p
  unfolding unit_reason placements transforms_of inside_unit edge_of touches adjacent mates far_walls_at far_walls
      joins_unit joins_potential one_colour
  reason-clue u p =
      λ i.
      flat_map (λ x. block-clue x i)
      (flat_map
      (λ t. flat_map (λ Q. map (λ o. laid-clue h w cs k s t o i) (members Z.page (potential_of Z s) Q)) (mates Z s p))
      (transforms_of Z s u))
      ++ (inside_unit Z s u ++ (edge_of Z s p ++ (flat_map (edge_of Z s) (mates Z s p) ++ far_walls Z s p)))
