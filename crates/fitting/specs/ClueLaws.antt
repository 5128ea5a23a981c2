-- Whether a unit fits asks no clue.
use Rattle.std.specs.Prelude.{◌≡◌, ℕ}
use Rattle.std.proofs.Math.Path.{refl, fun_ext}
use Rattle.std.proofs.Common.{ap, ◌∙◌}
use mathlib.Core.List.{List, [], ◌∷◌, map}
use Rattle.std.proofs.Math.Option.{Option}
use Rattle.lists.specs.Lists.{any, flat_map, first_hit, range}
use Rattle.rules.specs.declared.Placement.{Placement}
use Rattle.rules.specs.declared.Placement.TheVariants.{Fits, Blocked, Cannot}
use Rattle.rules.specs.Page.{Puzzle, State}
use Rattle.rules.specs.Flat.{flat}
use Rattle.rules.specs.Codes.{clued_by, unclued}
use Rattle.rules.specs.Rules.{one_colour, joins_unit}
use Rattle.rules.specs.Groups.{members, joins_potential, unit_of, potential_of}
use Rattle.rules.specs.Check.{is_fit, placements, transforms_of, touches, adjacent, mates, unit_hit}
use Rattle.planes.specs.JudgeLaws.{laid-clue}
use Rattle.fitting.specs.FirstStuck.{first_fail, fits_on, fits_unit, stuck_hit}
use Rattle.fitting.specs.FirstStuckLaws.{stuck-hit}

module _ (h w : ℕ) (cs : List ℕ) (k : ℕ → Option ℕ) (s : ℕ → State) where
  abbrev Z : Puzzle
  Z = unclued h w cs

  fit-clue : (x : Placement) → is_fit (clued_by h w cs k) s x ≡ is_fit Z s x
  fit-clue Fits = refl
  fit-clue Cannot = refl
  fit-clue (Blocked b) = refl

  on-clue : (u : ℕ) (xs : List ℕ) → fits_on (clued_by h w cs k) s u xs ≡ fits_on Z s u xs
  unfolding fits_on placements transforms_of touches adjacent mates joins_unit joins_potential one_colour
  on-clue u [] = refl
  on-clue u (x ∷ xs) =
      λ i.
      any (λ p. fit-clue p i)
      (flat_map
      (λ t.
      flat_map (λ Q. map (λ o. laid-clue h w cs k s t o i) (members (flat h w) (potential_of Z s) Q))
      (mates Z s (potential_of Z s x))) (transforms_of Z s u))

  pub fits-clue : (u : ℕ) → fits_unit (clued_by h w cs k) s u ≡ fits_unit Z s u
  unfolding fits_unit joins_unit one_colour
  fits-clue u = on-clue u (members (flat h w) (unit_of Z s) u)

  -- step 3 of a puzzle with clues, by the search that reads none
  pub stuck-clue : (n : ℕ) → first_hit (unit_hit (clued_by h w cs k) s) (range n)
      ≡ stuck_hit (clued_by h w cs k) s (first_fail (fits_unit (unclued h w cs) s) n)
  stuck-clue n = stuck-hit (clued_by h w cs k) s n
      ∙ ap (λ f. stuck_hit (clued_by h w cs k) s (first_fail f n)) (fun_ext fits-clue)
