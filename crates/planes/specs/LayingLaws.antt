-- What a transform is laid on: the placements beside a potential unit are those of its adjacent units.
use Rattle.std.specs.Prelude.{◌≡◌, ℕ, ◌<◌}
use Rattle.std.proofs.Common.{sym, ◌∙◌}
use Rattle.std.proofs.Math.Path.{ap}
use mathlib.Core.List.{List, map}
use Rattle.lists.specs.Lists.{◌∈◌, any, flat_map}
use Rattle.lists.specs.Flats.{flat-map, flat-flat, flat-same}
use Rattle.lists.specs.AnyAll.{any_same, any-map, any-flat}
use Rattle.rules.specs.Page.{Puzzle, Shape, State}
use Rattle.rules.specs.Codes.{states_in, unclued}
use Rattle.rules.specs.Flat.{flat}
use Rattle.rules.specs.Groups.{members, potential_of}
use Rattle.rules.specs.Check.{laid, is_fit, blockers}
use Rattle.groups.specs.Parts.{part_of}
use Rattle.adjacent.specs.Mates.{Grouped}
use Rattle.planes.specs.Placing.{fits_of}
use Rattle.planes.specs.Laying.{fits_among, fits_beside, block_at, blocks_among, blocks_beside}

-- the placements of one transform at the cells of some potential units, and the mates of p among them
module _ {h w : ℕ} {cs bs cells offs : List ℕ} {count : ℕ} (g : Grouped h w cs bs cells offs count) (t : Shape) where
  abbrev Z : Puzzle
  Z = unclued h w cs

  abbrev s : ℕ → State
  s = states_in bs

  pub placed-fits : (gs : List ℕ) → ((q : ℕ) → q ∈ gs → q < count)
      → any (is_fit Z s) (flat_map (λ Q. map (laid Z s t) (members (flat h w) (potential_of Z s) Q)) gs)
      ≡ fits_beside Z s t cells offs gs
  unfolding fits_beside fits_among fits_of part_of
  placed-fits gs low =
      any-flat (is_fit Z s) (λ Q. map (laid Z s t) (members (flat h w) (potential_of Z s) Q)) gs
      ∙ any_same _ _ gs
      (λ q m.
      any-map (is_fit Z s) (laid Z s t) (members (flat h w) (potential_of Z s) q)
      ∙ ap (any (λ o. is_fit Z s (laid Z s t o))) (sym (g.group q (low q m))))

  pub placed-blocks : (gs : List ℕ) → ((q : ℕ) → q ∈ gs → q < count)
      → flat_map (blockers Z s) (flat_map (λ Q. map (laid Z s t) (members (flat h w) (potential_of Z s) Q)) gs)
      ≡ blocks_beside Z s t cells offs gs
  unfolding blocks_beside blocks_among block_at part_of
  placed-blocks gs low =
      flat-flat (blockers Z s) (λ Q. map (laid Z s t) (members (flat h w) (potential_of Z s) Q)) gs
      ∙ flat-same _ _ gs
      (λ q m.
      flat-map (blockers Z s) (laid Z s t) (members (flat h w) (potential_of Z s) q)
      ∙ ap (flat_map (λ o. blockers Z s (laid Z s t o))) (sym (g.group q (low q m))))
