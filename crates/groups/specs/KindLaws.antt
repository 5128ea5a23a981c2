-- Laws of the three kinds: case laws for the code's tests, and what joins over the arrays of a flat page.
use Rattle.std.specs.Prelude.{◌≡◌, refl, not, ◌&&◌, List, ℕ, eqb, get_or}
use Rattle.std.proofs.Math.Path.{sym}
use Rattle.rules.specs.Page.{Puzzle}
use Rattle.rules.specs.Rules.{one_colour, joins_block, joins_unit}
use Rattle.rules.specs.Groups.{joins_potential}
use Rattle.rules.specs.Flat.{flat, flat_first, flat_second}
use Rattle.rules.specs.Codes.{states_in, colours_in, unclued}
use Rattle.laws.specs.CodeLaws.{wall-state, open-state}
use Rattle.groups.specs.declared.Kind.{Kind}
use Rattle.groups.specs.declared.Kind.TheVariants.{Blocks, Units, Potential}
use Rattle.groups.specs.Kinds.{link_of, joins_in, one_colour_by, joins_by}

-- what the code computes for each kind
module _ (v a b : ℕ) where
  pub joins-block : eqb v 2 ≡ joins_by Blocks v a b
  unfolding joins_by
  joins-block = sym (open-state v)

  pub joins-unit : (eqb v 2 && one_colour_by a b) ≡ joins_by Units v a b
  unfolding joins_by
  joins-unit = rw (open-state v)

  pub joins-potential : (not (eqb v 1) && one_colour_by a b) ≡ joins_by Potential v a b
  unfolding joins_by
  joins-potential = rw (wall-state v)

one-colour-at : (h w : ℕ) (cs : List ℕ) (b : ℕ)
    → one_colour (unclued h w cs) b ≡ one_colour_by (get_or cs (flat_first h w b) 0) (get_or cs (flat_second h w b) 0)
unfolding one_colour colours_in one_colour_by flat
one-colour-at h w cs b = refl

-- what joins, read over the arrays
pub joins_at : (k : Kind) (h w : ℕ) (cs bs : List ℕ) (b : ℕ)
    → joins_in k h w cs bs b
    ≡ joins_by k (get_or bs b 0) (get_or cs (flat_first h w b) 0) (get_or cs (flat_second h w b) 0)
unfolding joins_in link_of joins_block joins_unit joins_potential states_in joins_by
joins_at Blocks h w cs bs b = refl
joins_at Units h w cs bs b = rw (one-colour-at h w cs b)
joins_at Potential h w cs bs b = rw (one-colour-at h w cs b)

-- a puzzle's clues do not matter
pub link-in : (k : Kind) (Z : Puzzle) (h w : ℕ) (cs bs : List ℕ) → Z.page ≡ flat h w → Z.colour ≡ colours_in cs
    → link_of k Z (states_in bs) ≡ joins_in k h w cs bs
unfolding joins_in link_of joins_block joins_unit joins_potential one_colour
link-in Blocks Z h w cs bs p q = refl
link-in Units Z h w cs bs p q = rw (p, q)
link-in Potential Z h w cs bs p q = rw (p, q)
