-- Whether a unit fits, from the arrays of the units and of the potential units.
use Rattle.std.specs.Prelude.{◌≡◌, true, false, ℕ, ◌+◌, ◌<◌, ◌≤◌, length, get_or}
use Rattle.std.proofs.Math.Path.{refl, sym, ap}
use Rattle.std.proofs.Common.{◌∙◌, arith}
use mathlib.Core.List.{List, [], ◌∷◌, map}
use Rattle.lists.specs.Lists.{◌∈◌, any, flat_map}
use Rattle.lists.specs.AnyAll.{any_same, any-flat}
use Rattle.rules.specs.Page.{State, Puzzle}
use Rattle.rules.specs.Flat.{flat}
use Rattle.rules.specs.Codes.{states_in, unclued}
use Rattle.rules.specs.Groups.{entry, members, unit_of, potential_of}
use Rattle.rules.specs.Shapes.{shape_of}
use Rattle.rules.specs.Check.{laid, is_fit, mates, placements, transforms_of}
use Rattle.groups.specs.declared.Grouping.{Grouping}
use Rattle.groups.specs.Grouping.{numbers_in, cells_in, starts_in, count_in}
use Rattle.groups.specs.Pages.{head_of}
use Rattle.adjacent.specs.BesideLaws.{mates-low}
use Rattle.adjacent.specs.Homes.{home_in, Sorted}
use Rattle.adjacent.specs.HomeLaws.{potential-grouped, potential-first, home-is, home-count, transforms-are, head-of}
use Rattle.adjacent.specs.HomeLaws.{own-full, unit-in}
use Rattle.planes.specs.Laying.{fits_beside}
use Rattle.planes.specs.LayingLaws.{placed-fits}
use Rattle.fitting.specs.Held.{Adjoined}
use Rattle.fitting.specs.Fitting.{fits_turned}
use Rattle.fitting.specs.FitLaws.{turned_none}
use Rattle.fitting.specs.SingleLaws.{single-fits}
use Rattle.fitting.specs.FirstStuck.{fits_on, fits_unit}

module _ {h w : ℕ} {cs bs : List ℕ} {us ps : Grouping} (r : Sorted h w cs bs us ps) where
  abbrev Z : Puzzle
  Z = unclued h w cs

  abbrev s : ℕ → State
  s = states_in bs

  module _ (u : ℕ) (l : u < count_in us) where
    placed : (p : ℕ) → any (is_fit Z s) (placements Z s u p)
        ≡ fits_turned Z s (cells_in ps) (starts_in ps) (mates Z s p) (shape_of (flat h w) (entry (numbers_in us)) u)
    unfolding placements fits_turned
    placed p =
        any-flat (is_fit Z s)
        (λ t. flat_map (λ Q. map (laid Z s t) (members (flat h w) (potential_of Z s) Q)) (mates Z s p))
        (transforms_of Z s u)
        ∙ (any_same _ (λ t. fits_beside Z s t (cells_in ps) (starts_in ps) (mates Z s p))
        (transforms_of Z s u)
        (λ t m. placed-fits (potential-grouped r) t (mates Z s p) (λ q m. mates-low (potential-grouped r) p q m))
        ∙ ap (any (λ t. fits_beside Z s t (cells_in ps) (starts_in ps) (mates Z s p))) (transforms-are r u l))

    first_cell : (xs : List ℕ) → 1 ≤ length xs
        → fits_on Z s u xs ≡ any (is_fit Z s) (placements Z s u (potential_of Z s (head_of xs)))
    unfolding fits_on
    first_cell [] h = absurd (omega arith)
    first_cell (x ∷ xs) h = refl

    -- what the code finds for a unit is what the definition asks
    pub fits_home : fits_turned Z s (cells_in ps) (starts_in ps) (mates Z s (home_in us ps u))
        (shape_of (flat h w) (entry (numbers_in us)) u) ≡ fits_unit Z s u
    unfolding fits_unit
    fits_home =
        sym (placed (home_in us ps u))
        ∙ (ap (λ p. any (is_fit Z s) (placements Z s u p)) (home-is r u l ∙ ap (potential_of Z s) (head-of r u l))
        ∙ sym (first_cell (members (flat h w) (unit_of Z s) u) (own-full r u l)))

    -- without an adjacent potential unit it fits nowhere
    pub fits-nowhere : mates Z s (home_in us ps u) ≡ [] → fits_unit Z s u ≡ false
    fits-nowhere e = sym fits_home
        ∙ turned_none Z s (cells_in ps) (starts_in ps) (shape_of (flat h w) (entry (numbers_in us)) u) e

    -- with one, a unit of one cell fits
    pub single-unit : get_or (starts_in us) (u + 1) 0 ≡ get_or (starts_in us) u 0 + 1 → {q : ℕ}
        → q ∈ mates Z s (home_in us ps u) → fits_unit Z s u ≡ true
    single-unit one {q} m =
        let b : q < count_in ps = mates-low (potential-grouped r) (home_in us ps u) q m in
        sym fits_home ∙ single-fits Z s (cells_in ps) (starts_in ps) (unit-in r u l) one m (potential-first r q b)

    -- so it does where every potential unit has one
    pub sure-unit : get_or (starts_in us) (u + 1) 0 ≡ get_or (starts_in us) u 0 + 1 → Adjoined h w cs bs (count_in ps)
        → fits_unit Z s u ≡ true
    sure-unit one k = single-unit one (k.each (home_in us ps u) (home-count r u l)).1
