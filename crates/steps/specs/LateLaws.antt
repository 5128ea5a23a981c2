-- Step 3: what the search for a stuck unit means; the steps together.
use Rattle.std.specs.Prelude.{◌≡◌, refl, List, ℕ, ◌<◌, ℤ, Option, Some, None}
use Rattle.std.proofs.Math.Path.{sym, ap}
use Rattle.std.proofs.Common.{◌∙◌}
use Rattle.std.proofs.Math.Option.{Option as Maybe, some, none}
use Rattle.lists.specs.Lists.{or_else}
use Rattle.rules.specs.Page.{State, Puzzle}
use Rattle.rules.specs.Flat.{Sized}
use Rattle.rules.specs.Codes.{states_in, clues_in, puzzle_in, unclued}
use Rattle.rules.specs.Groups.{unit_count}
use Rattle.rules.specs.Check.{Reason, unit_reason, hit}
use Rattle.groups.specs.declared.Kind.TheVariants.{Units}
use Rattle.groups.specs.Pages.{groups_in, potential_in}
use Rattle.groups.specs.PageLaws.{kind-count}
use Rattle.fitting.specs.FirstStuck.{fits_unit, first_fail, stuck_hit}
use Rattle.fitting.specs.FirstStuckLaws.{fail-low}
use Rattle.fitting.specs.ClueLaws.{stuck-clue}
use Rattle.steps.specs.Found.{blocks_hit, walls_hit, early_hit, units_hit, Answers}

-- what the search found
module _ {h w : ℕ} (z : Sized h w) (cs : List ℕ) (bs : List ℕ) {o : Option ℕ}
    (is : o ≡ first_fail (fits_unit (unclued h w cs) (states_in bs)) (groups_in Units h w cs bs).count) where
  module _ (ks : List ℤ) where
    units-are : units_hit (puzzle_in h w cs ks) (states_in bs) ≡ stuck_hit (puzzle_in h w cs ks) (states_in bs) o
    unfolding units_hit
    units-are =
        stuck-clue h w cs (clues_in ks) (states_in bs) (unit_count (puzzle_in h w cs ks) (states_in bs))
        ∙ ap (stuck_hit (puzzle_in h w cs ks) (states_in bs))
        (ap (first_fail (fits_unit (unclued h w cs) (states_in bs)))
        (sym (kind-count z cs (clues_in ks) bs Units)) ∙ sym is)

    pub units-clear : o ≡ None → units_hit (puzzle_in h w cs ks) (states_in bs) ≡ none
    unfolding stuck_hit
    units-clear e = units-are ∙ rw e

    pub units-stuck : {u : ℕ} → o ≡ Some u
        → units_hit (puzzle_in h w cs ks) (states_in bs)
        ≡ some (unit_reason (puzzle_in h w cs ks) (states_in bs) u
        (potential_in (puzzle_in h w cs ks) (states_in bs) u))
    unfolding stuck_hit
    units-stuck e = units-are ∙ rw e

  pub units-low : {u : ℕ} → o ≡ Some u → u < (groups_in Units h w cs bs).count
  units-low {u} e = fail-low _ _ (sym is ∙ e)

-- "First hit is the reason": steps 1 and 2, then step 3
pub hit-parts : (Z : Puzzle) (s : ℕ → State) → or_else (early_hit Z s) (units_hit Z s) ≡ hit Z s
unfolding hit early_hit blocks_hit walls_hit units_hit or_else
hit-parts Z s = go (blocks_hit Z s)
  where
    go : (a : Maybe Reason) → or_else (or_else a (walls_hit Z s)) (units_hit Z s) ≡ or_else a
        (or_else (walls_hit Z s) (units_hit Z s))
    go none = refl
    go (some r) = refl

pub answers-hit : (Z : Puzzle) (s : ℕ → State) {m after : List ℕ} {r : Option ℕ}
    → Answers (or_else (early_hit Z s) (units_hit Z s)) m after r → Answers (hit Z s) m after r
answers-hit Z s a = rw (hit-parts Z s) at a
