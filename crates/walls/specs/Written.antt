-- Written: the literals of a breach.
--
--   breach_literals b     "Path from the cell to that neighbour, then that wall"
--   breach-some           step 2's reason is these literals
use Rattle.std.specs.Prelude.{◌≡◌, refl, List, [], ◌∷◌, ◌++◌, ℕ, Some}
use Rattle.std.proofs.Math.Option.{some}
use Rattle.rules.specs.declared.Literal.{Literal}
use Rattle.rules.specs.Page.{Page, Puzzle, State, wall_at}
use Rattle.rules.specs.Reasons.{path}
use Rattle.walls.specs.declared.Breach.{Breach}
use Rattle.walls.specs.Breaches.{breach_reason}

unfoldable pub breach_literals : Page → (ℕ → State) → Breach → List Literal
breach_literals G s b = path G s b.cell b.to ++ (wall_at b.border ∷ [])

module _ (Z : Puzzle) (s : ℕ → State) where
  pub breach-some : (b : Breach) → breach_reason Z s (Some b) ≡ some (breach_literals Z.page s b)
  unfolding breach_reason breach_literals
  breach-some b = refl
