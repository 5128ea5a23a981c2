-- What is left is the whole.
use Rattle.std.proofs.Common.{◌≡◌, ℕ, ◌<◌, ◌-◌, Option}
use Rattle.walls.specs.declared.Breach.{Breach}
use Rattle.walls.specs.Breaches.{breach_from}
use Rattle.walls.proofs.first_of.Given as goal

abbrev pub invariant-loop-i : goal.invariant-loop-i
invariant-loop-i g l =
    (f : ℕ → Option Breach) → ((i : ℕ) (r : Option Breach) → i < l.n → goal.F-post g l.at i r → r ≡ f i)
    → breach_from f l.n 0 ≡ breach_from f (l.n - l.i) l.i
