-- More laws of the definitions, by cases; no answer cites them.
use Rattle.std.specs.Prelude.{◌≡◌, List, ℕ, Option, None}
use Rattle.std.proofs.Math.Option.{Option as Maybe}
use Rattle.rules.specs.Check.{Reason}
use Rattle.steps.specs.Found.{Answers}

-- HitLaws: nothing was found, as a match tells it
pub answers-told : {o : Maybe Reason} {m after : List ℕ} {r : Option ℕ} → r ≡ None → Answers o m after r
    → Answers o m after None
answers-told e t = rw e at t
