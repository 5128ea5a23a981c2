-- More laws of the definitions, by cases; no answer cites them.
use Rattle.std.specs.Prelude.{List, ℕ, Some}
use Rattle.lists.specs.Lists.{◌∈◌}
use Rattle.rules.specs.Codes.{states_in, unclued}
use Rattle.rules.specs.Check.{mates}
use Rattle.groups.specs.declared.Grouping.{Grouping}
use Rattle.adjacent.specs.Mates.{OneOf}
use Rattle.adjacent.specs.Homes.{Home}
use Rattle.fitting.specs.HeldLaws.{mate-few}

-- HeldLaws: a potential unit that the arrays have
module _ {h w : ℕ} {cs bs : List ℕ} {ps : Grouping} {p : ℕ} (k : Home h w cs bs ps p) where
  pub mate-kept : {q : ℕ} → q ∈ mates (unclued h w cs) (states_in bs) p
      → OneOf (mates (unclued h w cs) (states_in bs) p) (Some q)
  mate-kept m = (mate-few k m, m)
