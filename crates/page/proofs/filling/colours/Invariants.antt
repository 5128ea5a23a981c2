-- `colours` meets its contract: the rows from p on are still to be laid.
use Prim.Native.Nat.{◌-◌}
use Rattle.lists.specs.Lists.{flat_map}
use Rattle.page.specs.Grammar.{row}
use Rattle.page.specs.Judge.{colour_array}
use Rattle.page.specs.Places.{all_from}
use lib.ListN.{length}
use lib.Seq.{sets}
use mathlib.Core.Path.{◌≡◌}
use Rattle.page.proofs.filling.colours.Given as goal

abbrev pub invariant-loop-digits : goal.invariant-loop-digits
invariant-loop-digits l =
    colour_array (all_from row l.s l.at) ≡ sets l.laid.cells l.laid.count (flat_map (λ ds. ds) (all_from row l.s l.p))

abbrev pub decreases-loop-digits : goal.decreases-loop-digits
decreases-loop-digits l = length l.s - l.p
