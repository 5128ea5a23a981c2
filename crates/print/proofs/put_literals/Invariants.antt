-- `put_literals` meets its contract, literal by literal.
use mathlib.Core.Path.{◌≡◌}
use Rattle.print.specs.Chunks.{Putting}
use Rattle.print.proofs.put_literals.Given as goal

abbrev pub invariant-loop-next : goal.invariant-loop-next
invariant-loop-next l =
    (l.chunk.next ≡ l.next) × Putting l.codes l.from l.to l.initial.out l.out l.chunk.next l.chunk.count
