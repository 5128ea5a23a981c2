-- The loop's invariant: the blockers at the cells before o are written.
use mathlib.Core.List.{List}
use Prim.Native.Nat.{ℕ}
use native.Mathlib.Omega.{arith}
use Rattle.rules.specs.declared.Literal.{Literal}
use Rattle.reasons.proofs.MemoryLaws.{write-none, write-more}
use Rattle.stuck.specs.Survivors.{block_in}
use Rattle.stuck.proofs.survivors.block_group.Goals.{Start}
use Rattle.stuck.proofs.survivors.block_group.Goals as goal

-- the blocker at a cell
abbrev each : Start → ℕ → List Literal
each s o =
    block_in s.args.h s.args.w s.args.borders.now s.args.rows.now s.args.turned.now
    s.args.n o

pub loop-o-init : goal.loop-o-init
loop-o-init c = write-none (each (goal.at.loop-o-init c).Start) c.args.cells.now 0 c.requires.5

pub loop-o-preserved : goal.loop-o-preserved
loop-o-preserved c =
    write-more (each (goal.at.loop-o-preserved c).Start) c.args.cells.now 0 c.loop-o.o-index (omega arith)
    c.loop-o.invariant c.loop-o-test.true
    (rw c.from.ensures at c.block_at-at.ensures)
