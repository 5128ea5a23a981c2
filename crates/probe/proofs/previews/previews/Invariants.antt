-- The loop's invariant: the number and the memory after the previews so far.
use Rattle.std.proofs.Common.{◌≡◌, length}
use Rattle.probe.specs.ProbePreviews.{previews_number, previews_memory}
use Rattle.probe.proofs.previews.previews.Given as goal

abbrev pub invariant-loop : goal.invariant-loop
invariant-loop l =
    (l.last ≡ previews_number l.board l.l (length l.initial.memory) l.counter)
    × (l.memory ≡ previews_memory l.board l.l l.counter l.initial.memory)
