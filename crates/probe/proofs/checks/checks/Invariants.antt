-- The loop's invariant: the number and the memory after the checks so far.
use Rattle.std.proofs.Common.{◌≡◌, length}
use Rattle.probe.specs.ProbeChecks.{checks_number, checks_memory}
use Rattle.probe.proofs.checks.checks.Given as goal

abbrev pub invariant-loop : goal.invariant-loop
invariant-loop l =
    (l.last ≡ checks_number l.board (length l.initial.memory) l.counter)
    × (l.memory ≡ checks_memory l.board l.counter l.initial.memory)
