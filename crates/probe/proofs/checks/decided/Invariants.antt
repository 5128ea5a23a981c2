-- The loop's invariant: deciding and checking what is left gives the whole.
use Rattle.std.proofs.Common.{◌≡◌, map, drop}
use Rattle.board.specs.Accepted.{decides_of}
use Rattle.calls.specs.Answers.{literal_of}
use Rattle.probe.specs.ProbeChecks.{decides_memory}
use Rattle.probe.proofs.checks.decided.Given as goal

abbrev pub invariant-loop-code : goal.invariant-loop-code
invariant-loop-code l =
    (decides_of l.board (map literal_of (drop l.code-index l.codes))
    ≡ decides_of l.initial.board (map literal_of l.codes))
    × (decides_memory l.each l.board (map literal_of (drop l.code-index l.codes)) l.memory
    ≡ decides_memory l.each l.initial.board (map literal_of l.codes) l.initial.memory)
