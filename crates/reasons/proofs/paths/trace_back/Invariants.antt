-- The way back: what is written, and the way from `c`, is the whole path.
use lib.ListN.{length}
use Rattle.reasons.specs.Search.{path_in}
use Rattle.reasons.proofs.PathLaws.{Tracing}
use Rattle.reasons.proofs.paths.trace_back.Given as goal

abbrev pub invariant-loop-c : goal.invariant-loop-c
invariant-loop-c l = Tracing l.h l.w l.borders l.a l.b l.parent l.over l.found l.initial.memory l.from l.c l.memory l.at

abbrev pub decreases-loop-c : goal.decreases-loop-c
decreases-loop-c l = length (path_in l.h l.w l.borders l.a l.c)
