-- The way back: what is written, and the way from `c`, is the whole path.
use Rattle.reasons.proofs.PathLaws.{tracing-start, tracing-none}
use Rattle.reasons.proofs.PathLaws.{tracing-more}
use Rattle.reasons.proofs.paths.trace_back.Goals.{Start}
use Rattle.reasons.proofs.paths.trace_back.Goals as goal

pub returns-then-found-b-ne1 : goal.returns-then-found-b-ne1
returns-then-found-b-ne1 c = tracing-none c.requires.2 c.requires.1 c.requires.3 c.if-found-b-ne1.true

pub loop-c-init : goal.loop-c-init
loop-c-init c = tracing-start c.requires.2 c.requires.1 c.requires.3 c.if-found-b-ne1.false

pub loop-c-preserved : goal.loop-c-preserved
loop-c-preserved c =
    let t = c.loop-c.invariant in
    let ne = c.loop-c-test.true in
    let e = c.from.ensures in
    rw c.from-c.ensures (tracing-more t ne (rw e at c.append-at.ensures))
