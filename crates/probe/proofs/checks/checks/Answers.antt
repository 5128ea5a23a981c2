-- One check more gives the number and the memory of one more.
use Rattle.std.proofs.Common.{◌≡◌, ◌∙◌, refl, ap, arith, length}
use Rattle.calls.specs.Answers.{answer_number, check_answer, check_memory}
use Rattle.probe.specs.ProbeChecks.{checks_number, checks_memory}
use Rattle.probe.specs.ProbeChecksLaws.{checks-length, checks-memory-more, number_more}
use Rattle.probe.proofs.checks.checks.Goals as goal

pub loop-init : goal.loop-init
unfolding checks_number checks_memory
loop-init c = (refl, refl)

pub loop-preserved : goal.loop-preserved
loop-preserved c =
    let b = c.args.board.now in
    let m = c.args.memory.now in
    let i = c.loop.counter in
    let e = c.check_once-last.ensures in (
      e.0 ∙ ap (λ n. answer_number (check_answer b n)) (ap length c.loop.invariant.1 ∙ checks-length b i m)
          ∙ number_more b (length m) i,
      e.1 ∙ ap (check_memory b) c.loop.invariant.1 ∙ checks-memory-more b i m,
    )

pub returns : goal.returns
returns c =
    let b = c.args.board.now in
    let m = c.args.memory.now in
    let e : c.loop.counter ≡ c.args.times = omega arith in (
      c.loop.invariant.0 ∙ ap (checks_number b (length m)) e,
      c.loop.invariant.1 ∙ ap (λ k. checks_memory b k m) e,
    )
