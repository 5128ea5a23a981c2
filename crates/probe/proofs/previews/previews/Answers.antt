-- One preview more gives the number and the memory of one more.
use Rattle.std.proofs.Common.{◌≡◌, ◌∙◌, refl, ap, arith, length}
use Rattle.calls.specs.Answers.{answer_number, preview_answer, preview_memory}
use Rattle.probe.specs.ProbePreviews.{previews_number, previews_memory}
use Rattle.probe.specs.ProbePreviewsLaws.{preview-in-range, previews-length, previews-memory-more}
use Rattle.probe.specs.ProbePreviewsLaws.{previews-number-more}
use Rattle.probe.proofs.previews.previews.Goals as goal

pub loop-init : goal.loop-init
unfolding previews_number previews_memory
loop-init c = (refl, refl)

pub number-last-requires : goal.number-last-requires
number-last-requires c = rw c.preview_lent.ensures.0 (preview-in-range c.args.board.now c.args.l c.loop.memory)

pub loop-preserved : goal.loop-preserved
loop-preserved c =
    let b = c.args.board.now in
    let l = c.args.l in
    let m = c.args.memory.now in
    let i = c.loop.counter in
    let e = c.preview_lent.ensures in
    let long = ap length c.loop.invariant.1 ∙ previews-length b l i m in (
      c.number-last.ensures ∙ ap answer_number e.0 ∙ ap (λ n. answer_number (preview_answer b l n)) long
          ∙ previews-number-more b l (length m) i,
      e.1 ∙ ap (preview_memory b l) c.loop.invariant.1 ∙ previews-memory-more b l i m,
    )

pub returns : goal.returns
returns c =
    let b = c.args.board.now in
    let l = c.args.l in
    let m = c.args.memory.now in
    let e : c.loop.counter ≡ c.args.times = omega arith in (
      c.loop.invariant.0 ∙ ap (previews_number b l (length m)) e,
      c.loop.invariant.1 ∙ ap (λ k. previews_memory b l k m) e,
    )
