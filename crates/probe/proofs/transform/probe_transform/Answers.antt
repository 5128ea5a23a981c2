-- The two cases: an image of another length, and the board that the image spells.
use Rattle.std.proofs.Common.{◌∙◌, ap, length}
use Rattle.std.proofs.Math.Seq.{sets}
use Rattle.transforms.specs.Transforms.{transform_of, memory_after}
use Rattle.probe.specs.ProbeTransform.{counts_of, other-answer, other-memory, right_answer, right-memory}
use Rattle.probe.proofs.transform.probe_transform.Goals as goal

pub returns-then-s-ne-LENGTH : goal.returns-then-s-ne-LENGTH
returns-then-s-ne-LENGTH c =
    let a = c.args in
    let m = a.memory.now in (
      c.put_counts.ensures
          ∙ ap (λ o. sets a.counts.now 0 (counts_of o)) (other-answer a.s.now a.u a.k m c.if-s-ne-LENGTH.true),
      other-memory a.s.now a.u a.k m c.if-s-ne-LENGTH.true,
    )

pub returns : goal.returns
returns c =
    let a = c.args in
    let m = a.memory.now in
    let b = c.board.ensures in
    let t = c.transform-answer.ensures in
    let l = c.if-s-ne-LENGTH.false in (
      c.put_counts-2.ensures
          ∙ ap (λ o. sets a.counts.now 0 (counts_of o))
          (t.0 ∙ ap (λ d. transform_of d a.u a.k (length m)) b ∙ right_answer a.s.now a.u a.k m l),
      t.1 ∙ ap (λ d. memory_after d a.u a.k m) b ∙ right-memory a.s.now a.u a.k m l,
    )
