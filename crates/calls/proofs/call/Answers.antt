-- Each arm hands over what its callee ensures, under the call that the match found.
use mathlib.Core.Path.{ap, sym, ◌∙◌}
use Rattle.calls.specs.Answers.{stepped, stepped_by, call_of, call_memory}
use Rattle.calls.proofs.call.Goals as goal

pub returns-in-Decide : goal.returns-in-Decide
unfolding call_of call_memory
returns-in-Decide c =
    let a = c.args in
    let e = c.in-Decide.is in (
      c.step.ensures ∙ ap stepped_by c.decide.ensures
          ∙ sym (ap (λ k. call_of a.board k a.memory.now) e),
      sym (ap (λ k. call_memory a.board k a.memory.now) e),
    )

pub returns-in-Undo : goal.returns-in-Undo
unfolding call_of call_memory
returns-in-Undo c =
    let a = c.args in
    let e = c.in-Undo.is in (
      c.step-in-Undo.ensures ∙ ap stepped_by c.undo.ensures
          ∙ sym (ap (λ k. call_of a.board k a.memory.now) e),
      sym (ap (λ k. call_memory a.board k a.memory.now) e),
    )

pub returns-in-Check : goal.returns-in-Check
unfolding call_of call_memory
returns-in-Check c =
    let a = c.args in
    let e = c.in-Check.is in
    let f = c.check_lent-answer.ensures in (
      ap (stepped a.board) f.0 ∙ sym (ap (λ k. call_of a.board k a.memory.now) e),
      f.1 ∙ sym (ap (λ k. call_memory a.board k a.memory.now) e),
    )

pub returns-in-Preview : goal.returns-in-Preview
unfolding call_of call_memory
returns-in-Preview c =
    let a = c.args in
    let e = c.in-Preview.is in
    let f = c.preview_lent-answer.ensures in (
      ap (stepped a.board) f.0 ∙ sym (ap (λ k. call_of a.board k a.memory.now) e),
      f.1 ∙ sym (ap (λ k. call_memory a.board k a.memory.now) e),
    )
