-- `preview_lent` meets its contract: the decide's refusal, and what a check answers of the copy, which is a board that
-- is not alien since the decide would be done.
use Rattle.std.proofs.Common.{◌≡◌, ◌∙◌, ◌+◌, List, ℕ, false, sym, ap, length, rules, arith, set, Ok}
use Rattle.rules.specs.Codes.{code_of, side_in}
use Rattle.rules.specs.Check.{Verdict}
use Rattle.board.specs.declared.Board.{Board}
use Rattle.board.specs.Alien.{is_alien}
use Rattle.board.specs.Board.{decide_of, pushed, tally_more}
use Rattle.board.specs.NativeLaws.{native-has, borders-fit}
use Rattle.board.specs.TallyLaws.{tally-left}
use Rattle.board.proofs.DecideLaws.{Decided}
use Rattle.calls.specs.Answers.{found_answer, found_memory, check_answer, check_memory}
use Rattle.calls.specs.Known.{found_in}
use Rattle.calls.specs.AnswerLaws.{check-known}
use Rattle.calls.specs.CheckLaws.{same-found}
use Rattle.calls.proofs.PreviewLaws.{preview-stopped, preview-goes, preview-decided, preview-known, preview-left}
use Rattle.calls.proofs.preview_lent.Goals.{After-from}
use Rattle.calls.proofs.preview_lent.Goals as goal

-- the decide is done
ends : (c : After-from) → Ok tt ≡ (decide_of c.args.board.now c.args.l).outcome
ends c = sym c.in_default.is ∙ c.decide_ends.ensures

says : (c : After-from) → let b = c.args.board.now in Decided b c.args.l (decide_of b c.args.l).board
says c = preview-decided _ _ (ends c)

-- the board that it leaves
copy : After-from → Board
copy c = pushed c.args.board.now c.args.l.border (code_of c.args.l.side)

known : (c : After-from) → is_alien (copy c) ≡ false
unfolding copy
known c =
    let b = c.args.board.now in
    let B : length b.borders ≡ 1984 = search rules in
    let S : length b.stack ≡ 1984 = search rules in
    sym (ap is_alien (says c).is) ∙ preview-known b c.args.l (ends c) B S

pub returns-in-Err : goal.returns-in-Err
returns-in-Err c = preview-stopped c.args.board.now c.args.l c.args.memory.now c.in-Err.refusal c.in-Err.ensures

pub bounds-borders-l : goal.bounds-borders-l
bounds-borders-l c =
    let d = says c in
    omega (arith, d.below, borders-fit _ (native-has _ d.known))

pub overflow_sub-board : goal.overflow_sub-board
overflow_sub-board c =
    preview-left c.args.board.now c.args.l (ends (goal.at.overflow_sub-board c).After-from)

pub answer_tested-requires : goal.answer_tested-requires
unfolding copy
answer_tested-requires c =
    let b = c.args.board.now in
    let side = side_in (code_of c.args.l.side) in
    record {
      stack = set b.stack b.count c.args.l.border;
      count = b.count + 1;
      tally = tally_more b.tally side;
      native = rw c.from.ensures (known (goal.at.answer_tested-requires c).After-from);
      stored = tally-left b.tally side;
    }

pub returns : goal.returns
unfolding copy
returns c =
    let here = (goal.at.returns c).After-from in
    let b = c.args.board.now in
    let m = c.args.memory.now in
    let n = length m in
    let states : ℕ → List ℕ = λ v. set b.borders c.args.l.border v in
    let found : ℕ → Verdict = λ v. found_in b.height b.width b.colours b.clues (states v) in
    let f = ap found c.from.ensures ∙ same-found (copy here) in
    let k = check-known (copy here) m (known here) in
    let left = sym (says here).is in
    let g = preview-goes b c.args.l (ends here) m in
    let r = c.answer_tested.ensures in (
      r.0 ∙ ap (λ x. found_answer x n) f ∙ k.0 ∙ ap (λ d. check_answer d n) left ∙ g.0,
      r.1 ∙ ap (λ x. found_memory x m) f ∙ k.1 ∙ ap (λ d. check_memory d m) left ∙ g.1,
    )
