-- `check_lent` meets its contract: an alien board, and what a check answers of one that is not.
use Rattle.std.proofs.Common.{◌≡◌, ◌∙◌, false, refl, sym, ap, length}
use Rattle.rules.specs.Check.{Verdict}
use Rattle.board.specs.Alien.{is_alien}
use Rattle.calls.specs.Answers.{found_answer, found_memory}
use Rattle.calls.specs.AnswerLaws.{check-alien, check-known}
use Rattle.calls.specs.CheckLaws.{same-found}
use Rattle.calls.proofs.check_lent.Goals.{Else-alien}
use Rattle.calls.proofs.check_lent.Goals as goal

known : (c : Else-alien) → is_alien c.args.board.now ≡ false
known c = sym c.alien.ensures ∙ c.if-alien.false

pub returns-then-alien : goal.returns-then-alien
returns-then-alien c = check-alien _ c.args.memory.now (sym c.alien.ensures ∙ c.if-alien.true)

pub answer_tested-requires : goal.answer_tested-requires
answer_tested-requires c =
    let b = c.args.board.now in
    record {
      stack = b.stack;
      count = b.count;
      tally = b.tally;
      native = known (goal.at.answer_tested-requires c).Else-alien;
      stored = refl;
    }

pub returns : goal.returns
returns c =
    let m = c.args.memory.now in
    let r = c.answer_tested.ensures in
    let g = check-known _ m (known (goal.at.returns c).Else-alien) in (
      r.0 ∙ ap (λ (f : Verdict). found_answer f (length m)) (same-found _) ∙ g.0,
      r.1 ∙ ap (λ (f : Verdict). found_memory f m) (same-found _) ∙ g.1,
    )
