-- `decide_ends` meets its contract: an alien board, and the tests of a decide on another.
use Rattle.std.proofs.Common.{◌∙◌, sym, ap, rules}
use Rattle.board.specs.Board.{decide_refusal}
use Rattle.board.specs.declared.Returned.{Returned}
use Rattle.board.specs.Cases.{decide-alien, decide-ends}
use Rattle.board.specs.ConditionLaws.{borders-of, borders-of-le}
use Rattle.board.specs.NativeLaws.{native-has}
use Rattle.calls.proofs.decide_ends.Goals as goal

pub returns-then-alien : goal.returns-then-alien
returns-then-alien c =
    ap (λ (r : Returned). r.outcome) (decide-alien c.args.board.now c.args.l (sym c.alien.ensures ∙ c.if-alien.true))

pub decide_refusal-requires : goal.decide_refusal-requires
decide_refusal-requires c =
    let b = c.args.board.now in
    let e = c.border_count-total.ensures in
    search (rules, borders-of-le b.height b.width)

pub returns : goal.returns
returns c =
    let b = c.args.board.now in
    let known = sym c.alien.ensures ∙ c.if-alien.false in
    c.decide_refusal.ensures
    ∙ ap (λ m. decide_refusal m b.borders c.args.l.border)
    (c.border_count-total.ensures ∙ borders-of (native-has b known).size)
    ∙ decide-ends b c.args.l known
