-- `decide_lent` meets its contract: each return cites the law of its case; a free border leaves room on the stack.
use Rattle.std.proofs.Common.{◌≡◌, ◌∙◌, sym, ap, false, rules}
use Rattle.std.proofs.lemmas.Result.{err_from_is_err_and}
use Rattle.board.specs.Alien.{border_count_of, is_alien}
use Rattle.board.specs.Board.{decide_refusal, pushed, returned}
use Rattle.board.specs.Cases.{decide-alien, decide-free, decide-refused}
use Rattle.board.specs.ConditionLaws.{borders-of, borders-of-le}
use Rattle.board.specs.NativeLaws.{free-places, native-has}
use Rattle.board.proofs.Board.decide_lent.Goals.{After-decide_refusal, Else-alien}
use Rattle.board.proofs.Board.decide_lent.Goals as goal

known : (c : Else-alien) → is_alien c.args.self.now ≡ false
known c = sym c.alien.ensures ∙ c.if-alien.false

-- how the tests end
ends : (c : After-decide_refusal)
    → let b = c.args.self.now in
    c.decide_refusal.result ≡ decide_refusal (border_count_of b) b.borders c.args.l.border
ends c =
    let b = c.args.self.now in
    c.decide_refusal.ensures
    ∙ ap (λ m. decide_refusal m b.borders c.args.l.border)
    (c.border_count-total.ensures
    ∙ borders-of (native-has _ (known (goal.at.After-decide_refusal c).Else-alien)).size)

pub returns-then-alien : goal.returns-then-alien
returns-then-alien c = decide-alien _ _ (sym c.alien.ensures ∙ c.if-alien.true)

pub decide_refusal-requires : goal.decide_refusal-requires
decide_refusal-requires c =
    let b = c.args.self.now in
    let e = c.border_count-total.ensures in
    search (rules, borders-of-le b.height b.width)

pub returns-in_err-decide_refusal : goal.returns-in_err-decide_refusal
returns-in_err-decide_refusal c =
    let p = err_from_is_err_and c.from_residual.result c.from_residual.ensures.1 in
    rw (p.1, p.2)
    (decide-refused _ _ (known (goal.at.returns-in_err-decide_refusal c).Else-alien) _
    (sym c.in_err-decide_refusal.was ∙ ends (goal.at.returns-in_err-decide_refusal c).After-decide_refusal))

pub push-requires : goal.push-requires
push-requires c =
    free-places _ (native-has _ (known (goal.at.push-requires c).Else-alien)) _
    (sym (ends (goal.at.push-requires c).After-decide_refusal) ∙ c.in_ok-decide_refusal.was)

pub returns : goal.returns
returns c =
    let b = c.args.self.now in
    ap (returned _) (c.push.ensures ∙ ap (λ v. pushed b c.args.l.border v) c.from.ensures)
    ∙ decide-free _ _ (known (goal.at.returns c).Else-alien)
    (sym c.in_ok-decide_refusal.was ∙ ends (goal.at.returns c).After-decide_refusal)
