-- `undo_lent` meets its contract: each return cites the law of its case.
use Rattle.std.proofs.Common.{◌≡◌, ◌∙◌, sym, ap, false, rules, ◌<◌, ◌+◌, ◌-◌, arith}
use Rattle.std.proofs.lemmas.Result.{err_from_is_err_and}
use Rattle.board.specs.Alien.{is_alien}
use Rattle.board.specs.Board.{returned}
use Rattle.board.specs.Cases.{refusal-some, undo-alien, undo-free, undo-refused}
use Rattle.board.specs.NativeLaws.{borders-fit, native-has, tally-fits}
use Rattle.board.proofs.DecideLaws.{side-counted}
use Rattle.board.proofs.Board.undo_lent.Goals.{Else-alien}
use Rattle.board.proofs.Board.undo_lent.Goals as goal

known : (c : Else-alien) → is_alien c.args.self.now ≡ false
known c = sym c.alien.ensures ∙ c.if-alien.false

pub returns-then-alien : goal.returns-then-alien
returns-then-alien c = undo-alien _ (sym c.alien.ensures ∙ c.if-alien.true)

pub returns-in_err-undo_refusal : goal.returns-in_err-undo_refusal
returns-in_err-undo_refusal c =
    let p = err_from_is_err_and c.from_residual.result c.from_residual.ensures.1 in
    rw (p.1, p.2)
    (undo-refused _ (known (goal.at.returns-in_err-undo_refusal c).Else-alien) _
    (sym c.in_err-undo_refusal.was ∙ c.undo_refusal.ensures))

pub pop-requires : goal.pop-requires
pop-requires c =
    let n = c.args.self.now.count in
    let N = native-has _ (known (goal.at.pop-requires c).Else-alien) in
    let m = borders-fit _ N in
    let f = N.few in
    let z = refusal-some n (sym c.undo_refusal.ensures ∙ c.in_ok-undo_refusal.was) in
    let j : 0 < n = omega arith in
    let e : n ≡ n - 1 + 1 = omega arith in (
      j,
      omega arith,
      omega (arith, N.entry (n - 1) (omega arith)),
      (tally-fits _ N).0,
      side-counted _ N (search rules) (search rules) (n - 1) e,
    )

pub returns : goal.returns
returns c =
    ap (returned _) c.pop.ensures
    ∙ undo-free _ (known (goal.at.returns c).Else-alien)
    (sym c.in_ok-undo_refusal.was ∙ c.undo_refusal.ensures)
