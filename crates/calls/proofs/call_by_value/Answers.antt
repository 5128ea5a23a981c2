-- `call_by_value` meets its contract: a record that agrees with the board, and one that disagrees.
use Rattle.std.proofs.Common.{◌≡◌, ◌∙◌, ◌&&◌, Bool, true, false, eqb, refl, sym, ap}
use Rattle.rules.specs.declared.Tally.{Tally}
use Rattle.rules.specs.Book.{same_tally}
use Rattle.calls.specs.declared.Stepped.{Stepped}
use Rattle.calls.specs.Counted.{counted_by}
use Rattle.calls.proofs.CountedLaws.{counted_same, counted-other}
use Rattle.calls.proofs.call_by_value.Goals as goal

-- the derived equality compares the same counts
grouped : (x y z : Bool) → (x && y && z) ≡ (x && (y && z))
grouped true y z = refl
grouped false y z = refl

compared : (t u : Tally)
    → same_tally t u ≡ (eqb t.undecided u.undecided && (eqb t.walls u.walls && eqb t.opens u.opens))
compared t u = grouped (eqb t.undecided u.undecided) (eqb t.walls u.walls) (eqb t.opens u.opens)

pub returns-then-eq : goal.returns-then-eq
returns-then-eq c =
    let a = c.args in
    let g = counted_same a.board a.asked a.given a.memory.now
    (compared a.given a.board.tally ∙ sym c.eq.ensures ∙ c.if-eq.true) in
    let r = c.call-stepped.ensures in
    (ap (λ (s : Stepped). counted_by s s.board.tally) r.0 ∙ sym g.0, r.1 ∙ sym g.1)

pub returns : goal.returns
returns c =
    let a = c.args in
    let g = counted-other a.board a.asked a.given a.memory.now
    (compared a.given a.board.tally ∙ sym c.eq.ensures ∙ c.if-eq.false) in
    (sym g.0, sym g.1)
