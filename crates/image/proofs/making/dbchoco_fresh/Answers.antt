-- `dbchoco_fresh` meets its contract: the refusals are those of making the board, then that of another length.
use Rattle.std.proofs.Common.{◌≡◌, ap, sym, ◌∙◌, arith}
use Rattle.laws.specs.FlatLaws.{counts}
use Rattle.board.specs.declared.Returned.{Returned}
use Rattle.board.specs.Board.{fresh_of, number_of}
use Rattle.board.specs.Accepted.{made_board}
use Rattle.board.specs.Cases.{refused-number}
use Rattle.board.proofs.FreshLaws.{Made}
use Rattle.image.specs.Image.{image_of}
use Rattle.image.proofs.MakingLaws.{number-refused, making-other, number-done, made_of, bytes-refused, bytes-done}
use Rattle.image.proofs.making.dbchoco_fresh.Goals.{After-fresh-made, In_default}
use Rattle.image.proofs.making.dbchoco_fresh.Goals as goal

-- how making the board ends
ends : (c : After-fresh-made)
    → let a = c.args in
    (fresh_of a.height a.width a.colours.now a.clues.now).outcome ≡ c.fresh-made.result.outcome
ends c = sym (ap (λ (r : Returned). r.outcome) c.fresh-made.ensures)

-- where it is done, the puzzle is accepted
done : (c : In_default)
    → let a = c.args in
    number_of (fresh_of a.height a.width a.colours.now a.clues.now).outcome ≡ 0
done c = ap number_of (ends (goal.at.In_default c).After-fresh-made ∙ c.in_default.is)

puzzle : (c : In_default)
    → let a = c.args in
    Made a.height a.width a.colours.now a.clues.now (made_board a.height a.width a.colours.now a.clues.now)
puzzle c = made_of _ _ _ _ c.args.image.now (done c)

pub returns-in-Err : goal.returns-in-Err
returns-in-Err c =
    let a = c.args in
    let e = c.in-Err.refusal in
    let said = ap number_of (ends (goal.at.returns-in-Err c).After-fresh-made ∙ c.in-Err.is) in
    let f = number-refused _ _ _ _ a.image.now (λ z. refused-number e (sym said ∙ z)) in
    record {
      number = c.number.ensures ∙ sym said ∙ sym f;
      bytes = sym (bytes-refused _ _ _ _ _ (λ z. refused-number e (sym said ∙ sym f ∙ z)));
    }

pub returns-then-other : goal.returns-then-other
returns-then-other c =
    let a = c.args in
    let e = making-other _ _ _ _ a.image.now (done (goal.at.returns-then-other c).In_default) c.if-other.true in
    record {
      number = c.number-then-other.ensures ∙ sym e;
      bytes = sym (bytes-refused _ _ _ _ _ (λ z. let y : 5 ≡ 0 = sym e ∙ z in omega arith));
    }

pub overflow_cast-height-2 : goal.overflow_cast-height-2
overflow_cast-height-2 c =
    let m = (puzzle (goal.at.overflow_cast-height-2 c).In_default).size in record { fits = omega arith }

pub overflow_cast-width-2 : goal.overflow_cast-width-2
overflow_cast-width-2 c =
    let m = (puzzle (goal.at.overflow_cast-width-2 c).In_default).size in record { fits = omega arith }

pub put_fresh-requires : goal.put_fresh-requires
put_fresh-requires c =
    let m = puzzle (goal.at.put_fresh-requires c).In_default in
    let p = m.fit.colours in
    let q = m.fit.clues in
    let n = (counts m.size).cells in
    (c.if-other.false, m.size, omega arith, omega arith)

pub returns : goal.returns
returns c =
    let here = (goal.at.returns c).In_default in
    let m = puzzle here in
    let e = number-done _ _ _ _ c.args.image.now (done here) c.if-other.false in
    record {
      number = sym e;
      bytes = c.put_fresh.ensures ∙ sym (bytes-done _ _ _ _ _ e ∙ ap image_of m.is);
    }
