-- `alien` meets its contract: the tests are the definition's, on the page's counts.
use Rattle.std.proofs.Common.{◌≡◌, ◌∙◌, sym, ◌&&◌, true, arith}
use Rattle.board.specs.Alien.{size_right, puzzle_right, decided_in, unused_in}
use Rattle.board.specs.Cases.{alien-size, alien-tests}
use Rattle.board.specs.ConditionLaws.{borders-of, borders-of-le, cells-of, cells-of-le, sized}
use Rattle.board.proofs.Board.alien.Goals.{Else-not-size_right, then-cells_right, else-cells_right}
use Rattle.board.proofs.Board.alien.Goals.{Joined-cells_right, then-decisions_right, else-decisions_right}
use Rattle.board.proofs.Board.alien.Goals as goal

size : (c : Else-not-size_right) → size_right c.args.self.now.height c.args.self.now.width ≡ true
size c = sym c.size_right.ensures ∙ c.if-not-size_right.false

pub returns-then-not-size_right : goal.returns-then-not-size_right
returns-then-not-size_right c = alien-size _ (sym c.size_right.ensures ∙ c.if-not-size_right.true)

pub cells_right-requires : goal.cells_right-requires
cells_right-requires c =
    omega (arith, c.cell_count-cells.ensures, cells-of-le c.args.self.now.height c.args.self.now.width)

pub decisions_right-requires : goal.decisions_right-requires
decisions_right-requires c =
    omega (arith, c.border_count-total.ensures, borders-of-le c.args.self.now.height c.args.self.now.width)

pub returns : goal.returns
returns c =
    let b = c.args.self.now in
    let s = size (goal.at.returns c).Else-not-size_right in
    let n = c.cell_count-cells.result in
    let m = c.border_count-total.result in
    let both : c.if-cells_right.value ≡ puzzle_right n b.colours b.clues
    && decided_in m b.borders b.stack b.count b.tally =
    elim c.if-cells_right.branch [
      | then-cells_right w ↦
          w.value-is ∙ w.decisions_right.ensures ∙ rw (sym c.cells_right.ensures ∙ w.if-cells_right.true)
      | else-cells_right w ↦
          w.value-is ∙ w.if-cells_right.false ∙ rw (sym c.cells_right.ensures ∙ w.if-cells_right.false)
    ] in
    let all : c.if-decisions_right.native ≡ puzzle_right n b.colours b.clues
    && decided_in m b.borders b.stack b.count b.tally
    && unused_in n m b.colours b.clues b.borders b.stack b.count =
    elim c.if-decisions_right.branch [
      | then-decisions_right w ↦
          w.native-is ∙ w.unused_zero-native.ensures ∙ rw (sym both ∙ w.if-decisions_right.true)
      | else-decisions_right w ↦
          w.native-is ∙ w.if-decisions_right.false ∙ rw (sym both ∙ w.if-decisions_right.false)
    ] in
    alien-tests b n m _ s (c.cell_count-cells.ensures ∙ cells-of (sized s))
    (c.border_count-total.ensures ∙ borders-of (sized s)) all
