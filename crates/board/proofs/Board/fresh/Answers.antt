-- `fresh` meets its contract: each return cites the law of its case.
use mathlib.Core.Bool.{true}
use mathlib.Core.Path.{◌∙◌, ◌≡◌, ap, sym}
use Prim.Native.Nat.{◌*◌, ◌≤◌}
use native.Mathlib.Omega.{arith}
use Rattle.laws.specs.FlatLaws.{counts}
use Rattle.board.specs.Alien.{size_right}
use Rattle.board.specs.Board.{puzzle_refusal}
use Rattle.board.specs.Cases.{PuzzleFit, fresh-free, fresh-refused, fresh-size, puzzle-free}
use Rattle.board.specs.ConditionLaws.{borders-of, cells-of, sized}
use Rattle.board.proofs.Board.fresh.Goals.{After-puzzle_refusal, In_default, Else-not-size_right}
use Rattle.board.proofs.Board.fresh.Goals as goal

size : (c : Else-not-size_right) → size_right c.args.height c.args.width ≡ true
size c = sym c.size_right.ensures ∙ c.if-not-size_right.false

-- how the tests of the puzzle end
ends : (c : After-puzzle_refusal)
    → let a = c.args in
    c.puzzle_refusal.result ≡ puzzle_refusal (a.height * a.width) a.colours.now a.clues.now
ends c =
    let a = c.args in
    c.puzzle_refusal.ensures
    ∙ ap (λ n. puzzle_refusal n a.colours.now a.clues.now)
    (c.cell_count-cells.ensures ∙ cells-of (sized (size (goal.at.After-puzzle_refusal c).Else-not-size_right)))

-- the colours and the clues fit the arrays
fit : (c : In_default)
    → let a = c.args in
    PuzzleFit (a.height * a.width) a.colours.now a.clues.now × (a.height * a.width ≤ 1024)
fit c = (
  puzzle-free _ _ _ (sym (ends (goal.at.In_default c).After-puzzle_refusal) ∙ c.in_default.is),
  (counts (sized (size (goal.at.In_default c).Else-not-size_right))).cells,
)

pub returns-then-not-size_right : goal.returns-then-not-size_right
returns-then-not-size_right c =
    c.refused.ensures ∙ fresh-size _ _ _ _ (sym c.size_right.ensures ∙ c.if-not-size_right.true)

pub returns-in-Err : goal.returns-in-Err
returns-in-Err c =
    c.refused-in-Err.ensures
    ∙ fresh-refused _ _ _ _ (size (goal.at.returns-in-Err c).Else-not-size_right) _
    (sym c.in-Err.is ∙ ends (goal.at.returns-in-Err c).After-puzzle_refusal)

pub padded-requires : goal.padded-requires
padded-requires c = let f = fit c in omega (arith, f.0.colours, f.1)

pub padded-requires-2 : goal.padded-requires-2
padded-requires-2 c = let f = fit (goal.at.padded-requires-2 c).In_default in omega (arith, f.0.clues, f.1)

pub returns : goal.returns
returns c =
    let s = size (goal.at.returns c).Else-not-size_right in
    rw (c.padded.ensures, c.padded-2.ensures, c.border_count.ensures ∙ borders-of (sized s))
    (fresh-free _ _ _ _ s (sym c.in_default.is ∙ ends (goal.at.returns c).After-puzzle_refusal))
