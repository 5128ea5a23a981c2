-- `puzzle_refusal` meets its contract: each return cites the law of its case.
use mathlib.Core.Path.{◌∙◌, sym}
use Rattle.board.specs.Cases.{puzzle-clue, puzzle-clues, puzzle-colour, puzzle-colours, puzzle-none}
use Rattle.board.proofs.refusals.puzzle_refusal.Goals.{then-colours-cells-via-then-colours-cells}
use Rattle.board.proofs.refusals.puzzle_refusal.Goals.{then-colours-cells-via-else-colours-cells+then-clues-cells}
use Rattle.board.proofs.refusals.puzzle_refusal.Goals as goal

pub returns-then-colours-cells : goal.returns-then-colours-cells
returns-then-colours-cells c =
    elim c.then-colours-cells.branch [
      | then-colours-cells-via-then-colours-cells w ↦ puzzle-colours _ _ _ w.if-colours-cells.true
      | then-colours-cells-via-else-colours-cells+then-clues-cells w ↦
          puzzle-clues _ _ _ w.if-colours-cells.false w.if-clues-cells.true
    ]

pub returns-then-not-colours_right : goal.returns-then-not-colours_right
returns-then-not-colours_right c =
    puzzle-colour _ _ _ c.if-colours-cells.false c.if-clues-cells.false
    (sym c.colours_right.ensures ∙ c.if-not-colours_right.true)

pub returns-then-not-clues_right : goal.returns-then-not-clues_right
returns-then-not-clues_right c =
    puzzle-clue _ _ _ c.if-colours-cells.false c.if-clues-cells.false
    (sym c.colours_right.ensures ∙ c.if-not-colours_right.false)
    (sym c.clues_right.ensures ∙ c.if-not-clues_right.true)

pub returns : goal.returns
returns c =
    puzzle-none _ _ _ c.if-colours-cells.false c.if-clues-cells.false
    (sym c.colours_right.ensures ∙ c.if-not-colours_right.false)
    (sym c.clues_right.ensures ∙ c.if-not-clues_right.false)
