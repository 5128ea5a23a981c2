-- `shapes::apply` meets its contract: the turn is by the row that was read.
use mathlib.Core.Path.{ap, ap₂, ◌∙◌}
use Rattle.rules.specs.Turns.{apply}
use Rattle.shapes.specs.Pairs.{point_at, point_of}
use Rattle.shapes.specs.PairLaws.{small-back, turns-read}
use Rattle.shapes.specs.Rows.{turn_at}
use Rattle.shapes.proofs.apply.Goals as goal

pub returns : goal.returns
returns c =
    ap point_of c.turn.ensures
    ∙ (turns-read c.args.row c.signs_at.ensures _ _
    ∙ ap₂ (λ y x. apply (turn_at c.args.row) (point_at y x)) (small-back c.args.y c.requires.1)
    (small-back c.args.x c.requires.2))
