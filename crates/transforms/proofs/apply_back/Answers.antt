-- `transforms::apply_back` meets its contract: the turn is by the row that was read, reversed.
use mathlib.Core.Path.{sym, ap, ap₂, ◌∙◌}
use Rattle.shapes.specs.Pairs.{point_of, turn_by}
use Rattle.shapes.specs.PairLaws.{small-back, signs-read, turns-read}
use Rattle.transforms.specs.BoxLaws.{turn-reversed}
use Rattle.transforms.proofs.apply_back.Goals as goal

pub returns : goal.returns
returns c =
    let r = c.signs_at in
    let p = c.turn.result in
    let e = c.turn.ensures
    ∙ (ap₂ (turn_by c.reversed.result) (small-back c.args.y c.requires.1)
    (small-back c.args.x c.requires.2)
    ∙ ap (λ q. turn_by q c.args.y c.args.x) c.reversed.ensures) in
    sym (turns-read c.args.row r.ensures p.y p.x)
    ∙ (ap (λ q. point_of (turn_by r.result q.y q.x)) e
    ∙ turn-reversed (signs-read c.args.row r.ensures) c.args.y c.args.x)
