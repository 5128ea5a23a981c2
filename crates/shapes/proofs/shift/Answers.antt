-- `shapes::shift` meets its contract: the shift is the difference of the two places.
use mathlib.Core.Path.{ap₂, ◌∙◌}
use native.Mathlib.Omega.{arith}
use lib.IntN.{pos}
use Rattle.rules.specs.Page.{◌⊕◌, opposite}
use Rattle.laws.specs.PointLaws.{add_comm}
use Rattle.shapes.specs.Pairs.{point_at, point_of}
use Rattle.shapes.specs.PairLaws.{read_back}
use Rattle.shapes.proofs.shift.Goals as goal

pub returns : goal.returns
returns c =
    let m = opposite (point_of c.args.m) in
    c.sub.ensures
    ∙ (ap₂ (λ y x. point_at y x ⊕ m) (read_back c.args.y c.from.ensures (omega arith))
    (read_back c.args.x c.from-2.ensures (omega arith))
    ∙ add_comm (point_at (pos c.args.y) (pos c.args.x)) m)
