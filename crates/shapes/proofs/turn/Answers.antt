-- `shapes::turn` meets its contract: a sign times a small number fits, and is read back as it was.
use mathlib.Core.Path.{◌≡◌}
use Rattle.shapes.specs.Pairs.{turn_by}
use Rattle.shapes.specs.PairLaws.{sign-back, times-back}
use Rattle.shapes.proofs.turn.Goals.{After-from-across}
use Rattle.shapes.proofs.turn.Goals as goal

-- the two factors are the signs
down_is : (c : After-from-across) → c.from-down.result ≡ c.args.s.down
down_is c = sign-back c.requires.0.down c.from-down.ensures

across-is : (c : After-from-across) → c.from-across.result ≡ c.args.s.across
across-is c = sign-back c.requires.0.across c.from-across.ensures

pub returns-then-s : goal.returns-then-s
unfolding turn_by
returns-then-s c =
    simp (
      c.if-s.true,
      down_is (goal.at.returns-then-s c).After-from-across,
      across-is (goal.at.returns-then-s c).After-from-across,
      times-back c.args.s.down c.args.x c.requires.0.down c.requires.2,
      times-back c.args.s.across c.args.y c.requires.0.across c.requires.1,
    )

pub returns-else-s : goal.returns-else-s
unfolding turn_by
returns-else-s c =
    simp (
      c.if-s.false,
      down_is (goal.at.returns-else-s c).After-from-across,
      across-is (goal.at.returns-else-s c).After-from-across,
      times-back c.args.s.down c.args.y c.requires.0.down c.requires.1,
      times-back c.args.s.across c.args.x c.requires.0.across c.requires.2,
    )
