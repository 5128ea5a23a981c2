-- The two cases of the image's length.
use mathlib.Core.Path.{◌∙◌}
use Rattle.probe.specs.ProbeLaws.{from-other, from-right}
use Rattle.probe.proofs.board_from.Goals as goal

pub returns-then-s-ne-LENGTH : goal.returns-then-s-ne-LENGTH
returns-then-s-ne-LENGTH c = c.zero.ensures ∙ from-other _ c.if-s-ne-LENGTH.true

pub returns : goal.returns
returns c = c.board.ensures ∙ from-right _ c.if-s-ne-LENGTH.false
