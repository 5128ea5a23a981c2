-- `first` meets its contract: its board is the all-zero one.
use mathlib.Core.Path.{ap}
use Rattle.board.specs.declared.Board.{Board}
use Rattle.transcript.specs.declared.Stage.TheVariants.{Begin}
use Rattle.transcript.proofs.first.Goals as goal

pub returns : goal.returns
returns c = ap (λ (b : Board). record { board = b; at = 0; stage = Begin; count = 0 }) c.zero.ensures
