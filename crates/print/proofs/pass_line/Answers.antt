-- `pass_line` meets its contract: the word is that of a pass.
use Rattle.print.specs.Answers.{show_reply}
use Rattle.print.proofs.pass_line.Goals as goal

pub returns : goal.returns
unfolding show_reply
returns c = c.numbered.ensures
