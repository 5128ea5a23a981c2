-- `refused_line` meets its contract: the word is that of a refusal.
use Rattle.print.specs.Answers.{show_reply}
use Rattle.print.proofs.refused_line.Goals as goal

pub returns : goal.returns
unfolding show_reply
returns c = c.numbered.ensures
