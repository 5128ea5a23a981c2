-- `turn` meets its contract: no call is left, or the call's line begins.
use borrow.Author.Rules.{rules}
use Rattle.page.specs.Places.{got_value}
use mathlib.Core.Path.{sym}
use Rattle.transcript.proofs.LeftLaws.{turn_end, turn-goes}
use Rattle.transcript.proofs.turn.Goals as goal

pub returns-in_default : goal.returns-in_default
unfolding got_value
returns-in_default c = turn_end _ _ _ _ _ (sym c.in_default.ensures)

pub put_line-requires : goal.put_line-requires
put_line-requires c = (c.line_of.ensures.small, search rules)

pub returns : goal.returns
unfolding got_value
returns c =
    turn-goes _ _ _ _ _ _ (sym c.in-Some.ensures) c.call-stepped.ensures
    c.stage_of.ensures c.line_of.ensures
    c.put_line.ensures (search rules)
