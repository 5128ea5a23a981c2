-- `decide_at` meets its contract: the word, the number and the side read are what the parsers read there.
use Rattle.page.specs.Grammar.{decide_call}
use Rattle.page.specs.Places.{got_value, left_from}
use Rattle.page.specs.Parsers.{map_r, lead, onto, both, also, give}
use Rattle.page.proofs.lines.decide_at.Goals as goal

pub returns-in_err-a : goal.returns-in_err-a
unfolding decide_call map_r lead onto both also give got_value left_from
returns-in_err-a c = rw (c.from_residual.ensures, ← c.in_err-a.ensures)

pub returns-in_err-border : goal.returns-in_err-border
unfolding decide_call map_r lead onto both also give got_value left_from
returns-in_err-border c = rw (c.from_residual-in_err-border.ensures, ← c.in_ok-a.ensures, ← c.in_err-border.ensures)

pub returns-in_err-side : goal.returns-in_err-side
unfolding decide_call map_r lead onto both also give got_value left_from
returns-in_err-side c = rw
    (c.from_residual-in_err-side.ensures, ← c.in_ok-a.ensures, ← c.in_ok-border.ensures, ← c.in_err-side.ensures)

pub returns : goal.returns
unfolding decide_call map_r lead onto both also give got_value left_from
returns c = rw (← c.in_ok-a.ensures, ← c.in_ok-border.ensures, ← c.in_ok-side.ensures)
