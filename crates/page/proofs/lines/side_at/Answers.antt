-- `side_at` meets its contract: the word read says which side.
use Rattle.lists.specs.Lists.{or_else}
use Rattle.page.specs.Grammar.{side}
use Rattle.page.specs.Places.{got_value, left_from}
use Rattle.page.specs.Parsers.{either, lead, onto, give}
use Rattle.page.proofs.lines.side_at.Goals as goal

pub returns-in-Some : goal.returns-in-Some
unfolding side either or_else lead onto give got_value left_from
returns-in-Some c = rw (← c.in-Some.ensures)

pub returns-in_err-next : goal.returns-in_err-next
unfolding side either or_else lead onto give got_value left_from
returns-in_err-next c = rw (c.from_residual.ensures, ← c.in_default.ensures, ← c.in_err-next.ensures)

pub returns : goal.returns
unfolding side either or_else lead onto give got_value left_from
returns c = rw (← c.in_default.ensures, ← c.in_ok-next.ensures)
