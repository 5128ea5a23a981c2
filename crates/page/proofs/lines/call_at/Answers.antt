-- `call_at` meets its contract: each word read is what the parser reads there.
use Rattle.lists.specs.Lists.{or_else}
use Rattle.page.specs.Grammar.{call}
use Rattle.page.specs.Places.{got_value, left_from}
use Rattle.page.specs.Parsers.{either, lead, onto, give}
use Rattle.page.proofs.lines.call_at.Goals as goal

pub returns-in-Some : goal.returns-in-Some
unfolding call either or_else lead onto give got_value left_from
returns-in-Some c = rw (← c.in-Some.ensures)

pub returns-in-Some-word_at : goal.returns-in-Some-word_at
unfolding call either or_else lead onto give got_value left_from
returns-in-Some-word_at c = rw (← c.in_default.ensures, ← c.in-Some-word_at.ensures)

pub returns : goal.returns
unfolding call either or_else lead onto give got_value left_from
returns c = rw (← c.in_default.ensures, ← c.in_default-word_at.ensures, c.decide_at.ensures)
