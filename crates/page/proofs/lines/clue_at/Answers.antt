-- `clue_at` meets its contract: each word and number read is what the parser reads there.
use Rattle.page.specs.Grammar.{clue}
use Rattle.page.specs.Places.{got_value, left_from}
use Rattle.page.specs.Parsers.{map_r, lead, both, followed, give, onto, also}
use Rattle.page.proofs.lines.clue_at.Goals as goal

pub returns-in_err-a : goal.returns-in_err-a
unfolding clue map_r lead both followed give onto also got_value left_from
returns-in_err-a c = rw (c.from_residual.ensures, ← c.in_err-a.ensures)

pub returns-in_err-y : goal.returns-in_err-y
unfolding clue map_r lead both followed give onto also got_value left_from
returns-in_err-y c = rw (c.from_residual-in_err-y.ensures, ← c.in_ok-a.ensures, ← c.in_err-y.ensures)

pub returns-in_err-x : goal.returns-in_err-x
unfolding clue map_r lead both followed give onto also got_value left_from
returns-in_err-x c = rw (
  c.from_residual-in_err-x.ensures,
  ← c.in_ok-a.ensures,
  ← c.in_ok-y.ensures,
  ← c.in_err-x.ensures,
)

pub returns-in_err-n : goal.returns-in_err-n
unfolding clue map_r lead both followed give onto also got_value left_from
returns-in_err-n c = rw (
  c.from_residual-in_err-n.ensures,
  ← c.in_ok-a.ensures,
  ← c.in_ok-y.ensures,
  ← c.in_ok-x.ensures,
  ← c.in_err-n.ensures,
)

pub returns-in_err-next : goal.returns-in_err-next
unfolding clue map_r lead both followed give onto also got_value left_from
returns-in_err-next c = rw (
  c.from_residual-in_err-next.ensures,
  ← c.in_ok-a.ensures,
  ← c.in_ok-y.ensures,
  ← c.in_ok-x.ensures,
  ← c.in_ok-n.ensures,
  ← c.in_err-next.ensures,
)

pub returns : goal.returns
unfolding clue map_r lead both followed give onto also got_value left_from
returns c = rw (
  ← c.in_ok-a.ensures,
  ← c.in_ok-y.ensures,
  ← c.in_ok-x.ensures,
  ← c.in_ok-n.ensures,
  ← c.in_ok-next.ensures,
)
