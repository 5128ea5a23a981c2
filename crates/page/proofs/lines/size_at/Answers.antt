-- `size_at` meets its contract: each word and number read is what the parser reads there.
use Rattle.page.specs.Grammar.{size}
use Rattle.page.specs.Places.{got_value, left_from}
use Rattle.page.specs.Parsers.{lead, both, followed, give, onto, also}
use Rattle.page.proofs.lines.size_at.Goals as goal

pub returns-in_err-a : goal.returns-in_err-a
unfolding size lead both followed give onto also got_value left_from
returns-in_err-a c = rw (c.from_residual.ensures, ← c.in_err-a.ensures)

pub returns-in_err-h : goal.returns-in_err-h
unfolding size lead both followed give onto also got_value left_from
returns-in_err-h c = rw (c.from_residual-in_err-h.ensures, ← c.in_ok-a.ensures, ← c.in_err-h.ensures)

pub returns-in_err-w : goal.returns-in_err-w
unfolding size lead both followed give onto also got_value left_from
returns-in_err-w c = rw (
  c.from_residual-in_err-w.ensures,
  ← c.in_ok-a.ensures,
  ← c.in_ok-h.ensures,
  ← c.in_err-w.ensures,
)

pub returns-in_err-next : goal.returns-in_err-next
unfolding size lead both followed give onto also got_value left_from
returns-in_err-next c = rw (
  c.from_residual-in_err-next.ensures,
  ← c.in_ok-a.ensures,
  ← c.in_ok-h.ensures,
  ← c.in_ok-w.ensures,
  ← c.in_err-next.ensures,
)

pub returns : goal.returns
unfolding size lead both followed give onto also got_value left_from
returns c = rw (← c.in_ok-a.ensures, ← c.in_ok-h.ensures, ← c.in_ok-w.ensures, ← c.in_ok-next.ensures)
