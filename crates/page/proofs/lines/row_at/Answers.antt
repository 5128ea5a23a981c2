-- `row_at` meets its contract: each word and the digits read are what the parser reads there.
use Rattle.page.specs.Grammar.{row}
use Rattle.page.specs.Places.{got_digits, left_from}
use Rattle.page.specs.Parsers.{lead, followed, give, onto, also}
use Rattle.page.proofs.lines.row_at.Goals as goal

pub returns-in_err-a : goal.returns-in_err-a
unfolding row lead followed give onto also got_digits left_from
returns-in_err-a c = rw (c.from_residual.ensures, ← c.in_err-a.ensures)

pub returns-in_err-digits : goal.returns-in_err-digits
unfolding row lead followed give onto also got_digits left_from
returns-in_err-digits c = rw (c.from_residual-in_err-digits.ensures, ← c.in_ok-a.ensures, ← c.in_err-digits.ensures)

pub returns-in_err-next : goal.returns-in_err-next
unfolding row lead followed give onto also got_digits left_from
returns-in_err-next c = rw
    (c.from_residual-in_err-next.ensures, ← c.in_ok-a.ensures, ← c.in_ok-digits.ensures, ← c.in_err-next.ensures)

pub returns : goal.returns
unfolding row lead followed give onto also got_digits left_from
returns c = rw (← c.in_ok-a.ensures, ← c.in_ok-digits.ensures, ← c.in_ok-next.ensures)
