-- `line_end` meets its contract: the parser of the line's kind says what is left.
use Rattle.page.specs.Places.{left_from, got_digits, got_value, after_read, after_line}
use Rattle.page.proofs.whole.line_end.Goals as goal

pub returns-in_err-row_at-in-Row : goal.returns-in_err-row_at-in-Row
unfolding left_from got_digits after_read after_line
returns-in_err-row_at-in-Row c = rw (c.in-Row.is, c.from_residual.ensures, ← c.in_err-row_at-in-Row.ensures)

pub returns-in_ok-row_at-in-Row : goal.returns-in_ok-row_at-in-Row
unfolding left_from got_digits after_read after_line
returns-in_ok-row_at-in-Row c = rw (c.in-Row.is, ← c.in_ok-row_at-in-Row.ensures)

pub returns-in_err-clue_at-in-Clue : goal.returns-in_err-clue_at-in-Clue
unfolding left_from got_value after_read after_line
returns-in_err-clue_at-in-Clue c = rw
    (c.in-Clue.is, c.from_residual-in_err-clue_at-in-Clue.ensures, ← c.in_err-clue_at-in-Clue.ensures)

pub returns-in_ok-clue_at-in-Clue : goal.returns-in_ok-clue_at-in-Clue
unfolding left_from got_value after_read after_line
returns-in_ok-clue_at-in-Clue c = rw (c.in-Clue.is, ← c.in_ok-clue_at-in-Clue.ensures)

pub returns-in_err-call_at-in-Call : goal.returns-in_err-call_at-in-Call
unfolding left_from got_value after_read after_line
returns-in_err-call_at-in-Call c = rw
    (c.in-Call.is, c.from_residual-in_err-call_at-in-Call.ensures, ← c.in_err-call_at-in-Call.ensures)

pub returns-in_ok-call_at-in-Call : goal.returns-in_ok-call_at-in-Call
unfolding left_from got_value after_read after_line
returns-in_ok-call_at-in-Call c = rw (c.in-Call.is, ← c.in_ok-call_at-in-Call.ensures)
