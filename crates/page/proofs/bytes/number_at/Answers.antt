-- `number_at` meets its contract: the first digit, then `number_on`.
use Rattle.page.specs.Places.{got_value}
use Rattle.page.specs.Parsers.{digit}
use Rattle.page.specs.ParserLaws.{digit-told, number_past, number-not, parse-number-first}
use Rattle.std.proofs.lemmas.List.{get_or_read}
use borrow.Author.Tests.{ltb-true, ltb-false}
use mathlib.Core.Path.{sym, ap, ◌∙◌}
use Rattle.page.proofs.bytes.number_at.Goals as goal

pub returns-in_err-b : goal.returns-in_err-b
unfolding got_value
returns-in_err-b c =
    rw c.from_residual.ensures (sym (number_past _ _ _ (ltb-false _ _ (sym c.in_err-b.ensures.lookup.0))))

pub returns-then-is_ascii_digit : goal.returns-then-is_ascii_digit
returns-then-is_ascii_digit c =
    c.number_on.ensures
    ∙ rw (
      c.from.ensures,
      (get_or_read c.args.s.now _ _ (ltb-true _ _ (sym c.in_ok-b.ensures.lookup.0))
          c.in_ok-b.ensures.lookup.1 0),
    )
    (sym (parse-number-first c.args.s.now c.args.at _ (ltb-true _ _ (sym c.in_ok-b.ensures.lookup.0))
    (ap digit (sym (get_or_read c.args.s.now _ _ (ltb-true _ _ (sym c.in_ok-b.ensures.lookup.0))
    c.in_ok-b.ensures.lookup.1 0)) ∙ digit-told _ c.is_ascii_digit.ensures.value c.if-is_ascii_digit.true)))

pub returns-else-is_ascii_digit : goal.returns-else-is_ascii_digit
unfolding got_value
returns-else-is_ascii_digit c =
    sym (number-not c.args.s.now c.args.at _ (ltb-true _ _ (sym c.in_ok-b.ensures.lookup.0))
    (ap digit (sym (get_or_read c.args.s.now _ _ (ltb-true _ _ (sym c.in_ok-b.ensures.lookup.0))
    c.in_ok-b.ensures.lookup.1 0)) ∙ digit-told _ c.is_ascii_digit.ensures.value c.if-is_ascii_digit.false))
