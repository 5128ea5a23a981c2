-- `number_on` meets its contract: the number read so far goes on at i as the whole did.
use Rattle.page.specs.Places.{got_value}
use Rattle.page.specs.ParserLaws.{length_rest, rest_all, rest-next, digit-told, may-not, may-zero, may-large, may}
use Rattle.page.specs.ParserLaws.{on-past, on-stop, on-not, on-more}
use borrow.Author.Rules.{rules}
use lib.ListN.{length}
use mathlib.Core.Path.{sym, ap, ◌∙◌}
use native.Mathlib.Omega.{arith}
use Rattle.page.proofs.bytes.number_on.Goals as goal

pub loop-i-init : goal.loop-i-init
loop-i-init c = (rw rest_all, search rules)

pub overflow_add-result : goal.overflow_add-result
overflow_add-result c = omega (arith, ap length c.rest-left.ensures, length_rest c.args.s.now c.args.at)

pub overflow_add-result-then-b-stop : goal.overflow_add-result-then-b-stop
overflow_add-result-then-b-stop c = omega (arith, ap length c.rest-left.ensures, length_rest c.args.s.now c.args.at)

pub returns-then-b-stop : goal.returns-then-b-stop
unfolding got_value
returns-then-b-stop c =
    rw (← rest-next _ _ _ _ c.rest-left.ensures, ← c.rest-left.ensures)
    (sym (c.loop-i.invariant.0 ∙ on-stop _ _ _ _ c.loop-i-test.true c.if-b-stop.true))

pub returns-then-not-is_ascii_digit : goal.returns-then-not-is_ascii_digit
unfolding got_value
returns-then-not-is_ascii_digit c =
    rw (← c.rest-left.ensures)
    (sym (c.loop-i.invariant.0 ∙ on-not _ _ _ _ c.loop-i-test.true c.if-b-stop.false
    (may-not _ _ (digit-told _ c.is_ascii_digit.ensures.value c.if-not-is_ascii_digit.true))))

pub returns-then-leading : goal.returns-then-leading
unfolding got_value
returns-then-leading c =
    rw (← c.rest-left.ensures)
    (sym (c.loop-i.invariant.0 ∙ on-not _ _ _ _ c.loop-i-test.true c.if-b-stop.false
    (may-zero _ _ (digit-told _ c.is_ascii_digit.ensures.value c.if-not-is_ascii_digit.false) c.if-leading.true)))

pub returns-then-large : goal.returns-then-large
unfolding got_value
returns-then-large c =
    rw (← c.rest-left.ensures)
    (sym (c.loop-i.invariant.0 ∙ on-not _ _ _ _ c.loop-i-test.true c.if-b-stop.false
    (may-large _ _ (digit-told _ c.is_ascii_digit.ensures.value c.if-not-is_ascii_digit.false)
    (search rules) (search rules))))

pub loop-i-preserved : goal.loop-i-preserved
loop-i-preserved c = (
  rw c.from.ensures
      (c.loop-i.invariant.0 ∙ on-more _ _ _ _ c.loop-i-test.true c.if-b-stop.false
      (may _ _ (digit-told _ c.is_ascii_digit.ensures.value c.if-not-is_ascii_digit.false)
      (search rules) (search rules))),
  search rules,
)

pub returns : goal.returns
unfolding got_value
returns c = rw (← c.rest-left.ensures) (sym (c.loop-i.invariant.0 ∙ on-past _ _ _ _ c.loop-i-test.false))
