-- `digits_at` meets its contract: the digits passed stand before those read on from i.
use Rattle.page.specs.Places.{got_digits}
use Rattle.page.specs.Parsers.{digit}
use Rattle.std.proofs.Common.{add-zero}
use Rattle.page.specs.ParserLaws.{digits-none, digits-not, digits-first, digit-told, rest-get, rest-in, rest-out}
use Rattle.page.specs.ParserLaws.{digits-past, digits-stop, digits-bad, digits_more}
use Rattle.std.proofs.lemmas.List.{get_or_read}
use borrow.Author.Tests.{ltb-true, ltb-false}
use mathlib.Core.Path.{◌≡◌, sym, ap, ◌∙◌}
use Prim.Native.Nat.{◌+◌}
use native.Mathlib.Omega.{arith}
use Rattle.page.proofs.bytes.digits_at.Goals as goal

pub returns-in_err-get : goal.returns-in_err-get
unfolding got_digits
returns-in_err-get c =
    rw c.from_residual.ensures (sym (digits-none _ _ _ (ltb-false _ _ (sym c.in_err-get.ensures.lookup.0))))

pub returns-then-not-is_ascii_digit : goal.returns-then-not-is_ascii_digit
unfolding got_digits
returns-then-not-is_ascii_digit c =
    sym (digits-not c.args.s.now c.args.at _ (ltb-true _ _ (sym c.in_ok-get.ensures.lookup.0))
    (ap digit (sym (get_or_read c.args.s.now _ _ (ltb-true _ _ (sym c.in_ok-get.ensures.lookup.0))
    c.in_ok-get.ensures.lookup.1 0)) ∙ digit-told _ c.is_ascii_digit.ensures.value c.if-not-is_ascii_digit.true))

pub loop-i-init : goal.loop-i-init
loop-i-init c =
    rw add-zero (digits-first c.args.s.now c.args.at _ (ltb-true _ _ (sym c.in_ok-get.ensures.lookup.0))
    (ap digit (sym (get_or_read c.args.s.now _ _ (ltb-true _ _ (sym c.in_ok-get.ensures.lookup.0))
    c.in_ok-get.ensures.lookup.1 0)) ∙ digit-told _ c.is_ascii_digit.ensures.value c.if-not-is_ascii_digit.false))

pub returns-then-b-stop : goal.returns-then-b-stop
unfolding got_digits
returns-then-b-stop c =
    sym (c.loop-i.invariant ∙ digits-stop _ _ _ _ (rest-in _ _ _ _ c.rest-left.ensures c.loop-i-test.true)
    (sym (rest-get _ _ _ _ c.rest-left.ensures) ∙ c.if-b-stop.true))

pub returns-then-not-is_ascii_digit-2 : goal.returns-then-not-is_ascii_digit-2
unfolding got_digits
returns-then-not-is_ascii_digit-2 c =
    sym (c.loop-i.invariant ∙ digits-bad _ _ _ _ (rest-in _ _ _ _ c.rest-left.ensures c.loop-i-test.true)
    (λ q. c.if-b-stop.false (rest-get _ _ _ _ c.rest-left.ensures ∙ q))
    (ap digit (sym (rest-get _ _ _ _ c.rest-left.ensures))
    ∙ digit-told _ c.is_ascii_digit-in-loop-i.ensures.value c.if-not-is_ascii_digit-2.true))

pub loop-i-preserved : goal.loop-i-preserved
loop-i-preserved c =
    let k : c.args.at + 1 + (c.loop-i.i + 1) ≡ c.args.at + 1 + c.loop-i.i + 1 = omega arith in
    rw k
    (c.loop-i.invariant ∙ digits_more _ _ _ _ (omega arith) (rest-in _ _ _ _ c.rest-left.ensures c.loop-i-test.true)
    (λ q. c.if-b-stop.false (rest-get _ _ _ _ c.rest-left.ensures ∙ q))
    (ap digit (sym (rest-get _ _ _ _ c.rest-left.ensures))
    ∙ digit-told _ c.is_ascii_digit-in-loop-i.ensures.value c.if-not-is_ascii_digit-2.false))

pub returns : goal.returns
unfolding got_digits
returns c = sym (c.loop-i.invariant ∙ digits-past _ _ _ _ (rest-out _ _ _ _ c.rest-left.ensures c.loop-i-test.false))
