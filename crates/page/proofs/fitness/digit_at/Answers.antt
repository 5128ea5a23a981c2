-- `digit_at` meets its contract: past the end there is no digit, and a byte below 48 has the value 0.
use Rattle.page.specs.Places.{digit_at}
use Rattle.std.proofs.Common.{sym, ap, ◌∙◌, ◌-◌}
use Rattle.std.proofs.lemmas.List.{get_or_read}
use borrow.Author.Tests.{ltb-true, ltb-false}
use lib.ListN.{get_or-eq_default}
use Rattle.page.proofs.fitness.digit_at.Goals as goal

pub returns-in-Some : goal.returns-in-Some
unfolding digit_at
returns-in-Some c =
    c.saturating_sub.ensures ∙ ap (λ v. v - 48)
    (get_or_read c.args.s.now _ _ (ltb-true _ _ (sym c.in-Some.ensures.lookup.0)) c.in-Some.ensures.lookup.1 0)

pub returns-in-None : goal.returns-in-None
unfolding digit_at
returns-in-None c =
    rw (get_or-eq_default c.args.s.now 0 (ltb-false c.args.at _ (sym c.in-None.ensures.lookup.0)))
