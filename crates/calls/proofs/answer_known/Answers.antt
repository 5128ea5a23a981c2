-- `answer_known` meets its contract: what the search for a hit finds is the answer of a check.
use Rattle.std.proofs.Common.{◌≡◌, ◌∙◌, ap, sym, length, rules}
use Rattle.calls.specs.declared.Answer.TheVariants.{Pass}
use Rattle.calls.specs.CheckLaws.{drawn-of, nothing-found, reason-found}
use Rattle.calls.proofs.answer_known.Goals as goal

pub find-requires : goal.find-requires
find-requires c =
    let p = c.requires in
    let C : length c.args.colours.now ≡ 1024 = search rules in
    let B : length c.args.borders.now ≡ 1984 = search rules in
    (drawn-of _ p.0.native, record { colours = C; borders = B; memory = p.1 })

pub returns-in-None : goal.returns-in-None
returns-in-None c =
    let k = c.requires.0 in
    let r = nothing-found _ k.native _ _ (rw c.in-None.is at c.find.ensures) in
    (ap Pass (sym k.stored) ∙ r.0, r.1)

pub returns-in-Some : goal.returns-in-Some
returns-in-Some c = reason-found _ c.requires.0.native _ _ _ (rw c.in-Some.is at c.find.ensures)
