-- Each return is a case of the definition.
use mathlib.Core.Path.{◌≡◌, sym, ap, ◌∙◌}
use mathlib.Core.Bool.{◌&&◌, not}
use lib.Dec.{eqb}
use Rattle.rules.specs.Groups.{entry}
use Rattle.groups.specs.Grouping.{numbers_in}
use Rattle.planes.specs.Placing.{is_clear}
use Rattle.fitting.proofs.copies.joint_clear.Goals.{then-on, else-on, Then-not-joined, Else-not-joined}
use Rattle.fitting.proofs.copies.joint_clear.Goals as goal

pub returns-then-not-joined : goal.returns-then-not-joined
unfolding entry
returns-then-not-joined c =
    let e : c.if-on.joined ≡ c.args.on && eqb (entry (numbers_in c.args.units.now) c.args.to) c.args.g =
    elim c.if-on.branch [
      | then-on w ↦ rw w.if-on.true (w.joined-is ∙ ap (λ x. eqb x c.args.g) w.group_of.ensures)
      | else-on w ↦ rw w.if-on.false (w.joined-is ∙ w.if-on.false)
    ] in
    rw (sym e ∙ c.if-not-joined.true) (ap not c.if-not-joined.true)

pub returns-else-not-joined : goal.returns-else-not-joined
unfolding entry
returns-else-not-joined c =
    let e : c.if-on.joined ≡ c.args.on && eqb (entry (numbers_in c.args.units.now) c.args.to) c.args.g =
    elim c.if-on.branch [
      | then-on w ↦ rw w.if-on.true (w.joined-is ∙ ap (λ x. eqb x c.args.g) w.group_of.ensures)
      | else-on w ↦ rw w.if-on.false (w.joined-is ∙ w.if-on.false)
    ] in
    rw (sym e ∙ c.if-not-joined.false) (c.is_clear.ensures ∙ ap is_clear c.read_place.ensures)
