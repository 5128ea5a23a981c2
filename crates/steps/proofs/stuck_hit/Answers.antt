-- `stuck_hit` meets its contract: the unit found is the first one that is stuck, and its reason is written.
-- the unit found, among the units of the page
use mathlib.Core.Path.{◌≡◌}
use mathlib.Core.Option.{none}
use native.Mathlib.Omega.{arith}
use Rattle.rules.specs.Codes.{states_in, clues_in, unclued}
use Rattle.groups.specs.declared.Kind.TheVariants.{Units}
use Rattle.groups.specs.Pages.{groups_in}
use Rattle.reasons.proofs.MemoryLaws.{spare-zeros, front_length, front_fits}
use Rattle.fitting.specs.FirstStuck.{fits_unit, first_fail}
use Rattle.steps.specs.HitLaws.{answers-none, answers-some, units-held}
use Rattle.steps.specs.LateLaws.{units-clear, units-low, units-stuck}
use Rattle.steps.proofs.stuck_hit.Goals.{After-first_stuck}
use Rattle.steps.proofs.stuck_hit.Goals as goal

found : (c : After-first_stuck) → let a = c.args in
    c.first_stuck.result
    ≡ first_fail (fits_unit (unclued a.h a.w a.colours.now) (states_in a.borders.now))
    (groups_in Units a.h a.w a.colours.now a.borders.now).count
found c = rw c.requires.0.units.count at c.first_stuck.ensures

pub first_stuck-requires : goal.first_stuck-requires
first_stuck-requires c = c.requires.0

pub returns-in_err-u : goal.returns-in_err-u
returns-in_err-u c =
    λ ks.
    rw c.from_residual.ensures
    (answers-none _
    (units-clear c.requires.0.drawn.sized _ _ (found (goal.at.returns-in_err-u c).After-first_stuck) ks
    c.in_err-u.was))

pub write_stuck-n-requires : goal.write_stuck-n-requires
write_stuck-n-requires c =
    let p = c.requires in (
      record {
        ready = p.0;
        colours = p.1.colours;
        borders = p.1.borders;
        low =
            rw p.0.units.count
            (units-low p.0.drawn.sized _ _ (found (goal.at.write_stuck-n-requires c).After-first_stuck) c.in_ok-u.was);
      },
      spare-zeros,
    )

pub slice_bounds-work-end : goal.slice_bounds-work-end
slice_bounds-work-end c = let w = (c.write_stuck-n.ensures (λ x. none)).spare in omega (arith, w.long, w.room)

pub slice_bounds-hand_out-end : goal.slice_bounds-hand_out-end
slice_bounds-hand_out-end c = front_length (c.write_stuck-n.ensures (λ x. none))

pub hand_out-requires : goal.hand_out-requires
hand_out-requires c =
    let p = c.requires in
    front_fits (c.write_stuck-n.ensures (λ x. none)) _ p.1.memory

pub returns : goal.returns
returns c =
    let p = c.requires in
    let z = p.0.drawn.sized in
    λ ks.
    answers-some _ p.1.borders (units-held z _ ks _)
    (units-stuck z _ _ (found (goal.at.returns c).After-first_stuck) ks c.in_ok-u.was)
    (c.write_stuck-n.ensures (clues_in ks)) c.hand_out.ensures
