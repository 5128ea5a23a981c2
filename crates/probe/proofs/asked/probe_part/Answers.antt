-- Memory that is too short, a board that is refused, or the cells of the group's part.
use Rattle.std.proofs.Common.{◌≡◌, ◌∙◌, ap, sym, refl, arith, length, Ok}
use Rattle.probe.specs.ProbeAsked.{which_of, part_in}
use Rattle.probe.specs.ProbeAskedLaws.{part-few, refused-units, refused-potential, part-given}
use Rattle.probe.specs.ProbeAskedLaws.{told-short, told-words, told-none}
use Rattle.probe.proofs.asked.probe_part.Goals.{After-part_in}
use Rattle.probe.proofs.asked.probe_part.Goals as goal

cells : (c : After-part_in) → let a = c.args in c.part_in.result.now ≡ part_in a.s.now (which_of a.which) a.g
cells c =
    let a = c.args in
    c.part_in.ensures
    ∙ rw c.which_of.ensures
    (part-given a.s.now (which_of a.which) a.g c.in-Ok.units c.in-Ok-asked_in.potential
    (sym c.in-Ok.is ∙ c.asked_in.ensures) (sym c.in-Ok-asked_in.is ∙ c.asked_in-2.ensures))

pub returns-then-memory-lt-ROOM : goal.returns-then-memory-lt-ROOM
returns-then-memory-lt-ROOM c = told-short _ refl c.if-memory-lt-ROOM.true

pub returns-in_default : goal.returns-in_default
returns-in_default c =
    told-none _ refl c.if-memory-lt-ROOM.false
    (sym (refused-units c.args.s.now _ _ c.in_default.field-0 (sym c.in_default.is ∙ c.asked_in.ensures)))

pub returns-in_default-asked_in : goal.returns-in_default-asked_in
returns-in_default-asked_in c =
    told-none _ refl c.if-memory-lt-ROOM.false
    (sym
    (refused-potential c.args.s.now _ _ c.in-Ok.units c.in_default-asked_in.field-0
    (sym c.in-Ok.is ∙ c.asked_in.ensures) (sym c.in_default-asked_in.is ∙ c.asked_in-2.ensures)))

pub hand_out-requires : goal.hand_out-requires
hand_out-requires c =
    let a = c.args in
    omega (
      arith,
      ap length (cells (goal.at.hand_out-requires c).After-part_in),
      part-few a.s.now (which_of a.which) a.g,
      c.if-memory-lt-ROOM.false,
    )

pub returns : goal.returns
returns c =
    told-words c.part_in.result.now (ap Ok (cells (goal.at.returns c).After-part_in)) c.if-memory-lt-ROOM.false
    c.hand_out.ensures
