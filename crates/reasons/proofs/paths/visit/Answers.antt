-- Each return is one of the laws of SearchLaws.
use Prim.Native.Nat.{◌*◌, ◌/◌, ◌%◌, ◌<◌}
use native.Mathlib.Omega.{arith}
use Rattle.std.proofs.Common.{Some}
use Rattle.laws.specs.FlatLaws.{Counts, counts, OnPage, row_of_lem}
use Rattle.reasons.specs.Arrays.{Stepped}
use Rattle.reasons.specs.SearchLaws.{looked-off, looked-shut, looked-old, looked-new, push-room}
use Rattle.reasons.proofs.paths.visit.Goals.{Else-seen, In-Some, Start}
use Rattle.reasons.proofs.paths.visit.Goals as goal

row : (s : Start) → OnPage s.args.h s.args.w s.args.c
row s = row_of_lem _ _ _ s.requires.2

few : (s : Start) → Counts s.args.h s.args.w
few s = counts s.requires.0

stepped : (c : In-Some) →
    let a = c.args in Stepped a.h a.w (a.c / a.w) (a.c % a.w) a.direction (Some c.in-Some.field-0)
stepped c = rw (← c.requires.5, ← c.requires.6) c.in-Some.ensures

room : (c : Else-seen) → c.args.tail < c.args.h * c.args.w
room c =
    let n = c.in-Some.field-0 in
    push-room c.requires.4 c.args.c n.to n.border (stepped (goal.at.Else-seen c).In-Some).near.to c.if-seen.false

pub beside-requires : goal.beside-requires
beside-requires c =
    let r = row c in
    (c.requires.0, rw c.requires.5 r.row, rw c.requires.6 r.column, rw (c.requires.5, c.requires.6) r.same)

pub returns-in_default : goal.returns-in_default
returns-in_default c =
    looked-off c.args.borders.now c.args.direction c.requires.4 c.requires.3
    (rw (← c.requires.5, ← c.requires.6) c.in_default.ensures)

pub returns-then-borders-border-ne2 : goal.returns-then-borders-border-ne2
returns-then-borders-border-ne2 c =
    looked-shut c.args.borders.now c.args.direction c.requires.4 c.requires.3
    (stepped (goal.at.returns-then-borders-border-ne2 c).In-Some) c.if-borders-border-ne2.true

pub returns-then-seen : goal.returns-then-seen
returns-then-seen c =
    looked-old c.args.borders.now c.args.direction c.requires.4 c.requires.3
    (stepped (goal.at.returns-then-seen c).In-Some) c.if-seen.true

pub offset_bounds-queue-tail : goal.offset_bounds-queue-tail
offset_bounds-queue-tail c = omega
    (arith, room (goal.at.offset_bounds-queue-tail c).Else-seen, few (goal.at.offset_bounds-queue-tail c).Start)

pub bounds-queue-tail : goal.bounds-queue-tail
bounds-queue-tail c =
    omega (arith, room (goal.at.bounds-queue-tail c).Else-seen, few (goal.at.bounds-queue-tail c).Start)

pub overflow_add-result : goal.overflow_add-result
overflow_add-result c =
    omega (arith, room (goal.at.overflow_add-result c).Else-seen, few (goal.at.overflow_add-result c).Start)

pub returns : goal.returns
returns c =
    looked-new c.args.borders.now c.args.direction c.requires.4 c.requires.3
    (stepped (goal.at.returns c).In-Some) c.requires.2 c.if-borders-border-ne2.false c.if-seen.false
