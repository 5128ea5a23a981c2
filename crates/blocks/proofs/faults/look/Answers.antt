-- `look` meets its contract: after each turn the cells passed were seen to agree, so that the first fault of the whole
-- list is that of the cell where the look stops.
use Rattle.std.proofs.Common.{◌≡◌, sym, ap, ◌∙◌, arith, rules, eqb, length, get_or, Option, ℕ, None, Some}
use Rattle.std.proofs.Common.{map, inl, inr, false, ◌<◌}
use Rattle.groups.specs.Grouping.{numbers_in}
use Rattle.lists.specs.Count.{bit}
use Rattle.lists.specs.CountLaws.{bit-under}
use Rattle.rules.specs.Codes.{clues_in}
use Rattle.blocks.specs.declared.Fault.TheVariants.{InsideEdge}
use Rattle.blocks.specs.BlockCases.{clue-read}
use Rattle.blocks.specs.Looks.{ClueKept}
use Rattle.blocks.specs.Looked.{byte-bit, look_none, look-more, looked-few, zero-parted, one-parted, kept-clue}
use Rattle.blocks.specs.Looked.{kept-none, kept-clash, looked-stray, looked-clash, looked-scan, looked-clear}
use Rattle.blocks.specs.Looked.{CellsLooked}
use Rattle.blocks.specs.Looked.{kept_of, kept-long, OwnPut, kept-at, other-kept, same-kept, own-set}
use Rattle.blocks.specs.Censuses.{option_of}
use Rattle.rules.specs.Check.{clash}
use Rattle.blocks.proofs.faults.look.Goals.{After-from-one, Joined-own-one, Joined-clue_at, After-loop-c}
use Rattle.blocks.proofs.faults.look.Goals.{in-Some+else-differs, in_default}
use Rattle.blocks.proofs.faults.look.Goals.{then-own-one+else-own-one-ne1024, else-own-one}
use Rattle.blocks.proofs.faults.look.Goals as goal

-- a colour's place
one : (c : After-from-one) → c.from-one.result ≡ bit (eqb (get_or c.args.colours.now c.from-c.result 0) 1)
one c = c.from-one.ensures ∙ byte-bit _

pub loop-c-init : goal.loop-c-init
loop-c-init c = look_none _ _ _ _

-- it is one of two
two : (c : After-from-one) → c.from-one.result < length c.loop-c.own
two c =
    let e = kept-long c.loop-c.own c.loop-c.invariant.two in
    omega (arith, one c, bit-under (eqb (get_or c.args.colours.now c.from-c.result 0) 1), e)

-- a potential unit is none of 1,024
few : (c : After-from-one) → c.group_of-unit.result < 1024
few c = rw c.group_of-unit.ensures (c.requires.1.few c.from-c.result)

pub returns-then-own-one-ne1024 : goal.returns-then-own-one-ne1024
returns-then-own-one-ne1024 c =
    let p = (goal.at.returns-then-own-one-ne1024 c).After-from-one in
    ap (λ u. Some (InsideEdge u)) c.group_of-unit.ensures
    ∙ looked-stray c.loop-c.invariant c.from-c.result c.loop-c-test.true c.from-c.ensures _
    (rw (one p, c.group_of-unit.ensures) at
    (other-kept c.loop-c.own c.from-one.result (two p) c.group_of-unit.result (few p) c.if-own-one.true
    c.if-own-one-ne1024.true))

-- the unit stands at its colour, or was put there
put : (c : Joined-own-one)
    → OwnPut c.group_of-unit.result c.loop-c.own c.from-one.result c.if-own-one.own
put c =
    elim c.if-own-one.branch [
      | then-own-one+else-own-one-ne1024 w ↦ inr (w.own-is, w.if-own-one-ne1024.false)
      | else-own-one w ↦ inl (w.own-is, w.if-own-one.false)
    ]

-- so that it does not differ
same : (c : Joined-own-one) → let u = get_or (numbers_in c.args.potential.now) c.from-c.result 0 in
    clash (option_of (get_or (map kept_of c.loop-c.own)
    (bit (eqb (get_or c.args.colours.now c.from-c.result 0) 1)) None)) (option_of (Some u)) ≡ false
same c =
    let p = (goal.at.Joined-own-one c).After-from-one in
    rw (one p, c.group_of-unit.ensures) at
    (same-kept c.loop-c.own c.from-one.result (two p) c.group_of-unit.result (few p) _ (put c))

pub returns-then-differs : goal.returns-then-differs
returns-then-differs c =
    let k = clue-read c.args.clues.now c.from-c.result (search rules) c.clue_at.ensures in
    looked-clash c.loop-c.invariant c.from-c.result c.loop-c-test.true c.from-c.ensures _
    (same (goal.at.returns-then-differs c).Joined-own-one)
    (kept-clash _ _ _ (sym c.in-Some.is ∙ k) (sym c.differs.ensures ∙ c.if-differs.true))

pub overflow_add-ones : goal.overflow_add-ones
overflow_add-ones c =
    let e = one (goal.at.overflow_add-ones c).After-from-one in
    let b = bit-under (eqb (get_or c.args.colours.now c.from-c.result 0) 1) in
    omega (arith, e, b, looked-few c.loop-c.invariant, c.requires.0.few)

-- the clue agrees, and is kept if it is the first
kept : (c : Joined-clue_at)
    → ClueKept c.loop-c.first (clues_in c.args.clues.now c.from-c.result) c.match-clue_at.first
kept c =
    let k = clue-read c.args.clues.now c.from-c.result (search rules) c.clue_at.ensures in
    elim c.match-clue_at.branch [
      | in-Some+else-differs w ↦
          rw w.first-is
          (kept-clue _ _ _ (sym w.in-Some.is ∙ k) (sym w.differs.ensures ∙ w.if-differs.false))
      | in_default w ↦ rw w.first-is (kept-none _ _ (sym w.in_default.is ∙ k))
    ]

pub loop-c-preserved : goal.loop-c-preserved
loop-c-preserved c =
    let j = (goal.at.loop-c-preserved c).Joined-own-one in
    let p = (goal.at.loop-c-preserved c).After-from-one in
    let e = own-set c.loop-c.own c.from-one.result (two p) c.group_of-unit.result (few p) _ (put j) in
    rw (e, one p, c.group_of-unit.ensures)
    (look-more c.loop-c.invariant c.from-c.result c.loop-c-test.true c.from-c.ensures _ (same j) (kept c))

pub overflow_sub-zeros : goal.overflow_sub-zeros
overflow_sub-zeros c = omega (arith, looked-few c.loop-c.invariant)

-- at the end all cells were seen
all : (c : After-loop-c) → let a = c.args in
    CellsLooked a.colours.now a.clues.now (numbers_in a.potential.now) a.cells.now (length a.cells.now)
    (map kept_of c.loop-c.own) c.loop-c.first c.loop-c.ones
all c = let e : c.loop-c.c-index ≡ length c.args.cells.now = omega arith in rw e at c.loop-c.invariant

-- what is kept of each colour
zero : (c : After-loop-c) → {o : Option ℕ} → o ≡ kept_of (get_or c.loop-c.own 0 0)
    → o ≡ get_or (map kept_of c.loop-c.own) 0 None
zero c e =
    let n = kept-long c.loop-c.own c.loop-c.invariant.two in
    e ∙ sym (kept-at c.loop-c.own 0 (omega (arith, n)))

other : (c : After-loop-c) → {o : Option ℕ} → o ≡ kept_of (get_or c.loop-c.own 1 0)
    → o ≡ get_or (map kept_of c.loop-c.own) 1 None
other c e =
    let n = kept-long c.loop-c.own c.loop-c.invariant.two in
    e ∙ sym (kept-at c.loop-c.own 1 (omega (arith, n)))

pub has_room-requires : goal.has_room-requires
has_room-requires c =
    let l = (goal.at.has_room-requires c).After-loop-c in
    rw (zero l c.kept.ensures) (zero-parted (all l) _ c.requires.1)

pub has_room-requires-then-has_room : goal.has_room-requires-then-has_room
has_room-requires-then-has_room c =
    let l = (goal.at.has_room-requires-then-has_room c).After-loop-c in
    rw (other l c.kept-then-has_room.ensures) (one-parted (all l) _ c.requires.1)

pub returns-then-has_room-2 : goal.returns-then-has_room-2
returns-then-has_room-2 c =
    let l = (goal.at.returns-then-has_room-2 c).After-loop-c in
    looked-clear (all l) _ (rw (zero l c.kept.ensures) at (c.has_room.ensures c.if-has_room.true))
    (rw (other l c.kept-then-has_room.ensures) at (c.has_room-then-has_room.ensures c.if-has_room-2.true))

pub returns-else-has_room : goal.returns-else-has_room
returns-else-has_room c = looked-scan (all (goal.at.returns-else-has_room c).After-loop-c)
