-- The loop's invariant: the groups before this one are flagged, and no others.
use mathlib.Core.Path.{◌≡◌, ◌∙◌}
use Prim.Native.Nat.{◌<◌}
use native.Mathlib.Omega.{arith}
use lib.ListN.{get_or}
use Rattle.adjacent.specs.Mates.{mate_count}
use Rattle.planes.specs.MaskLaws.{mate-listed, mate-read, mates-passed}
use Rattle.stuck.specs.FlagLaws.{flagged-none, flagged-more, flagged-all}
use Rattle.stuck.proofs.unit_walls.flag_mates.Goals.{In-loop-mate, After-from-in-loop-mate}
use Rattle.stuck.proofs.unit_walls.flag_mates.Goals as goal

pub loop-mate-init : goal.loop-mate-init
loop-mate-init c = rw c.requires.1 (flagged-none c.args.mates.now 0)

-- the unit that is read is one of the list
next : (t : In-loop-mate) → t.loop-mate.mate-index < mate_count t.args.mates.now
next t = mate-listed t.args.mates.now t.loop-mate.mate-index (rw t.from.ensures at t.loop-mate-test.true)

mate : (c : After-from-in-loop-mate)
    → c.from-in-loop-mate.result ≡ get_or c.args.mates.now c.loop-mate.mate-index 0
mate c =
    (rw c.from.ensures at c.from-in-loop-mate.ensures)
    ∙ mate-read c.args.mates.now c.loop-mate.mate-index (next (goal.at.After-from-in-loop-mate c).In-loop-mate)

pub loop-mate-preserved : goal.loop-mate-preserved
loop-mate-preserved c =
    let i = c.loop-mate.mate-index in
    let l = next (goal.at.loop-mate-preserved c).In-loop-mate in
    rw (mate (goal.at.loop-mate-preserved c).After-from-in-loop-mate)
    (flagged-more c.args.mates.now 0 i (omega arith) (omega (arith, l, c.requires.0.end, c.requires.0.long))
    (c.requires.0.each i l) c.loop-mate.invariant)

pub returns : goal.returns
returns c =
    let l = c.requires.0 in
    let e : c.loop-mate.mate-index ≡ mate_count c.args.mates.now =
    mates-passed c.args.mates.now c.loop-mate.mate-index (omega (arith, l.end, l.long))
    (rw c.from.ensures at c.loop-mate.auto.mate-index-end) (rw c.from.ensures at c.loop-mate-test.false) in
    flagged-all (rw e at c.loop-mate.invariant)
