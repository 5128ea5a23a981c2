-- The loop's invariant: Edge of each of the groups before this one is written.
use mathlib.Core.Path.{◌≡◌, ◌∙◌}
use lib.ListN.{get_or}
use mathlib.Core.List.{List}
use Prim.Native.Nat.{ℕ, ◌<◌}
use native.Mathlib.Omega.{arith}
use Rattle.rules.specs.declared.Literal.{Literal}
use Rattle.groups.specs.Grouping.{numbers_in}
use Rattle.reasons.specs.Arrays.{edge_in}
use Rattle.reasons.proofs.MemoryLaws.{write-none, write-more}
use Rattle.adjacent.specs.Mates.{mate_count}
use Rattle.planes.specs.MaskLaws.{mate-listed, mate-read, mates-passed}
use Rattle.stuck.specs.Writing.{edges_in}
use Rattle.stuck.proofs.unit_walls.edges_of.Goals.{In-loop-mate, After-from-q, Start}
use Rattle.stuck.proofs.unit_walls.edges_of.Goals as goal

-- Edge of a group
abbrev each : Start → ℕ → List Literal
each s q =
    edge_in s.args.h s.args.w s.args.colours.now s.args.borders.now
    (numbers_in s.args.potential.now) q

pub loop-mate-init : goal.loop-mate-init
loop-mate-init c =
    (write-none (each (goal.at.loop-mate-init c).Start) c.args.mates.now 0 c.requires.4, c.requires.5)

-- the unit that is read is one of the list
next : (t : In-loop-mate) → t.loop-mate.mate-index < mate_count t.args.mates.now
next t = mate-listed t.args.mates.now t.loop-mate.mate-index (rw t.from.ensures at t.loop-mate-test.true)

mate : (c : After-from-q) → c.from-q.result ≡ get_or c.args.mates.now c.loop-mate.mate-index 0
mate c =
    (rw c.from.ensures at c.from-q.ensures)
    ∙ mate-read c.args.mates.now c.loop-mate.mate-index (next (goal.at.After-from-q c).In-loop-mate)

pub edge-at-requires : goal.edge-at-requires
edge-at-requires c = (
  c.requires.0,
  c.requires.1,
  c.requires.2,
  rw (mate (goal.at.edge-at-requires c).After-from-q)
      (c.requires.3.each _ (next (goal.at.edge-at-requires c).In-loop-mate)),
  c.loop-mate.invariant.0.spare,
  c.loop-mate.invariant.1,
)

pub loop-mate-preserved : goal.loop-mate-preserved
loop-mate-preserved c =
    let l = c.requires.3.low in (
      write-more (each (goal.at.loop-mate-preserved c).Start) c.args.mates.now 0 c.loop-mate.mate-index (omega arith)
          c.loop-mate.invariant.0
          (omega (arith, next (goal.at.loop-mate-preserved c).In-loop-mate, l.end, l.long))
          (rw (← mate (goal.at.loop-mate-preserved c).After-from-q) c.edge-at.ensures.0),
      c.edge-at.ensures.1,
    )

pub returns : goal.returns
unfolding edges_in
returns c =
    let l = c.requires.3.low in
    let e : c.loop-mate.mate-index ≡ mate_count c.args.mates.now =
    mates-passed c.args.mates.now c.loop-mate.mate-index (omega (arith, l.end, l.long))
    (rw c.from.ensures at c.loop-mate.auto.mate-index-end) (rw c.from.ensures at c.loop-mate-test.false) in
    (rw e at c.loop-mate.invariant.0, c.loop-mate.invariant.1)
