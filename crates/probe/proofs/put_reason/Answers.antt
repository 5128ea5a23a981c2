-- No group has the number; or Inside or Edge of the group is written and handed out.
-- the start, as it is seen once the borders are read
use mathlib.Core.Path.{refl}
use native.Mathlib.Omega.{arith}
use borrow.Author.Tests.{eq-eqb, ne_eqb}
use Rattle.rules.specs.declared.Side.{Side}
use Rattle.rules.specs.declared.Side.TheVariants.{Wall, Open}
use Rattle.rules.specs.Page.{Contains}
use Rattle.rules.specs.Codes.{states_in}
use Rattle.reasons.specs.Arrays.{GroupAt, group_reason}
use Rattle.reasons.proofs.MemoryLaws.{spare-zeros, front_length, front_fits}
use Rattle.probe.specs.Probe.{places_of, kind_groups, reason_words}
use Rattle.image.specs.Image.{side_of}
use Rattle.probe.specs.ProbeLaws.{places-length, group-is, no-reason, reason-held, literals}
use Rattle.probe.proofs.put_reason.Goals.{After-places-b}
use Rattle.probe.proofs.put_reason.Goals as goal

-- the group that reasons ask for
group : (k : After-places-b) → GroupAt k.args.h k.args.w k.grouped-grouping.result k.args.group
group k =
    group-is k.requires.0 k.args.colours.now k.args.borders.now k.args.kind k.grouped-grouping.ensures
    k.args.group (omega (arith, k.count_of.ensures, k.if-count_of-group.false))

-- its Inside and Edge hold on the board
held : (k : After-places-b) (side : Side) → let a = k.args in
    Contains (states_in (places_of 1984 a.borders.now))
    (group_reason a.h a.w (places_of 1024 a.colours.now) (places_of 1984 a.borders.now)
    (kind_groups a.h a.w a.colours.now a.borders.now a.kind).ids side a.group)
held k side =
    reason-held k.requires.0 k.args.colours.now k.args.borders.now k.args.kind side k.args.group

pub returns-then-count_of-group : goal.returns-then-count_of-group
returns-then-count_of-group c =
    let a = c.args in
    rw (no-reason c.requires.0 a.colours.now a.borders.now a.kind (side_of a.side) a.group
    (omega (arith, c.grouped-grouping.ensures.count, c.count_of.ensures, c.if-count_of-group.true)))
    (record { memory = refl; count = refl })

pub inside-n-requires : goal.inside-n-requires
inside-n-requires c = (
  c.requires.0,
  rw c.places-b.ensures (places-length 1984 _),
  group (goal.at.inside-n-requires c).After-places-b,
  spare-zeros,
)

pub slice_bounds-hand_out-end : goal.slice_bounds-hand_out-end
slice_bounds-hand_out-end c = front_length c.inside-n.ensures

pub hand_out-requires : goal.hand_out-requires
hand_out-requires c = front_fits c.inside-n.ensures _ (omega (arith, c.requires.1))

pub returns-then-side-eq0 : goal.returns-then-side-eq0
unfolding reason_words
returns-then-side-eq0 c =
    rw (eq-eqb _ _ c.if-side-eq0.true)
    (literals _ (held (goal.at.returns-then-side-eq0 c).After-places-b Open)
    (rw (c.places-b.ensures, c.grouped-grouping.ensures.numbers) at c.inside-n.ensures)
    c.hand_out.ensures)

pub edge-n-requires : goal.edge-n-requires
edge-n-requires c = (
  c.requires.0,
  rw c.places-b.ensures (places-length 1984 _),
  rw c.places-c.ensures (places-length 1024 _),
  group (goal.at.edge-n-requires c).After-places-b,
  spare-zeros,
  refl,
)

pub slice_bounds-hand_out-end-2 : goal.slice_bounds-hand_out-end-2
slice_bounds-hand_out-end-2 c = front_length c.edge-n.ensures.0

pub hand_out-requires-2 : goal.hand_out-requires-2
hand_out-requires-2 c = front_fits c.edge-n.ensures.0 _ (omega (arith, c.requires.1))

pub returns : goal.returns
unfolding reason_words
returns c =
    rw (ne_eqb _ _ c.if-side-eq0.false)
    (literals _ (held (goal.at.returns c).After-places-b Wall)
    (rw (
      c.places-b.ensures,
      c.grouped-grouping.ensures.numbers,
      c.places-c.ensures,
    ) at
    c.edge-n.ensures.0)
    c.hand_out-2.ensures)
