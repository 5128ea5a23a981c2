-- The unit's potential unit, the units adjacent to it, the unit's outline and its listed rows make its reason.
use mathlib.Core.Path.{◌≡◌, ap, ◌∙◌}
use Prim.Native.Nat.{ℕ, zero}
use native.Mathlib.Omega.{arith}
use lib.ListN.{get_or, length-replicate}
use Rattle.laws.specs.FlatLaws.{counts}
use Rattle.groups.specs.Grouping.{numbers_in, cells_in}
use Rattle.adjacent.specs.Homes.{home_in}
use Rattle.adjacent.specs.HomeLaws.{unit-part, unit-placed, home-few, home-cells, head-low}
use Rattle.stuck.specs.AskedLaws.{unit-low, stuck-part, at_home, arranged, imaged, home-written}
use Rattle.stuck.proofs.write_stuck.Goals.{After-group_of-p}
use Rattle.stuck.proofs.write_stuck.Goals as goal

pub start_of-requires : goal.start_of-requires
start_of-requires c = omega (arith, unit-low c.requires.0)

pub cell_at-requires : goal.cell_at-requires
cell_at-requires c = let u = stuck-part c.requires.0 in omega (arith, u.some, u.end, c.start_of.ensures)

pub group_of-p-requires : goal.group_of-p-requires
group_of-p-requires c =
    let q = c.requires.0 in
    omega (
      arith,
      rw c.start_of.ensures at c.cell_at.ensures,
      head-low q.ready c.args.u q.low,
      (counts q.ready.drawn.sized).cells,
    )

-- the unit's potential unit
home-is : (c : After-group_of-p) → let s = c.args in
    c.group_of-p.result ≡ home_in s.units.now s.potential.now s.u
home-is c =
    c.group_of-p.ensures
    ∙ ap (λ i. get_or (numbers_in c.args.potential.now) i 0)
    (c.cell_at.ensures
    ∙ ap (λ (i : ℕ). get_or (cells_in c.args.units.now) i 0) c.start_of.ensures)

pub mates_of-requires : goal.mates_of-requires
mates_of-requires c =
    let k = at_home c.requires.0 (home-is (goal.at.mates_of-requires c).After-group_of-p) in
    (k.drawn, k.known, home-few k, home-cells k, k.grouped.group _ k.low, length-replicate 1025 zero)

pub places-requires : goal.places-requires
places-requires c =
    let q = c.requires.0 in
    (unit-part q.ready.drawn.sized (stuck-part q), length-replicate 6146 zero)

pub joints-requires : goal.joints-requires
joints-requires c =
    let q = c.requires.0 in
    let e = c.places.ensures in
    unit-placed q.ready.drawn.sized (stuck-part q) e.0 e.1

pub write_unit-requires : goal.write_unit-requires
write_unit-requires c =
    let q = c.requires.0 in (
      arranged q (home-is (goal.at.write_unit-requires c).After-group_of-p) c.mates_of.ensures,
      imaged q c.joints.ensures.0 c.joints.ensures.1 c.list_rows-listed.ensures,
      c.requires.1,
    )

pub returns : goal.returns
returns c = λ k. home-written c.requires.0 k (home-is (goal.at.returns c).After-group_of-p) (c.write_unit.ensures k)
