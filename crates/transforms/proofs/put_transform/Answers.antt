-- `transforms::put_transform` meets its contract: no unit, no transform; otherwise the unit's outline and listed rows.
use mathlib.Core.Path.{◌≡◌, sym, ap, ◌∙◌}
use Prim.Native.Nat.{◌<◌}
use native.Mathlib.Omega.{arith}
use borrow.Author.Rules.{rules}
use lib.ListN.{length}
use Rattle.rules.specs.Codes.{states_in, unclued}
use Rattle.rules.specs.Check.{transforms_of}
use Rattle.groups.specs.Grouping.{count_in}
use Rattle.adjacent.specs.Homes.{UnitIn}
use Rattle.adjacent.specs.HomeLaws.{unit-part, unit-placed}
use Rattle.transforms.specs.Transforms.{kth_answer, kth_memory}
use Rattle.transforms.specs.AnswerLaws.{past-answer, past_memory, no-unit, unit-transforms, unit-part-in}
use Rattle.transforms.proofs.put_transform.Goals.{Else-count_of-u}
use Rattle.transforms.proofs.put_transform.Goals as goal

pub returns-then-count_of-u : goal.returns-then-count_of-u
returns-then-count_of-u c =
    let cs = c.args.colours.now in
    let bs = c.args.borders.now in
    let ts = transforms_of (unclued c.args.h c.args.w cs) (states_in bs) c.args.u in
    let e : length ts ≡ 0 =
    ap length (no-unit c.requires.0 cs bs c.groups_of-units.ensures c.args.u
    (omega (arith, c.count_of.ensures, c.if-count_of-u.true))) in (
      c.none.ensures ∙ past-answer ts c.args.k (omega arith) (sym e),
      past_memory ts c.args.k (omega arith) c.args.memory.now,
    )

-- the unit has a number
low : (c : Else-count_of-u) → c.args.u < count_in c.groups_of-units.result
low c = omega (arith, c.count_of.ensures, c.if-count_of-u.false)

-- its part of the list of cells
part-is : (c : Else-count_of-u) → UnitIn c.args.h c.args.w c.groups_of-units.result c.args.u
part-is c =
    unit-part-in c.requires.0 c.args.colours.now c.args.borders.now c.groups_of-units.ensures c.args.u
    (low c)

pub places-requires : goal.places-requires
places-requires c = (unit-part c.requires.0 (part-is (goal.at.places-requires c).Else-count_of-u), search rules)

pub joints-requires : goal.joints-requires
joints-requires c =
    let p = c.places.ensures in
    unit-placed c.requires.0 (part-is (goal.at.joints-requires c).Else-count_of-u) p.0 p.1

pub returns : goal.returns
returns c =
    let t = sym (unit-transforms c.requires.0 c.args.colours.now c.args.borders.now c.groups_of-units.ensures
    c.args.u (low (goal.at.returns c).Else-count_of-u)) in
    let r = c.put_listed.ensures in (
      r.0 ∙ ap (λ ts. kth_answer ts c.args.k) t,
      r.1 ∙ ap (λ ts. kth_memory ts c.args.k c.args.memory.now) t,
    )
