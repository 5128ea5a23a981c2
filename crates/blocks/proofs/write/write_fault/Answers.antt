-- Each arm by its case law: one list, or one after the other.
use mathlib.Core.Path.{◌≡◌}
use mathlib.Core.List.{List, ◌++◌}
use Prim.Native.Nat.{ℕ}
use Rattle.rules.specs.declared.Literal.{Literal}
use Rattle.groups.specs.Grouping.{numbers_in}
use Rattle.reasons.specs.Arrays.{inside_in, edge_in}
use Rattle.reasons.proofs.MemoryLaws.{naming-more}
use Rattle.blocks.specs.declared.Fault.TheVariants.{InsideEdge, Inside, Edge, EdgeInside}
use Rattle.blocks.specs.Written.{fault_literals, faulty_literals}
use Rattle.blocks.proofs.write.write_fault.Goals.{Start}
use Rattle.blocks.proofs.write.write_fault.Goals as goal

abbrev whole : Start → List Literal
whole s =
    let a = s.args in
    faulty_literals a.h a.w a.colours.now a.borders.now (numbers_in a.blocks.now)
    (numbers_in a.potential.now) a.faulty

abbrev within : Start → List Literal
within s = let a = s.args in inside_in a.h a.w a.borders.now (numbers_in a.blocks.now) a.faulty.block

abbrev around : Start → ℕ → List Literal
around s = let a = s.args in edge_in a.h a.w a.colours.now a.borders.now (numbers_in a.potential.now)

inside-edge : (s : Start) {p : ℕ} → s.args.faulty.fault ≡ InsideEdge p → whole s ≡ within s ++ around s p
unfolding faulty_literals fault_literals
inside-edge s e = rw e

inside : (s : Start) → s.args.faulty.fault ≡ Inside → whole s ≡ within s
unfolding faulty_literals fault_literals
inside s e = rw e

edge : (s : Start) {p : ℕ} → s.args.faulty.fault ≡ Edge p → whole s ≡ around s p
unfolding faulty_literals fault_literals
edge s e = rw e

edge-inside : (s : Start) {p : ℕ} → s.args.faulty.fault ≡ EdgeInside p → whole s ≡ around s p ++ within s
unfolding faulty_literals fault_literals
edge-inside s e = rw e

pub returns-in-InsideEdge : goal.returns-in-InsideEdge
returns-in-InsideEdge c =
    rw (inside-edge (goal.at.returns-in-InsideEdge c).Start c.in-InsideEdge.is)
    (naming-more c.inside-at.ensures
    c.edge_of.ensures)

pub returns-in-Inside : goal.returns-in-Inside
returns-in-Inside c = rw (inside (goal.at.returns-in-Inside c).Start c.in-Inside.is) c.inside.ensures

pub returns-in-Edge : goal.returns-in-Edge
returns-in-Edge c = rw (edge (goal.at.returns-in-Edge c).Start c.in-Edge.is) c.edge_of-in-Edge.ensures

pub returns-in-EdgeInside : goal.returns-in-EdgeInside
returns-in-EdgeInside c =
    rw (edge-inside (goal.at.returns-in-EdgeInside c).Start c.in-EdgeInside.is)
    (naming-more c.edge_of-at.ensures
    c.inside-in-EdgeInside.ensures)
