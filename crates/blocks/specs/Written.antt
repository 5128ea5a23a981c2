-- Written: the literals of a fault.
--
--   fault_literals i e f  the literals of a fault, where i are those of Inside(B) and e p those of Edge(P)
--   fault_unit f          the potential unit that a fault names, 0 if it names none
--   faulty_literals       the literals of a faulty block, over arrays of colours, borders, block and unit numbers
use Rattle.std.specs.Prelude.{List, ◌++◌, ℕ}
use Rattle.rules.specs.declared.Literal.{Literal}
use Rattle.reasons.specs.Arrays.{inside_in, edge_in}
use Rattle.blocks.specs.declared.Fault.{Fault}
use Rattle.blocks.specs.declared.Fault.TheVariants.{InsideEdge, Inside, Edge, EdgeInside}
use Rattle.blocks.specs.declared.Faulty.{Faulty}

unfoldable pub fault_literals : List Literal → (ℕ → List Literal) → Fault → List Literal
fault_literals i e (InsideEdge p) = i ++ e p
fault_literals i e Inside = i
fault_literals i e (Edge p) = e p
fault_literals i e (EdgeInside p) = e p ++ i

abbrev pub fault_unit : Fault → ℕ
fault_unit (InsideEdge p) = p
fault_unit Inside = 0
fault_unit (Edge p) = p
fault_unit (EdgeInside p) = p

unfoldable pub faulty_literals : ℕ → ℕ → List ℕ → List ℕ → List ℕ → List ℕ → Faulty → List Literal
faulty_literals h w cs bs blocks units f =
    fault_literals (inside_in h w bs blocks f.block) (edge_in h w cs bs units) f.fault
