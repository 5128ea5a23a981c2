-- `first_faulty` meets its contract: the blocks passed are clear, so that what is left of the search is the whole.
use mathlib.Core.Path.{◌≡◌}
use mathlib.Core.List.{List}
use Prim.Native.Nat.{ℕ, ◌-◌}
use lib.IntN.{ℤ}
use Rattle.std.specs.Prelude.{Option}
use Rattle.rules.specs.Codes.{colours_in, clues_in}
use Rattle.rules.specs.Groups.{entry}
use Rattle.groups.specs.declared.Grouping.{Grouping}
use Rattle.groups.specs.Grouping.{numbers_in, cells_in, starts_in, count_in}
use Rattle.groups.specs.Parts.{part_of}
use Rattle.blocks.specs.declared.Fault.{Fault}
use Rattle.blocks.specs.Arrays.{size_in}
use Rattle.blocks.specs.Faults.{fault_on}
use Rattle.blocks.specs.Faulty.{faulty_from, first_faulty}
use Rattle.blocks.proofs.faults.first_faulty.Given as goal

abbrev pub faults_of : List ℕ → List ℤ → Grouping → Grouping → ℕ → Option Fault
faults_of cs ks potential blocks B =
    fault_on (colours_in cs) (clues_in ks) (entry (numbers_in potential)) (size_in (starts_in potential))
    (part_of (cells_in blocks) (starts_in blocks) B)

abbrev pub invariant-loop-block : goal.invariant-loop-block
invariant-loop-block l =
    first_faulty (faults_of l.colours l.clues l.potential l.blocks) (count_in l.blocks)
    ≡ faulty_from (faults_of l.colours l.clues l.potential l.blocks) (count_in l.blocks - l.block) l.block
