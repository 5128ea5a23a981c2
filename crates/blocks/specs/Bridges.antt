-- Bridges: the arrays of crate groups are what step 1's functions ask for, and hold what the rules mean.
--
--   fault_in B    the fault of block B, by these arrays
use Rattle.std.specs.Prelude.{◌≡◌, Bool, ℤ, get_or, Option}
use Rattle.std.proofs.Math.Path.{ap, fun_ext}
use Rattle.std.proofs.Common.{◌∙◌}
use mathlib.Core.List.{List}
use Prim.Native.Nat.{ℕ, ◌+◌, ◌<◌}
use Rattle.std.proofs.Math.Decide.{dec_lt}
use native.Mathlib.Omega.{arith}
use Rattle.std.proofs.Math.ListN.{length}
use Rattle.rules.specs.Page.{Puzzle, State}
use Rattle.rules.specs.Flat.{Sized, flat}
use Rattle.rules.specs.Codes.{states_in, colours_in, clues_in, puzzle_in}
use Rattle.rules.specs.Groups.{entry, numbers, group_count, members, block_count, potential_of}
use Rattle.rules.specs.Check.{size_of}
use Rattle.laws.specs.GroupLaws.{members-none}
use Rattle.groups.specs.declared.Kind.{Kind}
use Rattle.groups.specs.declared.Kind.TheVariants.{Blocks, Potential}
use Rattle.groups.specs.Parts.{Groups, groups_of, part_of}
use Rattle.groups.specs.Kinds.{joins_in}
use Rattle.groups.specs.NumberLaws.{starts-past}
use Rattle.groups.specs.PartLaws.{groups-le, cells-long, cells-lt}
use Rattle.groups.specs.Pages.{groups_in, kind_number}
use Rattle.groups.specs.PageLaws.{cells-some, cells-few, id-under, count_same, count-some, starts-step, starts-few}
use Rattle.groups.specs.PageLaws.{kind-number, kind-ids, kind-count, kind-cells}
use Rattle.blocks.specs.Arrays.{GroupLists, Parted, size_in}
use Rattle.blocks.specs.declared.Fault.{Fault}
use Rattle.blocks.specs.Faults.{fault_on, block_fault}
use Rattle.blocks.specs.Faulty.{first_faulty}

-- what the functions ask for, for any borders that link
module _ {h w : ℕ} (z : Sized h w) (link : ℕ → Bool) where
  abbrev groups : Groups
  groups = groups_of (flat h w) link

  abbrev number : ℕ → ℕ
  number = entry (numbers (flat h w) link)

  pub lists_of : GroupLists groups.cells groups.offs groups.count
  lists_of =
      record {
        few = omega (arith, groups-le (flat h w) link (cells-some z) (cells-few z), cells-few z);
        parts =
            λ g l.
            record {
              order = omega (arith, starts-step z link g l);
              within = omega (arith, starts-few z link (g + 1) (omega arith), cells-few z);
              long = cells-long (flat h w) link (cells-some z) (cells-few z);
              cells =
                  λ i a b.
                  omega (
                    arith,
                    cells-lt (flat h w) link (cells-some z) (cells-few z) i
                        (omega (arith, starts-few z link (g + 1) (omega arith))),
                    cells-few z,
                  );
            };
      }

  pub parted-of : Parted groups.ids groups.offs
  parted-of =
      record {
        few = λ c. omega (
          arith,
          id-under z link c,
          groups-le (flat h w) link (cells-some z) (cells-few z),
          cells-few
              z,
        );
        rises = λ c. omega (arith, starts-step z link (get_or groups.ids c 0) (id-under z link c));
        first = omega (arith, starts-step z link 0 (count-some z link));
      }

  -- how many cells, of every number
  past : (k : ℕ) → groups.count < k → get_or groups.offs k 0 ≡ 0
  unfolding groups_of
  past k l = starts-past (flat h w).cells number (group_count (flat h w) link) k l

  sizes-of : size_in groups.offs ≡ (λ g. length (members (flat h w) number g))
  unfolding size_in
  sizes-of = fun_ext (λ g. elim (dec_lt g groups.count) [
    | yes l ↦ omega (arith, starts-step z link g l)
    | no l ↦
        omega (
          arith,
          past (g + 1) (omega arith),
          ap length (members-none (flat h w) link g (omega (arith, count_same z link))),
        )
  ])

-- what they mean
module _ {h w : ℕ} (z : Sized h w) (cs : List ℕ) (ks : List ℤ) (bs : List ℕ) where
  abbrev Z : Puzzle
  Z = puzzle_in h w cs ks

  abbrev s : ℕ → State
  s = states_in bs

  pub sizes-are : (kind : Kind)
      → size_in (groups_in kind h w cs bs).offs ≡ (λ g. length (members (flat h w) (kind_number kind Z s) g))
  sizes-are kind =
      sizes-of z (joins_in kind h w cs bs)
      ∙ ap (λ (f : ℕ → ℕ). λ (g : ℕ). length (members (flat h w) f g)) (kind-number z cs (clues_in ks) bs kind)

  -- step 1: what `first_faulty` finds with these arrays is the first faulty block
  abbrev pub fault_in : ℕ → Option Fault
  fault_in B =
      fault_on (colours_in cs) (clues_in ks) (entry (groups_in Potential h w cs bs).ids)
      (size_in (groups_in Potential h w cs bs).offs)
      (part_of (groups_in Blocks h w cs bs).cells (groups_in Blocks h w cs bs).offs B)

  fault-is : fault_in ≡ block_fault Z s
  unfolding block_fault size_of
  fault-is =
      ap (λ (f : ℕ → ℕ). λ (B : ℕ). fault_on (colours_in cs) (clues_in ks) f
      (size_in (groups_in Potential h w cs bs).offs)
      (part_of (groups_in Blocks h w cs bs).cells (groups_in Blocks h w cs bs).offs B))
      (kind-ids z cs (clues_in ks) bs Potential)
      ∙ ap (λ (f : ℕ → ℕ). λ (B : ℕ). fault_on (colours_in cs) (clues_in ks) (potential_of Z s) f
      (part_of (groups_in Blocks h w cs bs).cells (groups_in Blocks h w cs bs).offs B))
      (sizes-are Potential)
      ∙ ap (λ (f : ℕ → List ℕ). λ (B : ℕ). fault_on (colours_in cs) (clues_in ks) (potential_of Z s)
      (size_of Z s) (f B))
      (kind-cells z cs (clues_in ks) bs Blocks)

  pub faulty-is : first_faulty fault_in (groups_in Blocks h w cs bs).count
      ≡ first_faulty (block_fault Z s) (block_count Z s)
  faulty-is = rw (fault-is, kind-count z cs (clues_in ks) bs Blocks)
