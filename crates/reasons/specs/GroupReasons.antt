-- Reasons from the arrays of crate groups: a group is found in them, and Inside and Edge are those of the rules.
use Rattle.std.specs.Prelude.{◌≡◌, Bool, List, ℤ, get_or}
use Rattle.std.proofs.Common.{sym, ◌∙◌, arith}
use Rattle.std.proofs.Math.Path.{ap, fun_ext}
use Prim.Native.Nat.{ℕ, ◌+◌, ◌<◌}
use Rattle.rules.specs.Flat.{Sized, flat}
use Rattle.rules.specs.Codes.{clues_in, states_in, colours_in, puzzle_in}
use Rattle.rules.specs.Groups.{members}
use Rattle.rules.specs.Reasons.{inside, edge}
use Rattle.rules.specs.Check.{inside_block, edge_of}
use Rattle.laws.specs.FlatLaws.{counts}
use Rattle.groups.specs.declared.Kind.TheVariants.{Blocks, Potential}
use Rattle.groups.specs.Parts.{Groups, groups_of, part_of}
use Rattle.groups.specs.declared.Grouping.{Grouping}
use Rattle.groups.specs.Grouping.{Filled}
use Rattle.groups.specs.PartLaws.{ids-entry, ids-length, groups-le, cells-long, part-members, cells-lt}
use Rattle.groups.specs.Pages.{groups_in}
use Rattle.groups.specs.PageLaws.{cells-some, cells-few, starts-step, starts-few, kind-ids, rises, ends}
use Rattle.reasons.specs.Arrays.{GroupAt, inside_in, edge_in, Cells}

module _ {h w : ℕ} (z : Sized h w) (link : ℕ → Bool) where
  abbrev groups : Groups
  groups = groups_of (flat h w) link

  pub group_at : {grouping : Grouping} → Filled groups grouping → (g : ℕ) → g < groups.count → GroupAt h w grouping g
  unfolding part_of
  group_at f g l =
      record {
        few = omega (arith, groups-le (flat h w) link (cells-some z) (cells-few z), cells-few z);
        numbers = rw f.numbers (ids-length (flat h w) link (cells-some z) (cells-few z));
        is =
            rw (f.numbers, f.cells, f.starts)
            (record {
              long = cells-long (flat h w) link (cells-some z) (cells-few z);
              order = omega (arith, starts-step z link g l);
              end = omega (arith, starts-few z link (g + 1) (omega arith), cells-few z);
              group =
                  part-members (flat h w) link (cells-some z) (cells-few z) g
                  ∙ ap (λ (f : ℕ → ℕ). members (flat h w) f g)
                  (sym (ids-entry (flat h w) link (cells-some z) (cells-few z)));
            });
      }

  -- the cells of a group's part
  pub group-cells : (g : ℕ) → g < groups.count
      → Cells h w groups.cells (get_or groups.offs g 0) (get_or groups.offs (g + 1) 0)
  unfolding flat
  group-cells g l =
      record {
        long = cells-long (flat h w) link (cells-some z) (cells-few z);
        order = omega (arith, rises z link g l);
        end = omega (arith, ends z link g l, (counts z).cells);
        each = λ i b. cells-lt (flat h w) link (cells-some z) (cells-few z) (get_or groups.offs g 0 + i)
            (omega (arith, rises z link g l, ends z link g l));
      }

module _ {h w : ℕ} (z : Sized h w) (cs : List ℕ) (ks : List ℤ) (bs : List ℕ) where
  -- Inside of a block and Edge of a potential unit, from the arrays
  pub inside_is : (B : ℕ)
      → inside_in h w bs (groups_in Blocks h w cs bs).ids B ≡ inside_block (puzzle_in h w cs ks) (states_in bs) B
  unfolding inside_in inside_block
  inside_is B = ap (λ (f : ℕ → ℕ). inside (flat h w) (states_in bs) f B) (kind-ids z cs (clues_in ks) bs Blocks)

  pub edge-is : edge_in h w cs bs (groups_in Potential h w cs bs).ids ≡ edge_of (puzzle_in h w cs ks) (states_in bs)
  unfolding edge_in edge_of
  edge-is =
      fun_ext (λ P. ap (λ (f : ℕ → ℕ). edge (flat h w) (colours_in cs) (states_in bs) f P)
      (kind-ids z cs (clues_in ks) bs Potential))
