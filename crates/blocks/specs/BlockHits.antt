-- Step 1 for a caller: with the arrays of crate groups, what is found meets what is asked for writing it, and what is
-- written is the step's hit.
--
--   faulty_in                what `first_faulty` finds
use Rattle.std.specs.Prelude.{◌≡◌, List, ℕ, ◌<◌, ℤ, Option, None, Some}
use Rattle.std.proofs.Common.{sym, ap, ◌∙◌, subst, arith}
use Rattle.std.proofs.Math.Option.{some, none}
use Rattle.lists.specs.Lists.{first_hit, range}
use Rattle.rules.specs.Flat.{Sized}
use Rattle.rules.specs.Codes.{states_in, colours_in, clues_in, puzzle_in}
use Rattle.rules.specs.Groups.{entry, block_count}
use Rattle.rules.specs.Check.{inside_block, edge_of, block_hit}
use Rattle.groups.specs.declared.Grouping.{Grouping}
use Rattle.groups.specs.declared.Kind.TheVariants.{Blocks, Potential}
use Rattle.groups.specs.Grouping.{Filled}
use Rattle.groups.specs.Kinds.{joins_in}
use Rattle.groups.specs.Pages.{groups_in}
use Rattle.groups.specs.PageLaws.{id-under}
use Rattle.reasons.specs.Arrays.{GroupAt}
use Rattle.reasons.specs.GroupReasons.{group_at, inside_is, edge-is}
use Rattle.blocks.specs.declared.Faulty.{Faulty}
use Rattle.blocks.specs.Faults.{fault_reason}
use Rattle.blocks.specs.Faulty.{first_faulty, faulty_reason, faulty-hits}
use Rattle.blocks.specs.Written.{fault_literals, fault_unit, faulty_literals}
use Rattle.blocks.specs.Bridges.{fault_in, faulty-is}
use Rattle.blocks.specs.Bounds.{Under, fault-under, first-wrong}

module _ {h w : ℕ} (z : Sized h w) (cs : List ℕ) (ks : List ℤ) (bs : List ℕ) where
  abbrev pub faulty_in : Option Faulty
  faulty_in = first_faulty (fault_in z cs ks bs) (groups_in Blocks h w cs bs).count

  -- what is found is a block, and names a potential unit
  module _ (r : Faulty) (e : faulty_in ≡ Some r) where
    pub block_at_lem : {blocks : Grouping} → Filled (groups_in Blocks h w cs bs) blocks → GroupAt h w blocks r.block
    block_at_lem f =
        group_at z (joins_in Blocks h w cs bs) f r.block
        (first-wrong (fault_in z cs ks bs) (groups_in Blocks h w cs bs).count r e).block

    pub fault-unit-at : {potential : Grouping} → Filled (groups_in Potential h w cs bs) potential
        → GroupAt h w potential (fault_unit r.fault)
    unfolding entry
    fault-unit-at f =
        let link = joins_in Potential h w cs bs in
        let some : 0 < (groups_in Potential h w cs bs).count = omega (arith, id-under z link 0) in
        group_at z link f (fault_unit r.fault)
        (subst (Under (groups_in Potential h w cs bs).count some)
        (first-wrong (fault_in z cs ks bs) (groups_in Blocks h w cs bs).count r e).fault
        (fault-under (groups_in Potential h w cs bs).count some (colours_in cs) (clues_in ks)
        (entry (groups_in Potential h w cs bs).ids) (id-under z link) _ _))

  step-one : first_hit (block_hit (puzzle_in h w cs ks) (states_in bs))
      (range (block_count (puzzle_in h w cs ks) (states_in bs)))
      ≡ faulty_reason (puzzle_in h w cs ks) (states_in bs) faulty_in
  step-one =
      faulty-hits (puzzle_in h w cs ks) (states_in bs)
      ∙ ap (faulty_reason (puzzle_in h w cs ks) (states_in bs)) (sym (faulty-is z cs ks bs))

  reason-is : (f : Faulty)
      → faulty_literals h w cs bs (groups_in Blocks h w cs bs).ids (groups_in Potential h w cs bs).ids f
      ≡ fault_literals (inside_block (puzzle_in h w cs ks) (states_in bs) f.block)
      (edge_of (puzzle_in h w cs ks) (states_in bs)) f.fault
  unfolding faulty_literals
  reason-is f = rw (inside_is z cs ks bs f.block, edge-is z cs ks bs)

  pub one_hit : (r : Faulty) → faulty_in ≡ Some r
      → first_hit (block_hit (puzzle_in h w cs ks) (states_in bs))
      (range (block_count (puzzle_in h w cs ks) (states_in bs)))
      ≡ some (faulty_literals h w cs bs (groups_in Blocks h w cs bs).ids (groups_in Potential h w cs bs).ids r)
  unfolding faulty_reason fault_reason
  one_hit r e =
      step-one ∙ ap (faulty_reason (puzzle_in h w cs ks) (states_in bs)) e ∙ ap some (sym (reason-is r))

  pub one_none : faulty_in ≡ None
      → first_hit (block_hit (puzzle_in h w cs ks) (states_in bs))
      (range (block_count (puzzle_in h w cs ks) (states_in bs)))
      ≡ none
  unfolding faulty_reason
  one_none e = step-one ∙ ap (faulty_reason (puzzle_in h w cs ks) (states_in bs)) e
