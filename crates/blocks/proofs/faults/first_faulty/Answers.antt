-- `first_faulty` meets its contract: the blocks passed are clear, so that what is left of the search is the whole.
use Rattle.std.proofs.Common.{◌≡◌, ◌<◌, sym, ◌∙◌, arith, ◌-◌}
use Rattle.groups.specs.Grouping.{count_in}
use Rattle.groups.specs.Parts.{part_of}
use Rattle.blocks.specs.Arrays.{cells-listed}
use Rattle.blocks.specs.Faulty.{first_faulty, faulty-next, faulty-found, faulty-end}
use Rattle.blocks.proofs.faults.first_faulty.Goals as goal

pub loop-block-init : goal.loop-block-init
unfolding first_faulty
loop-block-init c =
    let n = count_in c.args.blocks.now in
    let e : n - 0 ≡ n = omega arith in
    rw e

pub block_fault-requires : goal.block_fault-requires
unfolding part_of
block_fault-requires c =
    let l : c.loop-block.block < count_in c.args.blocks.now = omega arith in
    (rw c.cells_of.ensures (cells-listed (c.requires.0.parts c.loop-block.block l)), c.requires.1)

pub returns-in-Some : goal.returns-in-Some
unfolding part_of
returns-in-Some c =
    let l : c.loop-block.block < count_in c.args.blocks.now = omega arith in
    faulty-found _ _ c.loop-block.block c.in-Some.fault l
    (rw c.cells_of.ensures at (sym c.block_fault.ensures ∙ c.in-Some.is))
    ∙ sym c.loop-block.invariant

pub loop-block-preserved : goal.loop-block-preserved
unfolding part_of
loop-block-preserved c =
    let l : c.loop-block.block < count_in c.args.blocks.now = omega arith in
    c.loop-block.invariant
    ∙ faulty-next _ _ c.loop-block.block l (rw c.cells_of.ensures at (sym c.block_fault.ensures ∙ c.in_default.is))

pub returns : goal.returns
returns c = faulty-end _ _ c.loop-block.block (omega arith) ∙ sym c.loop-block.invariant
