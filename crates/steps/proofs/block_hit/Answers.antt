-- `block_hit` meets its contract: what first_faulty finds is the first faulty block, and its reason is written.
use mathlib.Core.Path.{◌≡◌}
use Rattle.groups.specs.declared.Kind.TheVariants.{Blocks, Potential}
use Rattle.groups.specs.Kinds.{joins_in}
use Rattle.reasons.proofs.MemoryLaws.{spare-front}
use Rattle.blocks.specs.Bridges.{lists_of, parted-of}
use Rattle.blocks.specs.BlockHits.{faulty_in}
use Rattle.steps.specs.HitLaws.{answers-none, answers-plain, blocks-held, blocks-plain}
use Rattle.steps.specs.HitLaws.{blocks-clear, blocks-fault, fault-block, fault-unit}
use Rattle.steps.proofs.block_hit.Goals.{After-first_faulty}
use Rattle.steps.proofs.block_hit.Goals as goal

found : (c : After-first_faulty) → c.first_faulty.result
    ≡ faulty_in c.requires.0 c.args.colours.now c.args.clues.now c.args.borders.now
found c =
    let p = c.requires in
    rw (p.2.cells, p.2.starts, p.2.count, p.3.numbers, p.3.starts) at c.first_faulty.ensures

pub first_faulty-requires : goal.first_faulty-requires
first_faulty-requires c =
    let p = c.requires in
    rw (p.2.cells, p.2.starts, p.2.count, p.3.numbers, p.3.starts)
    (lists_of p.0 (joins_in Blocks _ _ _ _), parted-of p.0 (joins_in Potential _ _ _ _))

pub returns-in_err-faulty : goal.returns-in_err-faulty
returns-in_err-faulty c =
    let p = c.requires in
    rw c.from_residual.ensures
    (answers-none _
    (blocks-clear p.0 _ _ _ _ (found (goal.at.returns-in_err-faulty c).After-first_faulty) c.in_err-faulty.was))

pub write_fault-requires : goal.write_fault-requires
write_fault-requires c =
    let p = c.requires in
    let f = found (goal.at.write_fault-requires c).After-first_faulty in (
      p.0,
      p.1.borders,
      p.1.colours,
      fault-block p.0 _ _ _ _ f _ c.in_ok-faulty.was p.2,
      fault-unit p.0 _ _ _ _ f _ c.in_ok-faulty.was p.3,
      spare-front c.args.memory.now p.1.memory,
    )

pub returns : goal.returns
returns c =
    let p = c.requires in
    answers-plain _ p.1.borders p.1.memory (blocks-held p.0 _ _ _) (blocks-plain p.0 _ _ _)
    (blocks-fault p.0 _ _ _ _ (found (goal.at.returns c).After-first_faulty) _ c.in_ok-faulty.was)
    (rw (p.2.numbers, p.3.numbers) at c.write_fault.ensures)
