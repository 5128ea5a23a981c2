-- `early_hit` meets its contract: step 1's hit, and where there is none step 2's.
use mathlib.Core.Path.{sym}
use mathlib.Core.List.{List}
use Prim.Native.Nat.{ℕ, ◌≤◌}
use lib.ListN.{length}
use lib.Seq.{length-take-le}
use Rattle.rules.specs.Codes.{states_in, puzzle_in}
use Rattle.groups.specs.Grouping.{numbers_in}
use Rattle.reasons.proofs.MemoryLaws.{spare-front}
use Rattle.walls.specs.Bounds.{breach-small}
use Rattle.std.specs.Prelude.{None}
use Rattle.steps.specs.Found.{blocks_hit, early_hit, Answers}
use Rattle.steps.specs.HitLaws.{answers-first, answers_next, answers-none, answers-plain}
use Rattle.steps.specs.HitLaws.{answers-kept, walls-held, walls-plain, walls-clear, walls-breach, arrays-of}
use Rattle.steps.proofs.early_hit.Goals.{In_default}
use Rattle.steps.proofs.early_hit.Goals as goal

-- the memory that step 1 leaves
abbrev left : In_default → List ℕ
left c = c.block_hit.new.memory

-- step 1 found nothing
nothing : (c : In_default) → Answers (blocks_hit (puzzle_in c.args.h c.args.w c.args.colours.now c.args.clues.now)
    (states_in c.args.borders.now))
    c.args.memory.now (left c) None
nothing c = rw c.in_default.is at c.block_hit.ensures

-- so that the memory is as long as it was
room : (c : In_default) → 1984 ≤ length (left c)
room c = rw (answers-kept _ (nothing c)) c.requires.1.memory

pub returns-in-Some : goal.returns-in-Some
unfolding early_hit
returns-in-Some c = answers-first _ _ _ c.in-Some.ensures

pub first_breach-requires : goal.first_breach-requires
first_breach-requires c =
    let p = c.requires in
    (p.0, arrays-of p.0 _ p.2 p.1.borders)

pub returns-in_err-breach : goal.returns-in_err-breach
unfolding early_hit
returns-in_err-breach c =
    let p = c.requires in
    answers_next _ _ (nothing (goal.at.returns-in_err-breach c).In_default)
    (rw c.from_residual.ensures
    (answers-none _ (walls-clear p.0 _ _ _ (rw p.2.numbers at c.in_err-breach.ensures))))

pub slice_bounds-write_breach-end-2 : goal.slice_bounds-write_breach-end-2
slice_bounds-write_breach-end-2 c =
    sym (length-take-le 1984 (left (goal.at.slice_bounds-write_breach-end-2 c).In_default)
    (room (goal.at.slice_bounds-write_breach-end-2 c).In_default))

pub write_breach-requires : goal.write_breach-requires
write_breach-requires c =
    let p = c.requires in
    let small = breach-small p.0 c.args.borders.now (numbers_in c.args.blocks.now) in (
      p.0,
      p.1.borders,
      rw (← c.in_ok-breach.ensures) at small,
      spare-front (left (goal.at.write_breach-requires c).In_default)
          (room (goal.at.write_breach-requires c).In_default),
    )

pub returns : goal.returns
unfolding early_hit
returns c =
    let p = c.requires in
    answers_next _ _ (nothing (goal.at.returns c).In_default)
    (answers-plain _ p.1.borders (room (goal.at.returns c).In_default) (walls-held p.0 _ _ _) (walls-plain p.0 _ _ _)
    (walls-breach p.0 _ _ _ (rw p.2.numbers at c.in_ok-breach.ensures)) c.write_breach.ensures)
