-- `find` meets its contract: the hit of steps 1 and 2, and where there is none that of step 3.
use borrow.Author.Rules.{rules}
use Rattle.groups.specs.ForestLaws.{forest-zeros}
use Rattle.groups.specs.GroupingLaws.{vacant-zeros}
use Rattle.steps.specs.HitLaws.{answers-first, answers_next, vacant-of}
use Rattle.steps.specs.LateLaws.{answers-hit}
use Rattle.steps.proofs.find.Goals as goal

pub fill-requires : goal.fill-requires
fill-requires c = (c.requires.0.sized, rw c.empty-blocks.ensures (vacant-zeros _), forest-zeros)

pub fill-requires-2 : goal.fill-requires-2
fill-requires-2 c = (
  c.requires.0.sized,
  rw c.empty-potential.ensures (vacant-zeros _),
  c.fill.ensures.1,
)

pub returns-in-Some : goal.returns-in-Some
returns-in-Some c = answers-hit _ _ (answers-first _ _ _ c.in-Some.ensures)

pub late_hit-requires : goal.late_hit-requires
late_hit-requires c =
    let p = c.requires in (
      p.0,
      search rules,
      c.fill-2.ensures.0,
      vacant-of p.0.sized _ c.fill.ensures.0,
      c.fill-2.ensures.1,
    )

pub returns : goal.returns
returns c =
    answers-hit _ _
    (answers_next _ _ (rw c.in_default.is at c.early_hit.ensures)
    (c.late_hit.ensures _))
