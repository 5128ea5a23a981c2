-- `next` meets its contract, stage by stage.
use mathlib.Core.Path.{refl}
use borrow.Author.Rules.{rules}
use Rattle.transcript.specs.Left.{left_at, steps_at, memory_at}
use Rattle.transcript.specs.declared.Stage.TheVariants.{Begin, Refused, Calls, Reason, Last}
use Rattle.transcript.proofs.LeftLaws.{next-goes, next-short, next-over}
use Rattle.transcript.proofs.next.Goals as goal

pub returns-then-out-lt32 : goal.returns-then-out-lt32
returns-then-out-lt32 c = next-short _ _ _ _ (search rules)

pub put-requires : goal.put-requires
put-requires c = (search rules, c.refused_line.ensures.small)

pub put-requires-in-Last : goal.put-requires-in-Last
put-requires-in-Last c = (search rules, c.end_line.ensures.small)

pub returns-in-Begin : goal.returns-in-Begin
unfolding left_at steps_at memory_at
returns-in-Begin c =
    next-goes _ _ _ _ Begin c.in-Begin.is
    (search rules) refl
    (c.begin.ensures _)

pub returns-in-Refused : goal.returns-in-Refused
unfolding left_at steps_at memory_at
returns-in-Refused c =
    next-goes _ _ _ _ (Refused _) c.in-Refused.is
    (search rules) refl
    (c.put.ensures _ _ _ c.refused_line.ensures)

pub returns-in-Calls : goal.returns-in-Calls
unfolding left_at steps_at memory_at
returns-in-Calls c =
    next-goes _ _ _ _ Calls c.in-Calls.is
    (search rules) c.turn.ensures.1
    c.turn.ensures.0

pub returns-in-Reason : goal.returns-in-Reason
unfolding left_at steps_at memory_at
returns-in-Reason c =
    next-goes _ _ _ _ (Reason _ _) c.in-Reason.is
    (search rules) refl
    (c.reason.ensures _)

pub returns-in-Last : goal.returns-in-Last
unfolding left_at steps_at memory_at
returns-in-Last c =
    next-goes _ _ _ _ Last c.in-Last.is
    (search rules) refl
    (c.put-in-Last.ensures _ _ _ c.end_line.ensures)

pub returns-in-Over : goal.returns-in-Over
returns-in-Over c = next-over _ _ _ _ c.in-Over.is (search rules)
