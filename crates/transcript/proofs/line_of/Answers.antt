-- `line_of` meets its contract, answer by answer.
use mathlib.Core.Path.{sym, ap}
use mathlib.Core.List.{[]}
use native.Mathlib.Omega.{arith}
use Rattle.print.specs.Lines.{LineHolds, start, written_none, holds_as}
use Rattle.transcript.specs.Left.{line_of}
use Rattle.transcript.proofs.line_of.Goals as goal

pub returns-in-Done : goal.returns-in-Done
unfolding line_of
returns-in-Done c =
    let h : LineHolds start [] = record { written = written_none _ _; small = omega arith } in
    rw c.empty.ensures (holds_as h (sym (ap line_of c.in-Done.is)))

pub returns-in-Pass : goal.returns-in-Pass
unfolding line_of
returns-in-Pass c = holds_as c.pass_line.ensures (sym (ap line_of c.in-Pass.is))

pub returns-in-Conflict : goal.returns-in-Conflict
unfolding line_of
returns-in-Conflict c = holds_as c.conflict_start.ensures (sym (ap line_of c.in-Conflict.is))

pub returns-in-Refused : goal.returns-in-Refused
unfolding line_of
returns-in-Refused c = holds_as c.refusal.ensures (sym (ap line_of c.in-Refused.is))
