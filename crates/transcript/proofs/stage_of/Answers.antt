-- `stage_of` meets its contract, answer by answer.
use mathlib.Core.Path.{sym, ap}
use mathlib.Core.Logic.{inl, inr}
use Rattle.transcript.specs.Left.{stage_of}
use Rattle.transcript.proofs.stage_of.Goals as goal

pub returns-in-Conflict : goal.returns-in-Conflict
unfolding stage_of
returns-in-Conflict c = sym (ap stage_of c.in-Conflict.is)

pub returns-in-Done : goal.returns-in-Done
unfolding stage_of
returns-in-Done c =
    elim c.in-Done.is [
      | inl e ↦ sym (ap stage_of e)
      | inr f ↦ elim f [ inl p ↦ sym (ap stage_of p.1) | inr p ↦ sym (ap stage_of p.1) ]
    ]
