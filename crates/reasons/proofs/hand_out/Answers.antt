-- The words are written one behind another.
use Rattle.std.proofs.Common.{◌≡◌, ◌+◌, arith, refl}
use Rattle.std.proofs.lemmas.List.{take_all}
use Rattle.lists.specs.Stores.{sets_more}
use Rattle.reasons.proofs.hand_out.Goals as goal

pub loop-i-init : goal.loop-i-init
loop-i-init c = refl

pub loop-i-preserved : goal.loop-i-preserved
loop-i-preserved c =
    let r = c.loop-i in
    let a = c.args in
    let e : 0 + r.i ≡ r.i = omega arith in
    rw r.invariant (rw e at (sets_more a.memory.now 0 a.words.now r.i 0 (omega arith)))

pub returns : goal.returns
returns c =
    let a = c.args in
    let r = c.loop-i in
    record { memory = rw (take_all r.i a.words.now (omega arith)) at r.invariant; count = refl }
