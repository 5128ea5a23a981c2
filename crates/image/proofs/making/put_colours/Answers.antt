-- `put_colours` meets its contract: each colour is stored behind those before it.
use Rattle.std.proofs.Common.{◌+◌, arith, refl}
use Rattle.lists.specs.Stores.{sets_more}
use Rattle.image.proofs.making.put_colours.Goals as goal

pub loop-i-init : goal.loop-i-init
loop-i-init c = refl

pub loop-i-preserved : goal.loop-i-preserved
loop-i-preserved c =
    let r = c.loop-i in
    let a = c.args in
    rw r.invariant (sets_more a.s.now 2 a.colours.now r.i 0 (omega arith))
