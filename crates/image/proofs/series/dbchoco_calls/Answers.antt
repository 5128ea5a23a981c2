-- `dbchoco_calls` meets its contract: i calls are done, and the image is not alien.
use mathlib.Core.Path.{◌≡◌, ◌∙◌, sym}
use mathlib.Core.Bool.{false}
use mathlib.Core.List.{List}
use Prim.Native.Nat.{ℕ}
use native.Mathlib.Omega.{arith}
use Rattle.image.specs.Image.{Bytes, image_alien}
use Rattle.image.specs.SeriesLaws.{long, alien-none}
use Rattle.image.specs.SeriesLaws.{running-next, running-stop, running-end}
use Rattle.image.proofs.series.dbchoco_calls.Goals.{Else-alien}
use Rattle.image.proofs.series.dbchoco_calls.Goals as goal

-- the image that is given, once it is not alien
abbrev image : Else-alien → List ℕ
image c = c.args.image.now

known : (c : Else-alien) → image_alien (image c) ≡ false
known c = sym c.alien.ensures ∙ c.if-alien.false

bytes : (c : Else-alien) → Bytes (image c)
bytes c = λ i. omega (arith, c.slice_known-1.given i)

pub returns-then-alien : goal.returns-then-alien
returns-then-alien c =
    let codes = c.args.codes.now in
    let told = alien-none _ codes (sym c.alien.ensures ∙ c.if-alien.true) in
    record { number = told.0; bytes = told.1 }

pub step-requires : goal.step-requires
step-requires c =
    let R = c.loop-i.invariant in
    (long _ R.bytes R.known, R.known)

pub loop-i-preserved : goal.loop-i-preserved
loop-i-preserved c =
    running-next c.loop-i.invariant c.loop-i-test.true c.step.result
    (λ i. omega (arith, c.slice_known-in-loop-i-1.given i)) c.step.ensures
    (sym c.is_err.ensures.value ∙ c.if-is_err.false)

pub returns-then-is_err : goal.returns-then-is_err
returns-then-is_err c =
    let told =
    running-stop c.loop-i.invariant c.loop-i-test.true c.step.result c.step.ensures
    (sym c.is_err.ensures.value ∙ c.if-is_err.true) in
    record { number = told.0; bytes = told.1 }

pub returns : goal.returns
returns c =
    let told =
    running-end c.loop-i.invariant (omega (arith, c.loop-i-test.false)) in
    record { number = omega (arith, told.0); bytes = told.1 }
