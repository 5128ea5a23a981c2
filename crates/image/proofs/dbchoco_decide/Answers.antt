-- `dbchoco_decide` meets its contract: an alien image, and the decide on one that is not.
-- the image that is given, once it is tested
use mathlib.Core.Path.{◌≡◌, ◌∙◌, sym}
use mathlib.Core.Bool.{false}
use mathlib.Core.List.{List}
use Prim.Native.Nat.{ℕ}
use native.Mathlib.Omega.{arith}
use Rattle.image.specs.Image.{Bytes, image_alien}
use Rattle.image.specs.SeriesLaws.{long, alien-number}
use Rattle.image.proofs.AlienLaws.{alien-stays}
use Rattle.image.proofs.dbchoco_decide.Goals.{After-alien, Else-alien}
use Rattle.image.proofs.dbchoco_decide.Goals as goal

abbrev image : After-alien → List ℕ
image c = c.args.image.now

bytes : (c : After-alien) → Bytes (image c)
bytes c = λ i. omega (arith, c.slice_known-1.given i)

known : (c : Else-alien) → image_alien (image (goal.at.Else-alien c).After-alien) ≡ false
known c = sym c.alien.ensures ∙ c.if-alien.false

pub returns-then-alien : goal.returns-then-alien
returns-then-alien c =
    let e = sym c.alien.ensures ∙ c.if-alien.true in
    let tested = (goal.at.returns-then-alien c).After-alien in
    record {
      number = c.number.ensures ∙ sym (alien-number (image tested) e _);
      bytes = alien-stays (image tested) (bytes tested) e _;
    }

pub decided-requires : goal.decided-requires
decided-requires c = (
  long (image (goal.at.decided-requires c).After-alien) (bytes (goal.at.decided-requires c).After-alien)
      (known (goal.at.decided-requires c).Else-alien),
  known (goal.at.decided-requires c).Else-alien,
)
