-- `dbchoco_check` meets its contract: the refusals, and what Check gives of the image's board.
-- once nothing is refused
use mathlib.Core.Path.{◌≡◌, refl, sym, ◌∙◌}
use mathlib.Core.Bool.{false}
use mathlib.Core.List.{List}
use Prim.Native.Nat.{ℕ}
use native.Mathlib.Omega.{arith}
use lib.ListN.{length-replicate}
use Rattle.board.specs.declared.Board.{Board}
use Rattle.board.specs.Alien.{is_alien}
use Rattle.calls.specs.Answers.{answer_number, as_answer}
use Rattle.calls.specs.Known.{KnownBoard, found_in}
use Rattle.image.specs.Image.{is_short, bytes_after, check_number, check_bytes}
use Rattle.image.specs.CheckLaws.{other-number, other-bytes, alien-checked, short-checked, found-checked}
use Rattle.image.proofs.dbchoco_check.Goals.{Else-short}
use Rattle.image.proofs.dbchoco_check.Goals as goal

abbrev Left : Type 0
Left = Else-short

abbrev board : Left → Board
board e = e.board-b.result

abbrev memory : Left → List ℕ
memory e =
    e.args.memory.now

abbrev image : Left → List ℕ
image e =
    e.args.image.now

known : (e : Left) → is_alien (board e) ≡ false
known e = sym e.alien.ensures ∙ e.if-alien.false

board-known : (e : Left) → let b = board e in
    KnownBoard b.height b.width b.colours b.clues b.borders b.tally.undecided
board-known e =
    let b = board e in
    record { stack = b.stack; count = b.count; tally = b.tally; native = known e; stored = refl }

room : (e : Left) → is_short (memory e) ≡ false
room e = sym e.short.ensures ∙ e.if-short.false

-- what Check gives of the board is the answer of the check
told : (e : Left) → let b = board e in
    let f = found_in b.height b.width b.colours b.clues b.borders in
    (answer_number (as_answer f) ≡ check_number (image e) (memory e))
    × (bytes_after (memory e) f ≡ check_bytes (image e) (memory e))
told e =
    found-checked _ _ e.if-image-ne-LENGTH.false _ e.board-b.ensures (known e) (room e)

pub returns-then-image-ne-LENGTH : goal.returns-then-image-ne-LENGTH
returns-then-image-ne-LENGTH c =
    record {
      number = c.number.ensures ∙ other-number _ _ c.if-image-ne-LENGTH.true;
      bytes = other-bytes _ _ c.if-image-ne-LENGTH.true;
    }

pub returns-then-alien : goal.returns-then-alien
returns-then-alien c =
    let told =
    alien-checked _ c.args.memory.now c.if-image-ne-LENGTH.false _ c.board-b.ensures
    (sym c.alien.ensures ∙ c.if-alien.true) in
    record { number = c.number-then-alien.ensures ∙ told.0; bytes = told.1 }

pub returns-then-short : goal.returns-then-short
returns-then-short c =
    let t = sym c.alien.ensures ∙ c.if-alien.false in
    let told =
    short-checked _ c.args.memory.now c.if-image-ne-LENGTH.false _ c.board-b.ensures t
    (sym c.short.ensures ∙ c.if-short.true) in
    record { number = c.number-then-short.ensures ∙ told.0; bytes = told.1 }

pub answered-requires : goal.answered-requires
answered-requires c =
    let left = (goal.at.answered-requires c).Else-short in
    (board-known left, omega (arith, length-replicate {A = ℕ} 1984 0), room left)

pub returns : goal.returns
returns c =
    let f = told (goal.at.returns c).Else-short in
    let r = c.answered.ensures in
    record { number = r.number ∙ f.0; bytes = r.bytes ∙ f.1 }
