-- The calls on an image by cases: another length, refused, done; and the bytes that a done call rewrites.
use Rattle.std.specs.Prelude.{◌≡◌, refl, Bool, true, false, cond, List, ℕ, ◌+◌, ◌-◌, ◌<◌, ◌≤◌}
use Rattle.std.specs.Prelude.{eqb, ltb, length, get_or, Ok, Err}
use Rattle.std.proofs.Common.{ap, sym, ◌∙◌, arith}
use borrow.Author.Tests.{ne_eqb}
use Rattle.rules.specs.Codes.{code_of, side_in}
use Rattle.board.specs.declared.Board.{Board}
use Rattle.rules.specs.declared.Literal.{Literal}
use Rattle.rules.specs.declared.Tally.{Tally}
use Rattle.board.specs.declared.Refusal.TheVariants.{Alien, Border, Taken, Bare}
use Rattle.board.specs.declared.Returned.{Returned}
use Rattle.board.specs.Alien.{border_count_of, is_alien}
use Rattle.board.specs.Board.{number_of, returned, pushed, popped, decide_refusal, ended_by, decide_of, undo_refusal}
use Rattle.board.specs.Board.{undo_of}
use Rattle.board.specs.Board.{side_count, tally_more, tally_less, Typed}
use Rattle.board.specs.Cases.{done-is, decide-ends}
use Rattle.board.specs.NativeLaws.{native-has, borders-fit, tally-fits, free-places}
use Rattle.board.proofs.DecideLaws.{Decided, decided-is, done-returned, Undone, undone-is, side-counted}
use Rattle.image.specs.Image.{spelled_board, image_of, right_length, Bytes, side_of, decide_literal, ImageCall, decide}
use Rattle.image.specs.Image.{undo, image_alien, number_by, board_by, image_number, image_after, image_written}
use Rattle.image.specs.LayoutLaws.{written-image}
use Rattle.image.specs.RoundLaws.{image-board, board-typed, long-is}

-- ---- what a number says of the board
-- a refused call returns the board given
pub refused-board : (b : Board) (a : ImageCall) → (number_by b a ≡ 0 → ⊥) → board_by b a ≡ b
unfolding decide_of decide_refusal undo_of undo_refusal
refused-board b (decide n d) h =
    go (is_alien b) (ltb n (border_count_of b)) (eqb (get_or b.borders n 0) 0) h
  where
    l : Literal
    l = decide_literal n d

    of : Bool → Bool → Bool → Returned
    of x y z =
        cond x (returned (Err Alien) b)
        (ended_by b (pushed b n (code_of l.side)) (cond y (cond z (Ok tt) (Err Taken)) (Err Border)))

    go : (x y z : Bool) → (number_of (of x y z).outcome ≡ 0 → ⊥) → (of x y z).board ≡ b
    go true y z f = refl
    go false false z f = refl
    go false true false f = refl
    go false true true f = absurd (f refl)
refused-board b undo h = go (is_alien b) (eqb b.count 0) h
  where
    of : Bool → Bool → Returned
    of x y = cond x (returned (Err Alien) b) (ended_by b (popped b) (cond y (Err Bare) (Ok tt)))

    go : (x y : Bool) → (number_of (of x y).outcome ≡ 0 → ⊥) → (of x y).board ≡ b
    go true y f = refl
    go false true f = refl
    go false false f = absurd (f refl)

-- ---- an image of another length
module _ (s : List ℕ) (a : ImageCall) (h : length s ≡ 11082 → ⊥) where
  other : right_length s ≡ false
  unfolding right_length
  other = ne_eqb (length s) 11082 h

  pub length-after : s ≡ image_after s a
  unfolding image_after
  length-after = rw other

pub alien-length : (s : List ℕ) → (length s ≡ 11082 → ⊥) → true ≡ image_alien s
unfolding image_alien right_length
alien-length s h = rw (ne_eqb (length s) 11082 h)

pub alien-board : (s : List ℕ) → length s ≡ 11082 → is_alien (spelled_board s) ≡ image_alien s
unfolding image_alien
alien-board s e = rw (long-is s e)

-- ---- an image of the right length, whose board is b
module _ (s : List ℕ) (h : Bytes s) (e : length s ≡ 11082) (b : Board) (q : b ≡ spelled_board s) where
  pub call-number-is : (a : ImageCall) → number_by b a ≡ image_number s a
  unfolding image_number
  call-number-is a = rw (long-is s e, q)

  after_is : (a : ImageCall) → image_after s a ≡ image_of (board_by b a)
  unfolding image_after
  after_is a = rw (long-is s e, q)

  image-of : image_of b ≡ s
  image-of = ap image_of q ∙ image-board s h e

  typed : Typed b
  typed = rw q (board-typed s)

  pub after-refused : (a : ImageCall) → (image_number s a ≡ 0 → ⊥) → s ≡ image_after s a
  after-refused a f =
      sym (after_is a ∙ ap image_of (refused-board b a (λ z. f (sym (call-number-is a) ∙ z))) ∙ image-of)

  -- a decide that is done
  module _ (n d : ℕ) (z : image_number s (decide n d) ≡ 0) where
    decided : Decided b (decide_literal n d) (decide_of b (decide_literal n d)).board
    decided = decided-is (done-returned (decide_of b (decide_literal n d)) (call-number-is (decide n d) ∙ z))

    pub decide-fits : (n < 1984) × (b.count < 1984) × (0 < b.tally.undecided) × (b.tally.walls ≤ 1984)
        × (b.tally.opens ≤ 1984)
    decide-fits =
        free-places b (native-has b decided.known) n
        (done-is _ (ap number_of (decide-ends b (decide_literal n d) decided.known) ∙ call-number-is (decide n d) ∙ z))

    -- the image s with the border x decided to the code v
    abbrev with_decided : ℕ → ℕ → List ℕ
    with_decided x v = image_written s x v (b.count + 1) b.count x (tally_more b.tally (side_in v))

    pub decide-written : with_decided n (code_of (side_of d)) ≡ image_after s (decide n d)
    decide-written =
        let v = code_of (side_of d) in
        let u = tally_more b.tally (side_in v) in
        ap (λ (x : List ℕ). image_written x n v (b.count + 1) b.count n u) (sym image-of)
        ∙ written-image b typed n v (b.count + 1) b.count n u decide-fits.0 decide-fits.1
        ∙ ap image_of (sym decided.is)
        ∙ sym (after_is (decide n d))

    -- the same, from what the code has
    pub image-decide-after : (l : Literal) (v : ℕ) (u : Tally) (t : List ℕ) → l ≡ decide_literal n d
        → v ≡ code_of l.side → u ≡ tally_more b.tally (side_in v)
        → t ≡ image_written s l.border v (b.count + 1) b.count l.border u → t ≡ image_after s (decide n d)
    image-decide-after l v u t x y a w =
        w
        ∙ ap (λ (k : Tally). image_written s l.border v (b.count + 1) b.count l.border k) a
        ∙ ap (with_decided l.border) y
        ∙ ap (λ (j : Literal). with_decided j.border (code_of j.side)) x
        ∙ decide-written

  -- an undo that is done
  module _ (z : image_number s undo ≡ 0) where
    undone : Undone b (undo_of b).board
    undone = undone-is (done-returned (undo_of b) (call-number-is undo ∙ z))

    pub undo-fits : (0 < b.count) × (b.count ≤ 1984) × (get_or b.stack (b.count - 1) 0 < 1984)
        × (b.tally.undecided ≤ 1984)
        × (0 < side_count b.tally (side_in (get_or b.borders (get_or b.stack (b.count - 1) 0) 0)))
    undo-fits =
        let N = native-has b undone.known in
        let m = borders-fit b N in
        let f = N.few in
        let p = undone.some in
        let c : b.count ≡ b.count - 1 + 1 = omega arith in (
          p,
          omega arith,
          omega (arith, N.entry (b.count - 1) (omega arith)),
          (tally-fits b N).0,
          side-counted b N typed.borders typed.stack (b.count - 1) c,
        )

    -- the image s with the border x, the last of the stack, made undecided
    abbrev with_undone : ℕ → List ℕ
    with_undone x =
        image_written s x 0 (b.count - 1) (b.count - 1) 0 (tally_less b.tally (side_in (get_or b.borders x 0)))

    pub undo-written : with_undone (get_or b.stack (b.count - 1) 0) ≡ image_after s undo
    undo-written =
        let f = undo-fits in
        let k = b.count - 1 in
        let n = get_or b.stack k 0 in
        let u = tally_less b.tally (side_in (get_or b.borders n 0)) in
        ap (λ (x : List ℕ). image_written x n 0 k k 0 u) (sym image-of)
        ∙ written-image b typed n 0 k k 0 u f.2 (omega arith)
        ∙ ap image_of (sym undone.is)
        ∙ sym (after_is undo)

    pub image-undo-after : (n : ℕ) (u : Tally) (t : List ℕ) → n ≡ get_or b.stack (b.count - 1) 0
        → u ≡ tally_less b.tally (side_in (get_or b.borders n 0))
        → t ≡ image_written s n 0 (b.count - 1) (b.count - 1) 0 u → t ≡ image_after s undo
    image-undo-after n u t x a w =
        w
        ∙ ap (λ (k : Tally). image_written s n 0 (b.count - 1) (b.count - 1) 0 k) a
        ∙ ap with_undone x
        ∙ undo-written
