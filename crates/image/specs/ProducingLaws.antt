-- Every call on an image answers 5 exactly if decides and undos cannot produce the image.
--
--   image-exactly    an image is not alien exactly if it is produced
--   call-five        a decide or an undo answers 5 exactly if the image is not produced
--   check-five       so does a check
use Rattle.std.specs.Prelude.{◌≡◌, refl, Bool, true, false, cond, List, ◌↔◌, ℕ, ◌+◌, ◌<◌}
use Rattle.std.specs.Prelude.{eqb, ltb, length, get_or, Ok, Err}
use Rattle.std.proofs.Common.{ap, sym, ◌∙◌, arith}
use Rattle.std.proofs.Math.Path.{transport}
use Rattle.std.proofs.lemmas.Bool.{false≢true, eqb-false}
use Rattle.rules.specs.Codes.{side_code}
use Rattle.rules.specs.Check.{Verdict, pass, conflict, check}
use Rattle.board.specs.declared.Board.{Board}
use Rattle.board.specs.declared.Returned.{Returned}
use Rattle.board.specs.Alien.{border_count_of, is_alien}
use Rattle.board.specs.Board.{number_of, decide_refusal, decide_of, undo_refusal, undo_of}
use Rattle.board.specs.declared.Refusal.TheVariants.{Alien, Border, Taken, Bare, Short}
use Rattle.board.specs.View.{puzzle_of, states_of}
use Rattle.reach.specs.Produced as board
use Rattle.reach.specs.Produced.{Produced}
use Rattle.reach.specs.Reach.{produced-known, known-produced}
use Rattle.calls.specs.declared.Answer.TheVariants.{Refused}
use Rattle.calls.specs.Answers.{answer_number, as_answer, check_answer}
use Rattle.image.specs.Image.{spelled_board, image_of, image_alien, Bytes, Proper, ImageCall, decide, undo}
use Rattle.image.specs.Image.{right_length, number_by, board_by, image_number, image_after, place_count}
use Rattle.image.specs.Image.{check_number}
use Rattle.image.specs.Producing.{ImageProduced, begun, called}
use Rattle.image.specs.RoundLaws.{long-is, known-board, alien-image}
use Rattle.image.specs.RunLaws.{literal-of-code, proper-after, number-image, after-image}
use Rattle.image.specs.SeriesLaws.{alien-number}

-- ---- the images of produced boards
produced-proper : (b : Board) → Produced b → Proper b
produced-proper b p = let r = produced-known b p in record { known = r.0; typed = r.1 }

-- a call on the board that is done is one on its image
module _ (b d : Board) (p : Produced b) (a : ImageCall) where
  called-image : number_by b a ≡ 0 → board_by b a ≡ d → ImageProduced (image_of b) → ImageProduced (image_of d)
  called-image n e q =
      let P = produced-proper b p in
      transport (λ i. ImageProduced ((after-image b P a ∙ ap image_of e) i))
      (called (image_of b) a q (number-image b P a ∙ n))

board-produced : (b : Board) → Produced b → ImageProduced (image_of b)
board-produced b (board.made h w cs ks _ s e) = begun h w cs ks b s e
board-produced b (board.after_decide c l _ p e) =
    let f = ap (decide_of c) (literal-of-code l) ∙ e in
    called-image c b p (decide l.border (side_code l.side))
    (ap (λ (r : Returned). number_of r.outcome) f) (ap (λ (r : Returned). r.board) f) (board-produced c p)
board-produced b (board.after_undo c _ p e) =
    called-image c b p undo
    (ap (λ (r : Returned). number_of r.outcome) e) (ap (λ (r : Returned). r.board) e) (board-produced c p)

produced-board : (s : List ℕ) → ImageProduced s → (b : Board) × Proper b × (s ≡ image_of b)
produced-board s (begun h w cs ks b m e) = (b, produced-proper b (board.made h w cs ks b m e), refl)
produced-board s (called t a p z) =
    let r = produced-board t p in
    let b = r.0 in
    let P = r.1 in
    (board_by b a, proper-after b a P, ap (λ (u : List ℕ). image_after u a) r.2 ∙ after-image b P a)

-- ---- which images are alien
pub image-exactly : (s : List ℕ) → Bytes s → (image_alien s ≡ false) ↔ ImageProduced s
image-exactly s h = (
  λ k.
      let r = (alien-image s h).0 k in
      transport (λ i. ImageProduced (sym r.2 i))
      (board-produced r.0 (known-produced r.0 r.1.typed r.1.known)),
  λ p. (alien-image s h).1 (produced-board s p),
)

-- an answer that is 5 on alien images, and on no others
exactly-by : (s : List ℕ) → Bytes s → (n : ℕ) → (image_alien s ≡ true → n ≡ 5) → (image_alien s ≡ false → n ≡ 5 → ⊥)
    → (n ≡ 5) ↔ (ImageProduced s → ⊥)
exactly-by s h n f g =
    (λ e p. g ((image-exactly s h).1 p) e, λ q. go (image_alien s) refl q)
  where
    go : (t : Bool) → image_alien s ≡ t → (ImageProduced s → ⊥) → n ≡ 5
    go true k q = f k
    go false k q = absurd (q ((image-exactly s h).0 k))

-- ---- on other images no call answers 5
call-else : (b : Board) → is_alien b ≡ false → (a : ImageCall) → number_by b a ≡ 5 → ⊥
unfolding decide_of decide_refusal undo_of undo_refusal
call-else b k (decide n d) =
    rw k (go (ltb n (border_count_of b)) (eqb (get_or b.borders n 0) 0))
  where
    go : (x y : Bool) → number_of (cond x (cond y (Ok tt) (Err Taken)) (Err Border)) ≡ 5 → ⊥
    go true true e = eqb-false 0 5 refl e
    go true false e = eqb-false 7 5 refl e
    go false y e = eqb-false 6 5 refl e
call-else b k undo = rw k (go (eqb b.count 0))
  where
    go : (x : Bool) → number_of (cond x (Err Bare) (Ok tt)) ≡ 5 → ⊥
    go true e = eqb-false 8 5 refl e
    go false e = eqb-false 0 5 refl e

above : (n m : ℕ) → 5 < n → n + m ≡ 5 → ⊥
above n m l e = omega arith

check-else : (b : Board) → is_alien b ≡ false → (n : ℕ) → answer_number (check_answer b n) ≡ 5 → ⊥
unfolding check_answer
check-else b k n = rw k (go (ltb n 1984) (check (puzzle_of b) (states_of b)))
  where
    go : (x : Bool) (f : Verdict) → answer_number (cond x (Refused Short) (as_answer f)) ≡ 5 → ⊥
    go true f e = eqb-false 9 5 refl e
    go false (pass m) e = above 32 m (omega arith) e
    go false (conflict r) e = above 65536 (length r) (omega arith) e

check-alien : (s m : List ℕ) → image_alien s ≡ true → check_number s m ≡ 5
unfolding image_alien check_number check_answer
check-alien s m k = go (right_length s) (is_alien (spelled_board s)) k
  where
    go : (x y : Bool) → cond x y true ≡ true
        → cond x (answer_number (cond y (Refused Alien) (cond (ltb (place_count m) 1984) (Refused Short)
        (as_answer (check (puzzle_of (spelled_board s)) (states_of (spelled_board s))))))) 5 ≡ 5
    go true true e = refl
    go true false e = absurd (false≢true e)
    go false y e = refl

module _ (s : List ℕ) (h : Bytes s) where
  pub call-five : (a : ImageCall) → (image_number s a ≡ 5) ↔ (ImageProduced s → ⊥)
  unfolding image_number
  call-five a =
      exactly-by s h (image_number s a) (λ k. alien-number s k a)
      (λ k. let r = known-board s k in rw (long-is s r.0) (call-else (spelled_board s) r.1.known a))

  pub check-five : (m : List ℕ) → (check_number s m ≡ 5) ↔ (ImageProduced s → ⊥)
  unfolding check_number
  check-five m =
      exactly-by s h (check_number s m) (check-alien s m)
      (λ k. let r = known-board s k in rw (long-is s r.0) (check-else (spelled_board s) r.1.known (place_count m)))
