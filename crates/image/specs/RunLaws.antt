-- Calls on images and on boards, by value, go alike: one call, and demand 3 for a list of calls from the image of a
-- fresh board.
--
--   number-image, after-image   a decide or an undo on the image of a board
--   step-number, step-codes, step-image  any call on it: its number, the memory, and the image afterwards
--   image-demand                demand 3 for a list of calls on images
use Rattle.std.specs.Prelude.{◌≡◌, Bool, true, false, cond, List, [], ◌∷◌, map, ℕ, ◌/◌, ◌≤◌, ltb, ℤ, length, Ok, Err}
use Rattle.std.proofs.Math.Path.{refl, ap, sym}
use Rattle.std.proofs.Common.{ap₂, ◌∙◌, arith, ltb-false}
use Rattle.rules.specs.declared.Side.{Side}
use Rattle.rules.specs.declared.Side.TheVariants.{Wall, Open}
use Rattle.rules.specs.declared.Literal.{Literal}
use Rattle.rules.specs.Codes.{side_code, puzzle_in}
use Rattle.rules.specs.Check.{Verdict, pass, conflict, check}
use Rattle.board.specs.declared.Board.{Board}
use Rattle.board.specs.Board.{Outcome, number_of, decide_of, undo_of}
use Rattle.board.specs.Accepted.{Accepted, made_board}
use Rattle.board.specs.View.{puzzle_of, states_of}
use Rattle.board.proofs.StepLaws.{BoardKept, decide-kept, undo-kept}
use Rattle.calls.specs.Answers.{answer_number, written, check_answer, check_memory, ended, call_of, call_memory}
use Rattle.calls.proofs.CallLaws.{reason-short}
use Rattle.demand3.specs.Runs.{Given, given_by, next_board, board_after, run_from}
use Rattle.demand3.proofs.Demand3Laws.{start-bare, demand3}
use Rattle.image.specs.Image.{image_of, Proper, side_of, decide_literal, ImageCall, decide, undo, number_by}
use Rattle.image.specs.Image.{board_by, image_number, image_after, place_count, bytes_after, bytes_by}
use Rattle.image.specs.Image.{check_number, check_bytes}
use Rattle.image.specs.Runs.{Sent, altering, checking, sent_number, sent_image, sent_bytes, image_run, image_from}
use Rattle.image.specs.Runs.{codes_in, lent_for, Coded, coded, coded_got, coded_given, ImageDemand}
use Rattle.image.specs.LayoutLaws.{image-long}
use Rattle.image.specs.RoundLaws.{board-image, long-is}
use Rattle.image.specs.CodeLaws.{length-codes, codes-written, literals-small}

-- every literal can be decided on an image
pub side-of-code : (d : Side) → side_of (side_code d) ≡ d
side-of-code Wall = refl
side-of-code Open = refl

pub literal-of-code : (l : Literal) → decide_literal l.border (side_code l.side) ≡ l
literal-of-code l = λ i. record { border = l.border; side = side-of-code l.side i }

-- ---- one call
pub proper-after : (b : Board) (a : ImageCall) → Proper b → Proper (board_by b a)
proper-after b a P = go (kept a)
  where
    kept : (x : ImageCall) → BoardKept b (board_by b x)
    kept (decide n d) = decide-kept b P.known (decide_literal n d) P.typed
    kept undo = undo-kept b P.known P.typed

    go : BoardKept b (board_by b a) → Proper (board_by b a)
    go k = record { known = k.known; typed = k.typed }

module _ (b : Board) (P : Proper b) (a : ImageCall) where
  pub number-image : image_number (image_of b) a ≡ number_by b a
  unfolding image_number
  number-image = rw (long-is (image_of b) (image-long b P.typed), board-image b P)

  -- the image of the board after a call is the image after it
  pub after-image : image_after (image_of b) a ≡ image_of (board_by b a)
  unfolding image_after
  after-image = rw (long-is (image_of b) (image-long b P.typed), board-image b P)

-- ---- a check
module _ (b : Board) (P : Proper b) where
  pub check-number : (m : List ℕ) → check_number (image_of b) m ≡ answer_number (check_answer b (length (codes_in m)))
  unfolding check_number
  check-number m = rw (long-is (image_of b) (image-long b P.typed), board-image b P, length-codes m)

  bytes-image : (m : List ℕ) → check_bytes (image_of b) m ≡ bytes_by b m
  unfolding check_bytes
  bytes-image m = rw (long-is (image_of b) (image-long b P.typed), board-image b P)

  bytes-known : (m : List ℕ) (f : Verdict) → check (puzzle_of b) (states_of b) ≡ f → 1984 ≤ place_count m
      → codes_in (bytes_after m f) ≡ written (codes_in m) f
  bytes-known m (pass n) e h = refl
  bytes-known m (conflict r) e h =
      let s = reason-short b P.known r e in
      codes-written r (literals-small b P.known P.typed r e) m (omega arith)

  pub check-codes : (m : List ℕ) → codes_in (check_bytes (image_of b) m) ≡ check_memory b (codes_in m)
  unfolding check_memory
  check-codes m =
      ap codes_in (bytes-image m) ∙ rw (P.known, length-codes m) (go (ltb (length m / 2) 1984) refl)
    where
      f : Verdict
      f = check (puzzle_of b) (states_of b)

      go : (x : Bool) → ltb (length m / 2) 1984 ≡ x
          → codes_in (cond x m (bytes_after m f)) ≡ cond x (codes_in m) (written (codes_in m) f)
      go true e = refl
      go false e = bytes-known m f refl (omega (arith, ltb-false (length m / 2) 1984 e))

-- ---- any call
answer-ended : (o : Outcome) → answer_number (ended o) ≡ number_of o
answer-ended (Ok u) = refl
answer-ended (Err e) = refl

-- what the call gives on the board
abbrev given : Board → Sent → Given
given b c = given_by b (lent_for c)

abbrev after : Board → Sent → Board
after b c = next_board b (lent_for c)

module _ (b : Board) (P : Proper b) where
  pub step-number : (c : Sent) → sent_number (image_of b) c ≡ answer_number (given b c).answer
  unfolding call_of
  step-number (altering (decide n d)) =
      number-image b P (decide n d) ∙ sym (answer-ended (decide_of b (decide_literal n d)).outcome)
  step-number (altering undo) = number-image b P undo ∙ sym (answer-ended (undo_of b).outcome)
  step-number (checking m) = check-number b P m

  pub step-codes : (c : Sent) → codes_in (sent_bytes (image_of b) c) ≡ (given b c).memory
  unfolding call_memory codes_in
  step-codes (altering (decide n d)) = refl
  step-codes (altering undo) = refl
  step-codes (checking m) = check-codes b P m

  pub step-image : (c : Sent) → sent_image (image_of b) c ≡ image_of (after b c)
  unfolding call_of
  step-image (altering (decide n d)) = after-image b P (decide n d)
  step-image (altering undo) = after-image b P undo
  step-image (checking m) = refl

  step-proper : (c : Sent) → Proper (after b c)
  unfolding call_of
  step-proper (altering (decide n d)) = proper-after b (decide n d) P
  step-proper (altering undo) = proper-after b undo P
  step-proper (checking m) = P

-- ---- a list of calls
pub run-read : (b : Board) → Proper b → (calls : List Sent)
    → map coded_got (image_run (image_of b) calls) ≡ map coded_given (run_from b (map lent_for calls))
unfolding image_run run_from
run-read b P [] = refl
run-read b P (c ∷ calls) =
    ap₂ (λ (r : Coded) (l : List Coded). r ∷ l) (ap₂ coded (step-number b P c) (step-codes b P c))
    (ap (λ (s : List ℕ). map coded_got (image_run s calls)) (step-image b P c)
    ∙ run-read (after b c) (step-proper b P c) calls)

pub run-image : (b : Board) → Proper b → (calls : List Sent)
    → image_from (image_of b) calls ≡ image_of (board_after b (map lent_for calls))
unfolding image_from board_after
run-image b P [] = refl
run-image b P (c ∷ calls) =
    ap (λ (s : List ℕ). image_from s calls) (step-image b P c) ∙ run-image (after b c) (step-proper b P c) calls

pub image-demand : (h w : ℕ) (cs : List ℕ) (ks : List ℤ) → Accepted h w cs ks → (calls : List Sent)
    → ImageDemand (image_of (made_board h w cs ks)) (made_board h w cs ks) (puzzle_in h w cs ks) calls
image-demand h w cs ks A calls =
    let S = start-bare h w cs ks A in
    let P : Proper (made_board h w cs ks) = record { known = S.known; typed = S.typed } in
    record {
      demand = demand3 h w cs ks A (map lent_for calls);
      answers = run-read (made_board h w cs ks) P calls;
      image = run-image (made_board h w cs ks) P calls;
    }
