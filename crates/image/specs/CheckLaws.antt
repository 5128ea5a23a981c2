-- A check on an image by cases: another length, an alien board, short memory, and what Check gives.
--
--   other-number, other-bytes  an image of another length
--   alien-checked, short-checked, found-checked  an alien board, short memory, and neither
--   Quiet a             the answer a is no conflict
--   AnswerFits n a      the literals of the answer a fit n places
--   Checks m codes f a  what the answer a of a check, with its codes, says where Check gives f and m is the memory
--   checks              of a board that is not alien, with room for its reasons
use Rattle.std.specs.Prelude.{◌≡◌, refl, true, false, List, ℕ, ◌/◌, ◌≤◌, ℤ, length}
use Rattle.std.proofs.Common.{ap, sym, ◌∙◌, arith}
use borrow.Author.Tests.{ne_eqb, ltb-true, ltb-false, lt-ltb, le-ltb}
use Rattle.rules.specs.Check.{Verdict, pass, conflict, check}
use Rattle.board.specs.declared.Board.{Board}
use Rattle.board.specs.Alien.{is_alien, board_of}
use Rattle.board.specs.View.{puzzle_of, states_of}
use Rattle.calls.specs.declared.Answer.{Answer}
use Rattle.calls.specs.declared.Answer.TheVariants.{Done, Pass, Conflict, Refused}
use Rattle.calls.specs.Answers.{answer_number, as_answer, written, check_answer}
use Rattle.calls.specs.AnswerLaws.{length-written}
use Rattle.calls.specs.Known.{KnownBoard, found_in}
use Rattle.calls.specs.CheckLaws.{same-found}
use Rattle.calls.proofs.CallLaws.{reason-short}
use Rattle.calls.specs.NumberLaws.{InRange}
use Rattle.calls.proofs.RangeLaws.{found-range}
use Rattle.image.specs.Image.{spelled_board, right_length, put_codes, is_short, place_count, bytes_after, bytes_by}
use Rattle.image.specs.Image.{check_number}
use Rattle.image.specs.Image.{check_bytes}
use Rattle.image.specs.RoundLaws.{long-is}
use Rattle.image.specs.MemoryLaws.{codes-put}

-- ---- an image of another length
module _ (s m : List ℕ) (h : length s ≡ 11082 → ⊥) where
  other : right_length s ≡ false
  unfolding right_length
  other = ne_eqb (length s) 11082 h

  pub other-number : 5 ≡ check_number s m
  unfolding check_number
  other-number = rw other

  pub other-bytes : m ≡ check_bytes s m
  unfolding check_bytes
  other-bytes = rw other

-- ---- an image of the right length, whose board is b
module _ (s m : List ℕ) (e : length s ≡ 11082) (b : Board) (q : b ≡ spelled_board s) where
  number_is : answer_number (check_answer b (place_count m)) ≡ check_number s m
  unfolding check_number
  number_is = rw (long-is s e, q)

  bytes-is : bytes_by b m ≡ check_bytes s m
  unfolding check_bytes
  bytes-is = rw (long-is s e, q)

  pub alien-checked : is_alien b ≡ true → (5 ≡ check_number s m) × (m ≡ check_bytes s m)
  unfolding check_answer
  alien-checked a =
      let n : 5 ≡ answer_number (check_answer b (place_count m)) = rw a in
      let k : m ≡ bytes_by b m = rw a in
      (n ∙ number_is, k ∙ bytes-is)

  module _ (a : is_alien b ≡ false) where
    pub short-checked : is_short m ≡ true → (9 ≡ check_number s m) × (m ≡ check_bytes s m)
    unfolding check_answer is_short
    short-checked t =
        let few = lt-ltb (length m / 2) 1984 (omega (arith, ltb-true (length m) 3968 t)) in
        let n : 9 ≡ answer_number (check_answer b (place_count m)) = rw (a, few) in
        let k : m ≡ bytes_by b m = rw (a, few) in
        (n ∙ number_is, k ∙ bytes-is)

    abbrev found : Verdict
    found = found_in b.height b.width b.colours b.clues b.borders

    pub found-checked : is_short m ≡ false
        → (answer_number (as_answer found) ≡ check_number s m) × (bytes_after m found ≡ check_bytes s m)
    unfolding check_answer is_short
    found-checked t =
        let many = le-ltb (length m / 2) 1984 (omega (arith, ltb-false (length m) 3968 t)) in
        let n : answer_number (as_answer found)
        ≡ answer_number (check_answer b (place_count m)) = rw (a, many, same-found b) in
        let k : bytes_after m found ≡ bytes_by b m = rw (a, many, same-found b) in
        (n ∙ number_is, k ∙ bytes-is)

-- ---- what an answer of a check says
-- the memory m after an answer, where codes holds the literals
abbrev left : List ℕ → List ℕ → Answer → List ℕ
left m codes Done = m
left m codes (Pass n) = m
left m codes (Conflict n) = put_codes m codes n
left m codes (Refused o) = m

-- an answer that is no conflict leaves the memory
abbrev pub Quiet : Answer → Type 0
Quiet Done = Unit {0}
Quiet (Pass n) = Unit {0}
Quiet (Conflict n) = ⊥
Quiet (Refused o) = Unit {0}

left-quiet : (m codes : List ℕ) (a : Answer) → Quiet a → m ≡ left m codes a
left-quiet m codes Done q = refl
left-quiet m codes (Pass n) q = refl
left-quiet m codes (Conflict n) q = absurd q
left-quiet m codes (Refused o) q = refl

abbrev pub AnswerFits : ℕ → Answer → Type 0
AnswerFits k Done = Unit {0}
AnswerFits k (Pass n) = Unit {0}
AnswerFits k (Conflict n) = n ≤ k
AnswerFits k (Refused o) = Unit {0}

pub record Checks (m codes : List ℕ) (f : Verdict) (a : Answer) : Type 0 where
  pub number : (x : Answer) → a ≡ x → answer_number x ≡ answer_number (as_answer f)
  pub range : (x : Answer) → a ≡ x → InRange x
  pub fits : (x : Answer) → a ≡ x → AnswerFits (length codes) x
  pub quiet : (x : Answer) → a ≡ x → Quiet x → m ≡ bytes_after m f
  pub reason : (n : ℕ) → a ≡ Conflict n → put_codes m codes n ≡ bytes_after m f

module _ {h w : ℕ} {cs : List ℕ} {ks : List ℤ} {bs : List ℕ} {n : ℕ} (K : KnownBoard h w cs ks bs n) (m before : List ℕ)
    (room : 1984 ≤ length before) where
  abbrev b : Board
  b = board_of h w cs ks bs K.stack K.count K.tally

  abbrev f : Verdict
  f = found_in h w cs ks bs

  in-range : InRange (as_answer f)
  in-range = rw (same-found b) (found-range b K.native (check (puzzle_of b) (states_of b)) refl)

  fit : (g : Verdict) → f ≡ g → AnswerFits (length before) (as_answer g)
  fit (pass x) e = tt
  fit (conflict r) e =
      omega (arith, reason-short b K.native r (sym (same-found b) ∙ e), room)

  after : (g : Verdict) → f ≡ g → left m (written before g) (as_answer g) ≡ bytes_after m g
  after (pass x) e = refl
  after (conflict r) e = codes-put m _ before r (fit (conflict r) e) refl

  module _ (a : Answer) (codes : List ℕ) (p : a ≡ as_answer f) (c : codes ≡ written before f) where
    pub checks : Checks m codes f a
    checks =
        let memory : left m codes a ≡ bytes_after m f = rw (p, c) (after f refl) in
        record {
          number = λ x e. ap answer_number (sym e ∙ p);
          range = λ x e. rw (sym e ∙ p) in-range;
          fits = λ x e. rw (sym e ∙ p, c, length-written before f) (fit f refl);
          quiet = λ x e q. left-quiet m codes x q ∙ sym (ap (left m codes) e) ∙ memory;
          reason = λ x e. sym (ap (left m codes) e) ∙ memory;
        }
