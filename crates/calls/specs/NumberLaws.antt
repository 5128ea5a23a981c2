-- The number of an answer tells the answer.
--
--   refusal_of v      the refusal with the number v, from 1 to 9
--   answer_from v     the answer with the number v
--   InRange a         the counts that a call can give
--   check-count       a pass gives the count of undecided borders
--   answer-from       the answer is read back from its number
--   number-once       two answers with one number are equal
--   answer-never-eleven  no answer has the number 11
use Rattle.std.specs.Prelude.{◌≡◌, refl, false, cond, ℕ, ◌+◌, ◌-◌, ◌<◌, ◌≤◌, eqb, ltb, Ok, Err}
use Rattle.std.proofs.Common.{ap, sym, ◌∙◌, arith, ne_eqb, lt-ltb, le-ltb}
use Rattle.std.proofs.Math.Option.{Option, some, none}
use Rattle.lists.specs.CountLaws.{count-le}
use Rattle.rules.specs.Page.{Puzzle, State, is_undecided}
use Rattle.rules.specs.Flat.{flat}
use Rattle.rules.specs.Check.{Reason, pass, hit, undecided_count}
use Rattle.rules.specs.Check.{once_in, verdict_of, check}
use Rattle.laws.specs.FlatLaws.{borders-le}
use Rattle.board.specs.declared.Board.{Board}
use Rattle.board.specs.declared.Refusal.{Refusal}
use Rattle.board.specs.declared.Refusal.TheVariants.{Size, Ragged, Colour, Clue}
use Rattle.board.specs.declared.Refusal.TheVariants.{Alien, Border, Taken, Bare, Short}
use Rattle.board.specs.Alien.{is_alien}
use Rattle.board.specs.Board.{Outcome, refusal_number}
use Rattle.board.specs.View.{puzzle_of, states_of}
use Rattle.board.specs.Cases.{outcome-never-eleven}
use Rattle.board.specs.NativeLaws.{native-has}
use Rattle.calls.specs.declared.Answer.{Answer}
use Rattle.calls.specs.declared.Answer.TheVariants.{Done, Pass, Conflict, Refused}
use Rattle.calls.specs.Answers.{answer_number, then_answer, ended}

unfoldable pub refusal_of : ℕ → Refusal
refusal_of v =
    cond (eqb v 1) Size
    (cond (eqb v 2) Ragged
    (cond (eqb v 3) Colour
    (cond (eqb v 4) Clue
    (cond (eqb v 5) Alien
    (cond (eqb v 6) Border
    (cond (eqb v 7) Taken
    (cond (eqb v 8) Bare Short)))))))

unfoldable pub answer_from : ℕ → Answer
answer_from v =
    cond (eqb v 0) Done
    (cond (ltb v 32) (Refused (refusal_of v))
    (cond (ltb v 65536) (Pass (v - 32))
    (Conflict (v - 65536))))

abbrev pub InRange : Answer → Type 0
InRange Done = Unit {0}
InRange (Pass n) = n ≤ 1984
InRange (Conflict n) = n ≤ 1984
InRange (Refused e) = Unit {0}

-- ---- what a call answers is in range
pub check-count : (Z : Puzzle) (s : ℕ → State) (n : ℕ) → check Z s ≡ pass n → n ≡ undecided_count Z s
unfolding check
check-count Z s n e = go (hit Z s) e
  where
    go : (o : Option Reason) → verdict_of (undecided_count Z s) (once_in o) ≡ pass n → n ≡ undecided_count Z s
    go none f = cc
    go (some r) f = let z : ◌≡◌ {A = ℕ} 0 1 = cc in absurd (omega arith)

-- the answer a where the outcome is done, otherwise the refusal
pub then-range : (o : Outcome) (a : Answer) → InRange a → InRange (then_answer o a)
then-range (Ok u) a h = h
then-range (Err e) a h = tt

pub ended-range : (o : Outcome) → InRange (ended o)
ended-range o = then-range o Done tt

pub pass-range : (b : Board) → is_alien b ≡ false → (n : ℕ) → check (puzzle_of b) (states_of b) ≡ pass n → n ≤ 1984
unfolding puzzle_of undecided_count flat
pass-range b t n e =
    let c = check-count (puzzle_of b) (states_of b) n e in
    omega (
      arith,
      c,
      count-le (puzzle_of b).page.borders (λ x. is_undecided (states_of b x)),
      borders-le (native-has b t).size,
    )

-- ---- read back
refusal-of : (e : Refusal) → (refusal_of (refusal_number e) ≡ e) × (0 < refusal_number e) × (refusal_number e < 32)
unfolding refusal_of
refusal-of Size = (refl, omega arith, omega arith)
refusal-of Ragged = (refl, omega arith, omega arith)
refusal-of Colour = (refl, omega arith, omega arith)
refusal-of Clue = (refl, omega arith, omega arith)
refusal-of Alien = (refl, omega arith, omega arith)
refusal-of Border = (refl, omega arith, omega arith)
refusal-of Taken = (refl, omega arith, omega arith)
refusal-of Bare = (refl, omega arith, omega arith)
refusal-of Short = (refl, omega arith, omega arith)

pub answer-from : (a : Answer) → InRange a → answer_from (answer_number a) ≡ a
unfolding answer_from
answer-from Done h = refl
answer-from (Pass n) h =
    let e : 32 + n - 32 ≡ n = omega arith in
    rw (
      ne_eqb (32 + n) 0 (λ q. let z : 32 + n ≡ 0 = q in omega arith),
      le-ltb (32 + n) 32 (omega arith),
      lt-ltb (32 + n) 65536 (omega arith),
      e,
    )
answer-from (Conflict n) h =
    let e : 65536 + n - 65536 ≡ n = omega arith in
    rw (
      ne_eqb (65536 + n) 0 (λ q. let z : 65536 + n ≡ 0 = q in omega arith),
      le-ltb (65536 + n) 32 (omega arith),
      le-ltb (65536 + n) 65536 (omega arith),
      e,
    )
answer-from (Refused e) h =
    let r = refusal-of e in
    rw (
      ne_eqb (refusal_number e) 0 (λ q. let z : refusal_number e ≡ 0 = q in omega arith),
      lt-ltb (refusal_number e) 32 r.2,
      r.0,
    )

pub number-once : (a c : Answer) → InRange a → InRange c → answer_number a ≡ answer_number c → a ≡ c
number-once a c h k e = sym (answer-from a h) ∙ ap answer_from e ∙ answer-from c k

-- "Number 11 is retired and not used again"
pub answer-never-eleven : (a : Answer) → answer_number a ≡ 11 → ⊥
answer-never-eleven Done e = omega arith
answer-never-eleven (Pass n) e = omega arith
answer-never-eleven (Conflict n) e = omega arith
answer-never-eleven (Refused r) e = outcome-never-eleven (Err r) e
