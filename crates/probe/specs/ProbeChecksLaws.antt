-- Laws of the checks: one decide and one check more, and the two cases of the answer.
use Rattle.std.specs.Prelude.{◌≡◌, refl, true, false, cond, List, [], ◌∷◌, map, ℕ, zero, suc, ◌+◌}
use Rattle.std.specs.Prelude.{◌/◌, ◌%◌, ◌<◌, ◌≤◌, eqb, ℤ, length}
use Rattle.std.specs.Prelude.{get_or, drop}
use Rattle.std.proofs.Common.{◌∙◌, ap, arith, drop_of_length-le, drop-cons}
use Rattle.std.proofs.Math.Numerals.{add-one}
use Rattle.rules.specs.declared.Side.{Side}
use Rattle.rules.specs.declared.Side.TheVariants.{Wall, Open}
use Rattle.rules.specs.declared.Literal.{Literal}
use Rattle.rules.specs.declared.Call.TheVariants.{Check}
use Rattle.board.specs.declared.Board.{Board}
use Rattle.board.specs.Board.{decide_of}
use Rattle.board.specs.Accepted.{made_board, decides_of}
use Rattle.calls.specs.Answers.{literal_of, answer_number, check_answer, check_memory, call_of}
use Rattle.calls.specs.AnswerLaws.{length-check}
use Rattle.calls.specs.NumberLaws.{InRange}
use Rattle.calls.proofs.RangeLaws.{call-range}
use Rattle.image.specs.Image.{side_of, decide_literal}
use Rattle.probe.specs.ProbeChecks.{checks_number, checks_memory, decides_memory, made, board_in}
use Rattle.probe.specs.ProbeChecks.{checked_number, checked_memory}

-- ---- a literal's code
side-last : (d : ℕ) → d < 2 → side_of d ≡ cond (eqb d 1) Wall Open
side-last zero h = refl
side-last (suc zero) h = refl
side-last (suc (suc d)) h = absurd (omega arith)

pub code-literal : (n : ℕ) → decide_literal (n / 2) (n % 2) ≡ literal_of n
unfolding literal_of
code-literal n = ap (λ (d : Side). record { border = n / 2; side = d }) (side-last (n % 2) (omega arith))

-- ---- one check
pub check-in-range : (b : Board) (m : List ℕ) → InRange (check_answer b (length m))
unfolding call_of
check-in-range b m = call-range b Check m

-- ---- the literals from the place i on: the one there comes first; none are left at the end
pub decides-more : (b : Board) (codes : List ℕ) (i : ℕ) → i < length codes
    → decides_of b (map literal_of (drop i codes))
    ≡ decides_of (decide_of b (literal_of (get_or codes i 0))).board (map literal_of (drop (i + 1) codes))
unfolding decides_of
decides-more b codes i h = rw (drop-cons codes i 0 h, add-one i)

pub decides-none : (b : Board) (codes : List ℕ) (i : ℕ) → length codes ≤ i
    → decides_of b (map literal_of (drop i codes)) ≡ b
unfolding decides_of
decides-none b codes i h = rw (drop_of_length-le codes h)

-- ---- several checks
pub checks-length : (b : Board) (times : ℕ) (m : List ℕ) → length (checks_memory b times m) ≡ length m
unfolding checks_memory
checks-length b zero m = refl
checks-length b (suc times) m = length-check b (checks_memory b times m) ∙ checks-length b times m

pub checks-memory-more : (b : Board) (i : ℕ) (m : List ℕ) → check_memory b (checks_memory b i m)
    ≡ checks_memory b (i + 1) m
unfolding checks_memory
checks-memory-more b i m = rw (add-one i)

pub number_more : (b : Board) (n i : ℕ) → answer_number (check_answer b n) ≡ checks_number b n (i + 1)
unfolding checks_number
number_more b n i = rw (add-one i)

-- ---- the same with checks after each decide
module _ (each : ℕ) (b : Board) where
  pub checked-more : (codes m : List ℕ) (i : ℕ) → i < length codes
      → let c = (decide_of b (literal_of (get_or codes i 0))).board in
      decides_memory each b (map literal_of (drop i codes)) m
      ≡ decides_memory each c (map literal_of (drop (i + 1) codes)) (checks_memory c each m)
  unfolding decides_memory
  checked-more codes m i h = rw (drop-cons codes i 0 h, add-one i)

  pub checked-none : (codes m : List ℕ) (i : ℕ) → length codes ≤ i
      → decides_memory each b (map literal_of (drop i codes)) m ≡ m
  unfolding decides_memory
  checked-none codes m i h = rw (drop_of_length-le codes h)

pub decides-length : (each : ℕ) (b : Board) (ls : List Literal) (m : List ℕ)
    → length (decides_memory each b ls m) ≡ length m
unfolding decides_memory
decides-length each b [] m = refl
decides-length each b (l ∷ ls) m =
    let c = (decide_of b l).board in decides-length each c ls (checks_memory c each m) ∙ checks-length c each m

-- ---- the board is refused, or made
module _ (h w : ℕ) (cs : List ℕ) (ks : List ℤ) (codes : List ℕ) (each times : ℕ) (m : List ℕ) where
  module _ (e : eqb (made h w cs ks) 0 ≡ false) where
    pub checks-number-refused : made h w cs ks ≡ checked_number h w cs ks codes times (length m)
    unfolding checked_number
    checks-number-refused = rw e

    pub memory-refused : m ≡ checked_memory h w cs ks codes each times m
    unfolding checked_memory
    memory-refused = rw e

  module _ (e : eqb (made h w cs ks) 0 ≡ true) where
    pub number-made : checks_number (board_in h w cs ks codes) (length m) times
        ≡ checked_number h w cs ks codes times (length m)
    unfolding checked_number
    number-made = rw e

    pub memory-made : checks_memory (board_in h w cs ks codes) times
        (decides_memory each (made_board h w cs ks) (map literal_of codes) m)
        ≡ checked_memory h w cs ks codes each times m
    unfolding checked_memory
    memory-made = rw e
