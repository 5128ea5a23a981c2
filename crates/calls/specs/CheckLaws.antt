-- What the search for a hit finds over a board's arrays is the answer of a check.
--
--   drawn-of            what the search needs of a board that is not alien
--   same-found          what Check gives of a board is what it gives of the board's arrays
--   nothing-found, reason-found  what the search found, as the answer of a check; a pass has the stored number
use Rattle.std.proofs.Math.Path.{◌≡◌, refl, sym, ap}
use Rattle.std.proofs.Common.{◌∙◌, arith}
use Rattle.std.specs.Prelude.{false, List, ℕ, ◌*◌, None, Some}
use Rattle.std.proofs.lemmas.Option.{none-some, same_Some}
use Rattle.std.proofs.Math.Option.{Option, some, none}
use Rattle.std.proofs.Math.Decide.{dec_lt}
use Rattle.std.proofs.Math.ListN.{length}
use Rattle.rules.specs.Codes.{states_in, puzzle_in}
use Rattle.rules.specs.Check.{Reason, Verdict, hit, check, once, once_in, verdict_of, undecided_count}
use Rattle.board.specs.declared.Board.{Board}
use Rattle.board.specs.Alien.{is_alien}
use Rattle.board.specs.View.{puzzle_of, states_of}
use Rattle.board.specs.NativeLaws.{native-has}
use Rattle.board.proofs.ViewLaws.{pass-stored}
use Rattle.groups.specs.Pages.{Drawn}
use Rattle.steps.specs.Found.{found_of, written_by, Answers}
use Rattle.calls.specs.declared.Answer.TheVariants.{Pass, Conflict}
use Rattle.calls.specs.Answers.{as_answer, written}
use Rattle.calls.specs.Known.{found_in}

-- what Check gives of a board's arrays
abbrev found_on : Board → Verdict
found_on b = found_in b.height b.width b.colours b.clues b.borders

-- the count of a pass
abbrev free_on : Board → ℕ
free_on b = undecided_count (puzzle_of b) (states_of b)

pub same-found : (b : Board) → found_on b ≡ check (puzzle_of b) (states_of b)
unfolding puzzle_of states_of
same-found b = refl

module _ (b : Board) (t : is_alien b ≡ false) where
  -- the colours are 0 or 1, those of unused places too
  pub drawn-of : Drawn b.height b.width b.colours
  drawn-of =
      let n = native-has b t in
      record {
        sized = n.size;
        two =
            λ c. elim (dec_lt c (b.height * b.width)) [
              | yes l ↦ n.colour c l
              | no l ↦ omega (arith, n.no_colour c (omega arith))
            ];
      }

  abbrev hit_of : Option Reason
  hit_of = hit (puzzle_in b.height b.width b.colours b.clues) (states_in b.borders)

  checked : (o : Option Reason) → hit_of ≡ o → found_on b ≡ verdict_of (free_on b) (once_in o)
  unfolding check puzzle_of states_of
  checked o e = ap (λ (k : Option Reason). verdict_of (free_on b) (once_in k)) e

  module _ (m after : List ℕ) where
    pub nothing-found : Answers hit_of m after None
        → (Pass b.tally.undecided ≡ as_answer (found_on b)) × (after ≡ written m (found_on b))
    unfolding found_of written_by
    nothing-found a = go hit_of refl a.found a.memory
      where
        go : (o : Option Reason) → hit_of ≡ o → None ≡ found_of o → after ≡ written_by o m
            → (Pass b.tally.undecided ≡ as_answer (found_on b)) × (after ≡ written m (found_on b))
        go none e f g = (
          ap Pass (sym (pass-stored b (native-has b t))) ∙ sym (ap as_answer (checked none e)),
          g ∙ sym (ap (written m) (checked none e)),
        )
        go (some r) e f g = absurd (none-some _ f)

    pub reason-found : (n : ℕ) → Answers hit_of m after (Some n)
        → (Conflict n ≡ as_answer (found_on b)) × (after ≡ written m (found_on b))
    unfolding found_of written_by
    reason-found n a = go hit_of refl a.found a.memory
      where
        go : (o : Option Reason) → hit_of ≡ o → Some n ≡ found_of o → after ≡ written_by o m
            → (Conflict n ≡ as_answer (found_on b)) × (after ≡ written m (found_on b))
        go none e f g = absurd (none-some n (sym f))
        go (some r) e f g =
            let q = same_Some n (length (once r)) f in (
              ap Conflict q ∙ sym (ap as_answer (checked (some r) e)),
              g ∙ sym (ap (written m) (checked (some r) e)),
            )
