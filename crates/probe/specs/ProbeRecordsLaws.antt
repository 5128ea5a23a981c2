-- Laws of a call with a tally record: words that are three, and others.
use Rattle.std.specs.Prelude.{◌≡◌, refl, Bool, true, false, List, ℕ, length}
use Rattle.std.proofs.Common.{arith}
use borrow.Author.Tests.{eq-eqb, ne_eqb}
use Rattle.std.proofs.lemmas.List.Edits.{sets}
use Rattle.rules.specs.declared.Call.{Call}
use Rattle.rules.specs.declared.Tally.{Tally}
use Rattle.rules.specs.Book.{same_tally}
use Rattle.board.specs.declared.Board.{Board}
use Rattle.calls.specs.Answers.{answer_number}
use Rattle.calls.specs.NumberLaws.{InRange}
use Rattle.calls.proofs.RangeLaws.{call-range}
use Rattle.calls.specs.Counted.{counted_of, counted_memory}
use Rattle.calls.proofs.CountedLaws.{counted_same, counted-other}
use Rattle.image.specs.Image.{tally_counts}
use Rattle.probe.specs.ProbeRecords.{tally_from, record_number, record_words, record_memory}

pub counted-range : (b : Board) (c : Call) (t : Tally) (m : List ℕ) → InRange (counted_of b c t m).stepped.answer
counted-range b c t m = go (same_tally t b.tally) refl
  where
    go : (x : Bool) → same_tally t b.tally ≡ x → InRange (counted_of b c t m).stepped.answer
    go true e = rw (counted_same b c t m e).0 (call-range b c m)
    go false e = rw (counted-other b c t m e).0 (omega arith)

module _ (b : Board) (c : Call) (ws m : List ℕ) where
  pub record-other : (length ws ≡ 3 → ⊥)
      → (5 ≡ record_number b c ws m) × (ws ≡ record_words b c ws m) × (m ≡ record_memory b c ws m)
  unfolding record_number record_words record_memory
  record-other f = let e = ne_eqb (length ws) 3 f in (rw e, rw e, rw e)

  pub record-three : length ws ≡ 3
      → (answer_number (counted_of b c (tally_from ws) m).stepped.answer ≡ record_number b c ws m)
      × (sets ws 0 (tally_counts (counted_of b c (tally_from ws) m).tally) ≡ record_words b c ws m)
      × (counted_memory b c (tally_from ws) m ≡ record_memory b c ws m)
  unfolding record_number record_words record_memory
  record-three h = let e = eq-eqb (length ws) 3 h in (rw e, rw e, rw e)
