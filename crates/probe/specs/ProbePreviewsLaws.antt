-- Laws of the previews: one preview, and one more.
use Rattle.std.specs.Prelude.{◌≡◌, List, length}
use Rattle.std.proofs.Math.Path.{refl}
use Rattle.std.proofs.Common.{◌∙◌, add-one}
use Prim.Native.Nat.{ℕ, zero, suc, ◌+◌}
use Rattle.rules.specs.declared.Literal.{Literal}
use Rattle.rules.specs.declared.Call.TheVariants.{Preview}
use Rattle.board.specs.declared.Board.{Board}
use Rattle.calls.specs.Answers.{answer_number, preview_answer, preview_memory, call_of, call_memory}
use Rattle.calls.specs.AnswerLaws.{length-call}
use Rattle.calls.specs.NumberLaws.{InRange}
use Rattle.calls.proofs.RangeLaws.{call-range}
use Rattle.probe.specs.ProbePreviews.{previews_number, previews_memory}

module _ (b : Board) (l : Literal) where
  pub preview-in-range : (m : List ℕ) → InRange (preview_answer b l (length m))
  unfolding call_of
  preview-in-range m = call-range b (Preview l) m

  preview-length : (m : List ℕ) → length (preview_memory b l m) ≡ length m
  unfolding call_memory
  preview-length m = length-call b (Preview l) m

  pub previews-length : (times : ℕ) (m : List ℕ) → length (previews_memory b l times m) ≡ length m
  unfolding previews_memory
  previews-length zero m = refl
  previews-length (suc times) m = preview-length (previews_memory b l times m) ∙ previews-length times m

  pub previews-memory-more : (i : ℕ) (m : List ℕ)
      → preview_memory b l (previews_memory b l i m) ≡ previews_memory b l (i + 1) m
  unfolding previews_memory
  previews-memory-more i m = rw (add-one i)

  pub previews-number-more : (n i : ℕ) → answer_number (preview_answer b l n) ≡ previews_number b l n (i + 1)
  unfolding previews_number
  previews-number-more n i = rw (add-one i)
