-- What the probe of a unit's transforms writes.
--
--   counts_of a         an answer as four numbers: that of the refusal, or 0, transforms, cells, connections
--   answer_in s u k n   the answer of the board that the image s spells; an image of another length is alien
--   memory_in s u k m   the memory afterwards
use Rattle.std.specs.Prelude.{◌≡◌, cond, List, [], ◌∷◌, ℕ, ℤ, length, Result, Ok, Err}
use Rattle.std.proofs.Common.{ne_eqb}
use Rattle.board.specs.Board.{refusal_number}
use Rattle.board.specs.declared.Refusal.{Refusal}
use Rattle.board.specs.declared.Refusal.TheVariants.{Alien}
use Rattle.image.specs.Image.{right_length, spelled_board}
use Rattle.image.specs.RoundLaws.{long-is}
use Rattle.transforms.specs.declared.Transformed.{Transformed}
use Rattle.transforms.specs.Transforms.{transform_of, memory_after}

abbrev pub counts_of : Result Transformed Refusal → List ℕ
counts_of (Ok a) = 0 ∷ a.listed ∷ a.cells ∷ a.connections ∷ []
counts_of (Err e) = refusal_number e ∷ 0 ∷ 0 ∷ 0 ∷ []

unfoldable pub answer_in : List ℕ → ℕ → ℕ → ℕ → Result Transformed Refusal
answer_in s u k n = cond (right_length s) (transform_of (spelled_board s) u k n) (Err Alien)

unfoldable pub memory_in : List ℕ → ℕ → ℕ → List ℤ → List ℤ
memory_in s u k m = cond (right_length s) (memory_after (spelled_board s) u k m) m

-- the two cases
module _ (s : List ℕ) (u k : ℕ) (m : List ℤ) where
  pub other-answer : (length s ≡ 11082 → ⊥) → Err Alien ≡ answer_in s u k (length m)
  unfolding answer_in right_length
  other-answer e = rw (ne_eqb (length s) 11082 e)

  pub other-memory : (length s ≡ 11082 → ⊥) → m ≡ memory_in s u k m
  unfolding memory_in right_length
  other-memory e = rw (ne_eqb (length s) 11082 e)

  pub right_answer : length s ≡ 11082 → transform_of (spelled_board s) u k (length m) ≡ answer_in s u k (length m)
  unfolding answer_in
  right_answer e = rw (long-is s e)

  pub right-memory : length s ≡ 11082 → memory_after (spelled_board s) u k m ≡ memory_in s u k m
  unfolding memory_in
  right-memory e = rw (long-is s e)
