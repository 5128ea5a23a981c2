-- More laws of the definitions, by cases; no answer cites them.
use Rattle.std.specs.Prelude.{◌≡◌, List, ℕ, set, get_or, Result, Ok, Err}
use Rattle.std.proofs.Common.{◌∙◌}
use Rattle.std.proofs.lemmas.List.Edits.{sets}
use Rattle.board.specs.declared.Refusal.{Refusal}
use Rattle.transforms.specs.declared.Transformed.{Transformed}
use Rattle.probe.specs.ProbeTransform.{counts_of}

-- ProbeTransform: four stores
pub four-stores : (l : List ℕ) {l₁ l₂ l₃ l₄ : List ℕ} (a : Result Transformed Refusal)
    → l₁ ≡ set l 0 (get_or (counts_of a) 0 0) → l₂ ≡ set l₁ 1 (get_or (counts_of a) 1 0)
    → l₃ ≡ set l₂ 2 (get_or (counts_of a) 2 0) → l₄ ≡ set l₃ 3 (get_or (counts_of a) 3 0)
    → l₄ ≡ sets l 0 (counts_of a)
four-stores l (Ok a) d e f g = g ∙ rw (f, e, d)
four-stores l (Err r) d e f g = g ∙ rw (f, e, d)
