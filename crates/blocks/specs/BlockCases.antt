-- A clue that was read, and one cell more in a census.
use Rattle.std.specs.Prelude.{◌≡◌, ℕ, eqb, ℤ, pos, Option}
use Rattle.std.specs.Option.{is_some, option_or}
use Rattle.std.specs.Prelude.{List, get_or, FitsSigned}
use Rattle.std.proofs.Common.{◌∙◌, ap, to_z, of_z}
use Rattle.std.proofs.lemmas.Int.{to_z-of_z}
use mir.Syntax.{w32}
use borrow.Author.Tests.{eq-eqb, ne_eqb}
use Rattle.rules.specs.Codes.{clue_of, clues_in}
use Rattle.blocks.specs.declared.Part.{Part}
use Rattle.blocks.specs.declared.Census.{Census}
use Rattle.blocks.specs.Censuses.{clue_in, next_part, next_census}

-- a clue that was read is the cell's
pub clue-read : (ks : List ℤ) (c : ℕ) {r : Option ℕ} → FitsSigned w32 (get_or ks c (pos 0))
    → r ≡ clue_in (clue_of (to_z w32 (of_z w32 (get_or ks c (pos 0))))) → r ≡ clue_in (clues_in ks c)
unfolding clues_in
clue-read ks c fits e = e ∙ ap (λ z. clue_in (clue_of z)) (to_z-of_z w32 (get_or ks c (pos 0)) fits)

module _ (t : Census) (c u : ℕ) (k : Option ℕ) where
  pub census-one : (p : Part) (f : Option ℕ) → c ≡ 1 → p ≡ next_part t.one u (is_some k)
      → f ≡ option_or t.clue k → record { zero = t.zero; one = p; clue = f } ≡ next_census t (eqb c 1) u k
  unfolding next_census
  census-one p f e a b = rw (a, b, eq-eqb c 1 e)

  pub census-zero : (p : Part) (f : Option ℕ) → (c ≡ 1 → ⊥) → p ≡ next_part t.zero u (is_some k)
      → f ≡ option_or t.clue k → record { zero = p; one = t.one; clue = f } ≡ next_census t (eqb c 1) u k
  unfolding next_census
  census-zero p f e a b = rw (a, b, ne_eqb c 1 e)
