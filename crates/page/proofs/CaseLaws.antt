-- More laws of the definitions, by cases; no answer cites them.
use Rattle.std.specs.Prelude.{◌≡◌, refl, ℕ, ◌+◌, ◌<◌, ◌≤◌, length, get_or}
use Rattle.std.proofs.Common.{sym, ap, ◌∙◌, arith}
use mathlib.Core.List.{List, []}
use Rattle.std.proofs.Math.Option.{Option, none, some}
use borrow.Author.Tests.{eq-eqb, ne_eqb}
use Rattle.page.specs.Parsers.{Parser, rest, many, strip}
use Rattle.page.specs.ParserLaws.{rest-past, rest_more}
use Rattle.page.specs.Many.{many-none}
use Rattle.page.specs.Printed.{Takes}
use Rattle.page.specs.PageText.{row-takes, clue-takes, call-takes}
use Rattle.page.specs.Places.{all_from, end_from, end_of}
use Rattle.page.specs.declared.Line.{Line}
use Rattle.page.specs.declared.Line.TheVariants.{Row, Clue as ClueLine, Call}

-- ParserLaws: what was answered says what the parser gives
pub told_same : {R O : Type 0} (f : R → O) {r k : R} {o : O} → f r ≡ o → r ≡ k → o ≡ f k
told_same f e h = sym e ∙ ap f h

-- words: `word` is read up to i, and its rest stands or fails at p
module _ (word s : List ℕ) (i p : ℕ) where
  pub strip-end : length word ≤ i → strip (rest word i) (rest s p) ≡ some (rest s p)
  unfolding strip
  strip-end h = rw (rest-past word i h)

  pub strip-past : i < length word → length s ≤ p → strip (rest word i) (rest s p) ≡ none
  unfolding strip
  strip-past h l = rw (rest_more word i h, rest-past s p l)

  pub strip-not : i < length word → p < length s → (get_or s p 0 ≡ get_or word i 0 → ⊥)
      → strip (rest word i) (rest s p) ≡ none
  unfolding strip
  strip-not h l n = rw (rest_more word i h, rest_more s p l, ne_eqb (get_or s p 0) (get_or word i 0) n)

  pub strip-more : i < length word → p < length s → get_or s p 0 ≡ get_or word i 0
      → strip (rest word i) (rest s p) ≡ strip (rest word (i + 1)) (rest s (p + 1))
  unfolding strip
  strip-more h l e = rw (rest_more word i h, rest_more s p l, eq-eqb (get_or s p 0) (get_or word i 0) e)

-- Many, FormLaws: past the end nothing is read
module _ {A : Type 0} {r : Parser A} (T : Takes 1 r) (s : List ℕ) (p : ℕ) where
  none-past : length s ≤ p → r (rest s p) ≡ none
  none-past h = go (r (rest s p)) refl
    where
      go : (o : Option (A × List ℕ)) → r (rest s p) ≡ o → o ≡ none
      go none e = refl
      go (some x) e = let q = rest-past s p h in absurd (omega (arith, ap length q, T _ x.0 x.1 e))

  pub many-past : length s ≤ p → many r (rest s p) ≡ ([], rest s p)
  many-past h = many-none T (rest s p) (none-past h)

  pub from_past : length s ≤ p → all_from r s p ≡ []
  unfolding all_from
  from_past h = ap (λ (m : List A × List ℕ). m.0) (many-past h)

  pub end-past : length s ≤ p → end_from r s p ≡ rest s p
  unfolding end_from
  end-past h = ap (λ (m : List A × List ℕ). m.1) (many-past h)

pub lines-past : (l : Line) (s : List ℕ) (p : ℕ) → length s ≤ p → end_of l s p ≡ rest s p
unfolding end_of
lines-past Row s p h = end-past row-takes s p h
lines-past ClueLine s p h = end-past clue-takes s p h
lines-past Call s p h = end-past call-takes s p h
