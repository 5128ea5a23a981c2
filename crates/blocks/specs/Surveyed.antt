-- The census of the first cells of a list, over the arrays of a board.
use Rattle.std.specs.Prelude.{◌≡◌, List, [], ◌∷◌, ◌++◌, ℕ, ◌+◌, ◌<◌, ◌≤◌, eqb, ℤ, length, get_or, take}
use Rattle.std.proofs.Math.Path.{sym, ap}
use Rattle.std.proofs.Common.{◌∙◌, arith, length-take}
use Rattle.std.proofs.lemmas.List.{take_more}
use Rattle.std.proofs.Math.Nat.{le_trans}
use Rattle.lists.specs.Filters.{length-filter}
use Rattle.rules.specs.Codes.{colours_in, clues_in}
use Rattle.rules.specs.Groups.{entry}
use Rattle.blocks.specs.declared.Census.{Census}
use Rattle.blocks.specs.Censuses.{clue_in, of_colour, colour_part, census_of, no_census, next_census, census-none}
use Rattle.blocks.specs.Censuses.{census-more}

module _ (cs : List ℕ) (ks : List ℤ) (ids cells : List ℕ) where
  unfoldable pub surveyed : ℕ → Census
  surveyed i = census_of (colours_in cs) (clues_in ks) (entry ids) (take i cells)

  pub surveyed-none : no_census ≡ surveyed 0
  unfolding surveyed
  surveyed-none = sym (census-none (colours_in cs) (clues_in ks) (entry ids))

  -- one cell more
  pub surveyed-more : (i c : ℕ) → i < length cells → c ≡ get_or cells i 0
      → next_census (surveyed i) (eqb (get_or cs c 0) 1) (get_or ids c 0)
      (clue_in (clues_in ks c)) ≡ surveyed (i + 1)
  unfolding surveyed colours_in entry
  surveyed-more i c k e =
      sym
      (ap (census_of (colours_in cs) (clues_in ks) (entry ids))
      (take_more cells i 0 k ∙ ap (λ x. take i cells ++ (x ∷ [])) (sym e))
      ∙ census-more (colours_in cs) (clues_in ks) (entry ids) (take i cells) c)

  pub surveyed-size : (i : ℕ) → ((surveyed i).zero.size ≤ i) × ((surveyed i).one.size ≤ i)
  unfolding surveyed census_of colour_part of_colour
  surveyed-size i =
      let few : length (take i cells) ≤ i = simp length-take (omega arith) in
      (le_trans (length-filter _ (take i cells)) few, le_trans (length-filter _ (take i cells)) few)
