-- Laws of the lines that follow each other, of the clues' test and of the whole page, one for each return of the code.
use Rattle.std.specs.Prelude.{◌≡◌, true, false, ℕ, ◌-◌, ◌<◌, ◌≤◌}
use Rattle.std.proofs.Math.Path.{refl, ap}
use Rattle.std.proofs.Common.{sym, ◌∙◌, le-leb}
use mathlib.Core.List.{List, [], ◌∷◌}
use Rattle.std.proofs.Math.Option.{Option, none, some, none-ne-some, some-injective}
use Rattle.std.proofs.Math.ListN.{length}
use Rattle.std.proofs.lemmas.Bool.{lt-leb}
use Rattle.lists.specs.Lists.{any}
use Rattle.page.specs.declared.Clue.{Clue}
use Rattle.page.specs.Parsers.{Parser, rest, also, onto, lead, both, map_r, rep, give, strip}
use Rattle.page.specs.Grammar.{page_word, end_word, size, row, clue, call, close, sheet, on_page, same_cell}
use Rattle.page.specs.Grammar.{clues_fit, whole, page_of}
use Rattle.page.specs.declared.Line.{Line}
use Rattle.page.specs.declared.Line.TheVariants.{Row, Clue as ClueLine, Call}
use Rattle.page.specs.Places.{all_from, end_from, after_read, after_line, end_of}
use Rattle.page.specs.ParserLaws.{rest-past, rest_more}
use Rattle.page.specs.Printed.{Takes}
use Rattle.page.specs.Many.{many-none, many_more, passes}
use Rattle.page.specs.PageText.{row-takes, clue-takes, call-takes}

-- what a parser reads from place p on, and what is left
module _ {A : Type 0} {r : Parser A} (T : Takes 1 r) (s : List ℕ) (p : ℕ) where
  pub from-none : r (rest s p) ≡ none → all_from r s p ≡ []
  unfolding all_from
  from-none e = ap (λ (m : List A × List ℕ). m.0) (many-none T (rest s p) e)

  pub from_more : (a : A) (q : ℕ) → r (rest s p) ≡ some (a, rest s q) → all_from r s p ≡ a ∷ all_from r s q
  unfolding all_from
  from_more a q e = ap (λ (m : List A × List ℕ). m.0) (many_more T (rest s p) a (rest s q) e)

  pub end_none : r (rest s p) ≡ none → end_from r s p ≡ rest s p
  unfolding end_from
  end_none e = ap (λ (m : List A × List ℕ). m.1) (many-none T (rest s p) e)

  pub end_more : (a : A) (q : ℕ) → r (rest s p) ≡ some (a, rest s q) → end_from r s p ≡ end_from r s q
  unfolding end_from
  end_more a q e = ap (λ (m : List A × List ℕ). m.1) (many_more T (rest s p) a (rest s q) e)

  -- the same, from what is left alone
  pub form-left-none : after_read (r (rest s p)) ≡ none → end_from r s p ≡ rest s p
  unfolding after_read
  form-left-none e = go (r (rest s p)) refl e
    where
      go : (o : Option (A × List ℕ)) → r (rest s p) ≡ o → after_read o ≡ none → end_from r s p ≡ rest s p
      go none q f = end_none q
      go (some x) q f = absurd (none-ne-some _ (sym f))

  pub left-more : (q : ℕ) → after_read (r (rest s p)) ≡ some (rest s q)
      → (end_from r s p ≡ end_from r s q) × (length s - q < length s - p)
  unfolding after_read
  left-more q e = go (r (rest s p)) refl e
    where
      go : (o : Option (A × List ℕ)) → r (rest s p) ≡ o → after_read o ≡ some (rest s q)
          → (end_from r s p ≡ end_from r s q) × (length s - q < length s - p)
      go none h f = absurd (none-ne-some _ f)
      go (some x) h f =
          let t : x.1 ≡ rest s q = some-injective x.1 (rest s q) f in
          let k : r (rest s p) ≡ some (x.0, rest s q) = h ∙ ap (λ (l : List ℕ). some (x.0, l)) t in
          (end_more x.0 q k, passes T s p q x.0 k)

-- lines of one kind after each other
module _ (l : Line) (s : List ℕ) (p : ℕ) where
  pub lines_none : after_line l (rest s p) ≡ none → end_of l s p ≡ rest s p
  unfolding end_of after_line
  lines_none e = go l e
    where
      go : (k : Line) → after_line k (rest s p) ≡ none → end_of k s p ≡ rest s p
      go Row = form-left-none row-takes s p
      go ClueLine = form-left-none clue-takes s p
      go Call = form-left-none call-takes s p

  pub lines_more : (q : ℕ) → after_line l (rest s p) ≡ some (rest s q)
      → (end_of l s p ≡ end_of l s q) × (length s - q < length s - p)
  unfolding end_of after_line
  lines_more q e = go l e
    where
      go : (k : Line) → after_line k (rest s p) ≡ some (rest s q)
          → (end_of k s p ≡ end_of k s q) × (length s - q < length s - p)
      go Row = left-more row-takes s p q
      go ClueLine = left-more clue-takes s p q
      go Call = left-more call-takes s p q

-- a list of clues
module _ {cs : List Clue} where
  pub fit_none : (h w : ℕ) → cs ≡ [] → clues_fit h w cs ≡ true
  unfolding clues_fit
  fit_none h w e = rw e

  module _ (h w : ℕ) (c : Clue) (ds : List Clue) (e : cs ≡ c ∷ ds) where
    pub fit-off : on_page h w c ≡ false → clues_fit h w cs ≡ false
    unfolding clues_fit
    fit-off f = rw (e, f)

    pub fit-twice : on_page h w c ≡ true → any (same_cell c) ds ≡ true → clues_fit h w cs ≡ false
    unfolding clues_fit
    fit-twice f g = rw (e, f, g)

    pub fit-more : on_page h w c ≡ true → any (same_cell c) ds ≡ false → clues_fit h w cs ≡ clues_fit h w ds
    unfolding clues_fit
    fit-more f g = rw (e, f, g)

-- the whole page
pub too_long : (s : List ℕ) → 65536 < length s → page_of s ≡ none
unfolding page_of
too_long s h = rw (lt-leb (length s) 65536 h)

module _ (s : List ℕ) (short : length s ≤ 65536) where
  pub no-page : strip page_word s ≡ none → page_of s ≡ none
  unfolding page_of whole sheet map_r also lead onto
  no-page e = rw (le-leb (length s) 65536 short, e)

  module _ (a : List ℕ) (p : strip page_word s ≡ some a) where
    pub no_size : size a ≡ none → page_of s ≡ none
    unfolding page_of whole sheet map_r also lead onto both
    no_size e = rw (le-leb (length s) 65536 short, p, e)

-- the size was read, and the rows, clues and calls end at these places
pub record Body (s : List ℕ) (h w rows clues calls end : ℕ) : Type 0 where
  pub short : length s ≤ 65536
  pub start : List ℕ
  pub paged : strip page_word s ≡ some start
  pub sized : size start ≡ some ((h, w), rest s rows)
  pub rowed : rest s clues ≡ end_from row s rows
  pub clued : rest s calls ≡ end_from clue s clues
  pub called : rest s end ≡ end_from call s calls

module _ {s : List ℕ} {h w rows clues calls end : ℕ} (b : Body s h w rows clues calls end) where
  pub no_end : strip end_word (rest s end) ≡ none → page_of s ≡ none
  unfolding page_of whole sheet map_r also lead onto both rep close end_from
  no_end e = rw (le-leb (length s) 65536 b.short, b.paged, b.sized, ← b.rowed, ← b.clued, ← b.called, e)

  module _ (last : ℕ) (e : strip end_word (rest s end) ≡ some (rest s last)) where
    -- all lines are read, and what is left is that after `last`
    pub lines : page_of s ≡ whole (some (
      record {
        height = h;
        width = w;
        rows = all_from row s rows;
        clues = all_from clue s clues;
        calls = all_from call s calls;
      },
      rest s last,
    ))
    unfolding page_of whole sheet map_r also lead onto both rep close give end_from all_from
    lines = rw (le-leb (length s) 65536 b.short, b.paged, b.sized, ← b.rowed, ← b.clued, ← b.called, e)

    pub more_left : last < length s → page_of s ≡ none
    unfolding whole
    more_left l = lines ∙ rw (rest_more s last l)

    pub misfit : length s ≤ last → clues_fit h w (all_from clue s clues) ≡ false → page_of s ≡ none
    unfolding whole
    misfit l f = lines ∙ rw (rest-past s last l, f)

    pub good : length s ≤ last → clues_fit h w (all_from clue s clues) ≡ true
        → page_of s ≡ some (record {
          height = h;
          width = w;
          rows = all_from row s rows;
          clues = all_from clue s clues;
          calls = all_from call s calls;
        })
    unfolding whole
    good l f = lines ∙ rw (rest-past s last l, f)
