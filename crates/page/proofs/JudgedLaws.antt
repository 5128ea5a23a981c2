-- What is judged of a page.
--
--   judgement-number  the numbers with which a page is rejected
--   sample-accepted, draft-accepted  01's sample page, and a draft with the largest clue
--   page-puzzle, page-accepts  bytes are accepted as a page exactly where they are well formed and it makes a board
use Rattle.std.specs.Prelude.{◌≡◌, Bool, true, false, ◌&&◌, cond, length}
use Rattle.std.proofs.Common.{sym, ap, ◌∙◌}
use mathlib.Core.List.Memᴰ
use mathlib.Core.List.{List, [], ◌∷◌}
use Rattle.std.proofs.Math.Option.{Option, none, some}
use Prim.Native.Nat.{ℕ, suc, ◌+◌, ◌-◌, ◌<◌, ◌≤◌}
use Rattle.std.proofs.Math.Decide.{ℕ_discrete}
use native.Mathlib.Omega.{arith}
use Rattle.std.proofs.Math.Dec.{eqb}
use borrow.Author.Tests.{eq-eqb, ne_eqb, le-leb, lt-leb}
use Rattle.lists.specs.Lists.{◌∈◌, all}
use Rattle.lists.specs.Tests.{all_below}
use Rattle.lists.specs.TableLaws.{length-table}
use Rattle.lists.specs.Booleans.{and-fails}
use Rattle.lists.specs.TestLaws.{all-fails, all-every, all-at}
use Rattle.lists.specs.AnyAll.{all-table}
use Rattle.board.specs.Alien.{size_right}
use Rattle.page.specs.Grammar.{Sheet, page_of}
use Rattle.page.specs.Places.{digit_at, digits_in}
use Rattle.page.specs.Judge.{rejected, accepted, rows_fit, low, two_colours}
use Rattle.page.specs.Judge.{judge_sheet, judge_read, judgement_of}
use Rattle.page.specs.JudgeLaws.{rejected-is, sheet-number}
use Rattle.std.specs.Prelude.{◌≡◌, refl, List, [], ◌∷◌, ℕ}
use Rattle.lists.specs.Lists.{or_else, all, any}
use Rattle.rules.specs.declared.Side.TheVariants.{Wall, Open}
use Rattle.rules.specs.declared.Call.TheVariants.{Decide, Undo, Check}
use Rattle.page.specs.Parsers.{strip, also, onto, give, lead, followed, either, both, map_r, and_on, times, many}
use Rattle.page.specs.Parsers.{rep, digit, may_follow, number_on, number, with_digit, digits_on, digits}
use Rattle.page.specs.Grammar.{size, row, clue, side, decide_call, call, close, sheet, on_page, same_cell, clues_fit}
use Rattle.page.specs.Grammar.{Sheet, whole, page_of}
use Rattle.page.specs.Judge.{accepted, rows_fit, low, two_colours, judge_sheet, judge_read}
use Rattle.page.specs.Judge.{judgement_of}
use Rattle.page.specs.Examples.{sample, sample_page, draft, draft_page, both-accepted}
use Rattle.std.specs.Prelude.{◌≡◌, refl, Bool, true, false, cond, List, [], ◌∷◌, ℕ, ◌*◌, ◌≤◌, leb, length, take}
use Rattle.std.proofs.Common.{sym, ap, ◌∙◌, subst, append-nil, arith, le-leb, leb-true}
use Rattle.laws.specs.FlatLaws.{counts}
use Rattle.board.specs.ConditionLaws.{size_is}
use Rattle.page.specs.Grammar.{Sheet, clues_fit, sheet, whole, page_of}
use Rattle.page.specs.PageText.{show_sheet, SheetFit, sheet-prints}
use Rattle.page.specs.Judge.{accepted, judge_read, judgement_of, colours_of, clues_of}
use Rattle.page.specs.Judge.{colour_array, clue_array}
use Rattle.page.specs.JudgeLaws.{right, formed}
use Rattle.page.specs.PuzzleLaws.{Makes, makes, colours-length, colours-front, clues-length, clues-front}
use Rattle.page.specs.PageTheorem.{Spells, page-sound, PagePuzzle}

-- "a page gives 1 to 3, 10", and no other: "Number 11 is retired and not used again"
pub judgement-number : (s : List ℕ) (n : ℕ) → judgement_of s ≡ rejected n → n ∈ (10 ∷ 1 ∷ 2 ∷ 3 ∷ [])
unfolding judgement_of judge_read
judgement-number s n e = go (page_of s) e
  where
    go : (o : Option Sheet) → judge_read o ≡ rejected n → n ∈ (10 ∷ 1 ∷ 2 ∷ 3 ∷ [])
    go none q = Memᴰ.head (rejected-is 10 n q)
    go (some p) q = Memᴰ.tail (sheet-number p n q)

pub sample-accepted : judgement_of sample ≡ accepted sample_page
sample-accepted = both-accepted.0

-- "Such a page is to be loaded like any other"
pub draft-accepted : judgement_of draft ≡ accepted draft_page
draft-accepted = both-accepted.1

-- an accepted page is well formed and makes a board, and its arrays begin with the puzzle's lists
pub page-puzzle : (s : List ℕ) (p : Sheet) → judgement_of s ≡ accepted p → PagePuzzle s p
unfolding judgement_of judge_read
page-puzzle s p e = go (page_of s) refl e
  where
    all : page_of s ≡ some p → Makes p → PagePuzzle s p
    all h m =
        let k : Spells s p = page-sound s p h in
        let n : p.height * p.width ≤ 1024 = (counts m.size).cells in
        let l = colours-length p m.rows in
        record {
          spells = k;
          makes = m;
          cells = n;
          colours_length = l;
          clues_length = clues-length p;
          colours = colours-front p (p.height * p.width) l n;
          clues = clues-front p k.clues m.size.broad n;
        }

    go : (o : Option Sheet) → page_of s ≡ o → judge_read o ≡ accepted p → PagePuzzle s p
    go none h k = let z : ◌≡◌ {A = ℕ} 0 1 = cc in absurd (omega arith)
    go (some q) h k =
        let m = makes q p k in
        let j : Makes p = subst (λ (r : Sheet). Makes r) m.0 m.1 in
        all (h ∙ ap some m.0) j

-- a well formed page of a right size, right rows and two colours is accepted, whatever its clues: "Such a page is to be
-- loaded like any other"
pub page-accepts : (s : List ℕ) (p : Sheet) → page_of s ≡ some p → Makes p → judgement_of s ≡ accepted p
page-accepts s p e m = formed s p e ∙ right p (size_is m.size) m.rows m.colours
