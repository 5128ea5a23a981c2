-- The board of an accepted page: making it is not refused.
--
--   Clued k             the clue k is −1 or more, and at most 2147483647
--   page-board          the board that the code makes is the page's
--   page-accepted       its puzzle is accepted
use Rattle.std.specs.Prelude.{◌≡◌, refl, Bool, false, ◌&&◌, cond, List, [], ◌∷◌, eqb, pos, negsuc, get_or}
use Rattle.std.proofs.Common.{sym, arith, le-leb}
use Rattle.std.proofs.Math.Path.{ap}
use Rattle.std.proofs.Math.Bool.{true}
use Prim.Native.Nat.{ℕ, ◌*◌, ◌/◌, ◌%◌, ◌<◌}
use Rattle.std.proofs.Math.Decide.{dec_lt}
use Rattle.std.proofs.Math.IntN.{ℤ}
use Rattle.std.proofs.Math.ListN.{get_or-eq_default}
use Rattle.std.specs.Int.Signed.{le_z}
use Rattle.lists.specs.TableLaws.{get_d-table}
use Rattle.lists.specs.TestLaws.{all-every}
use Rattle.lists.specs.AnyAll.{all-get}
use Rattle.board.specs.declared.Returned.{Returned}
use Rattle.board.specs.Alien.{colours_right, clues_right}
use Rattle.board.specs.Accepted.{Accepted}
use Rattle.board.specs.Cases.{fresh-done}
use Rattle.board.specs.ConditionLaws.{size_is, cells-of}
use Rattle.page.specs.declared.Clue.{Clue}
use Rattle.page.specs.Grammar.{Sheet}
use Rattle.page.specs.Judge.{accepted, judgement_of, low, colours_of, clue_on, clues_of}
use Rattle.page.specs.PuzzleLaws.{colours-low}
use Rattle.page.specs.Many.{AllFit}
use Rattle.page.specs.PageText.{ClueFit}
use Rattle.transcript.specs.Left.{start_board, board_at}
use Rattle.page.proofs.JudgedLaws as judged
use Rattle.page.specs.PageTheorem as pages

-- the bounds of a page's clue: it is a number that the grammar reads, "at most 2147483647"
pub record Clued (k : ℤ) : Type 0 where
  pub least : le_z (negsuc 0) k ≡ true
  pub upto : le_z k (pos 2147483647) ≡ true

clued-on : (cs : List Clue) (y x : ℕ) → AllFit ClueFit cs → Clued (clue_on (negsuc 0) cs y x)
unfolding AllFit clue_on
clued-on [] y x f = record { least = refl; upto = refl }
clued-on (c ∷ cs) y x f = go (eqb y c.y && eqb x c.x) (clued-on cs y x f.1)
  where
    go : (b : Bool) → Clued (clue_on (negsuc 0) cs y x) → Clued (cond b (pos c.n) (clue_on (negsuc 0) cs y x))
    go true k = record { least = refl; upto = le-leb c.n 2147483647 f.0.1.1 }
    go false k = k

module _ (s : List ℕ) (p : Sheet) (e : judgement_of s ≡ accepted p) where
  page : pages.PagePuzzle s p
  page = judged.page-puzzle s p e

  pub page-board : board_at p ≡ start_board p
  unfolding board_at start_board page
  page-board =
      let P = page in
      rw (cells-of P.makes.size, P.colours, P.clues)

  clue-at : (i : ℕ) → i < p.height * p.width → Clued (get_or (clues_of p) i (pos 0))
  unfolding clues_of page
  clue-at i h =
      let f : ℕ → ℤ = λ j. clue_on (negsuc 0) p.clues (j / p.width) (j % p.width) in
      rw (get_d-table (p.height * p.width) f i (pos 0) h)
      (clued-on p.clues (i / p.width) (i % p.width) page.spells.fit.clues)

  colours-right : colours_right (colours_of p) (p.height * p.width) ≡ true
  unfolding colours_right colours_of low page
  colours-right =
      let l = page.colours_length in
      all-every (p.height * p.width) _
      (λ i h. all-get low (colours_of p) i 0 (colours-low p.rows page.makes.colours) (omega arith))

  clues-right : clues_right (clues_of p) (p.height * p.width) ≡ true
  unfolding clues_right
  clues-right = all-every (p.height * p.width) _ (λ i h. (clue-at i h).least)

  pub page-accepted : Accepted p.height p.width (colours_of p) (clues_of p)
  unfolding page
  page-accepted =
      let P = page in
      record {
        small = λ i. go i (dec_lt i (p.height * p.width));
        made =
            ap (λ (r : Returned). r.outcome)
            (sym (fresh-done p.height p.width (colours_of p) (clues_of p) (size_is P.makes.size)
            P.colours_length P.clues_length colours-right clues-right));
      }
    where
      go : (i : ℕ) → Dec (i < p.height * p.width) → le_z (get_or (clues_of p) i (pos 0)) (pos 2147483647) ≡ true
      go i (yes h) = (clue-at i h).upto
      go i (no h) =
          let n = page.clues_length in
          ap (λ (k : ℤ). le_z k (pos 2147483647)) (get_or-eq_default (clues_of p) (pos 0) (omega arith))
