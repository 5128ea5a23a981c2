-- A board as the rules see it: its puzzle, its borders and its sequence of literals, of boards that are not alien.
use Rattle.std.specs.Prelude.{◌≡◌, refl, Bool, not, List, [], ℤ, pos, length, Ok}
use Rattle.std.proofs.Math.Path.{ap, sym}
use Rattle.std.proofs.Common.{◌∙◌, arith}
use Rattle.std.proofs.Math.Bool.{true, false, not-not}
use Prim.Native.Nat.{ℕ, zero, suc, ◌<◌, ◌≤◌}
use Rattle.std.proofs.Math.Decide.{dec_lt}
use borrow.Author.Tests.{eq-eqb, ne_eqb, eqb-true, eqb-false, not-false}
use Rattle.std.proofs.Math.Dec.{eqb}
use Rattle.std.proofs.Math.ListN.{get_or}
use Rattle.lists.specs.Lists.{◌∈◌}
use Rattle.lists.specs.Table.{table}
use Rattle.lists.specs.TestLaws.{any_some, any-fails}
use Rattle.lists.specs.CountLaws.{count-cong}
use Rattle.lists.specs.TableLaws.{length-table, table-find}
use Rattle.lists.specs.PaddedLaws.{get_d-padded}
use Rattle.rules.specs.declared.Literal.{Literal}
use Rattle.rules.specs.declared.Tally.{Tally}
use Rattle.rules.specs.Page.{decided, is_undecided}
use Rattle.rules.specs.Flat.{flat}
use Rattle.rules.specs.Codes.{state_of, side_in, states_in, colours_in, clue_of, clues_in, puzzle_in}
use Rattle.rules.specs.Check.{undecided_count}
use Rattle.rules.specs.Book.{states, names}
use Rattle.laws.specs.BookLaws.{states-none, names_table, states-all}
use Rattle.board.specs.declared.Board.{Board}
use Rattle.board.specs.Alien.{stacked, code_count, border_count_of}
use Rattle.board.specs.Board.{fresh_board, returned, decide_of, undo_of}
use Rattle.board.specs.View.{puzzle_of, states_of, literal_in, literals_of}
use Rattle.board.specs.NativeLaws.{Native}
use Rattle.board.proofs.DecideLaws.{decided-is, undone-is}

-- ---- codes
state-side : (v : ℕ) → v ≤ 2 → (v ≡ 0 → ⊥) → state_of v ≡ decided (side_in v)
state-side zero h k = absurd (k refl)
state-side (suc zero) h k = refl
state-side (suc (suc zero)) h k = refl
state-side (suc (suc (suc v))) h k = absurd (let z : suc (suc (suc v)) ≤ 2 = h in omega arith)

free-zero : (v : ℕ) → v ≤ 2 → is_undecided (state_of v) ≡ eqb v 0
free-zero zero h = refl
free-zero (suc zero) h = refl
free-zero (suc (suc zero)) h = refl
free-zero (suc (suc (suc v))) h = absurd (let z : suc (suc (suc v)) ≤ 2 = h in omega arith)

-- ---- the puzzle
-- a fresh board has the puzzle that it was made from
pub fresh-puzzle : (h w : ℕ) (cs : List ℕ) (ks : List ℤ) → puzzle_of (fresh_board h w cs ks) ≡ puzzle_in h w cs ks
unfolding puzzle_of colours_in clues_in
fresh-puzzle h w cs ks =
    λ i.
    record {
      page = flat h w;
      colour = λ c. ap (λ v. eqb v 1) (get_d-padded 1024 0 cs c) i;
      clue = λ c. ap clue_of (get_d-padded 1024 (pos 0) ks c) i;
    }

-- decide and undo keep it
pub decided-puzzle : (b : Board) (l : Literal) {d : Board} → decide_of b l ≡ returned (Ok tt) d
    → puzzle_of d ≡ puzzle_of b
unfolding puzzle_of
decided-puzzle b l e = ap puzzle_of (decided-is e).is

pub undone-puzzle : (b : Board) {d : Board} → undo_of b ≡ returned (Ok tt) d → puzzle_of d ≡ puzzle_of b
unfolding puzzle_of
undone-puzzle b e = ap puzzle_of (undone-is e).is

-- ---- the sequence
pub literals-fresh : (h w : ℕ) (cs : List ℕ) (ks : List ℤ) → literals_of (fresh_board h w cs ks) ≡ []
unfolding literals_of table
literals-fresh h w cs ks = refl

pub literals-length : (b : Board) → length (literals_of b) ≡ b.count
unfolding literals_of
literals-length b = length-table b.count _

pub names-stacked : (b : Board) (x : ℕ) → names (literals_of b) x ≡ stacked b.stack b.count x
unfolding literals_of stacked
names-stacked b x = names_table b.count _ x

pub stacked-at : (s : List ℕ) (n i : ℕ) → i < n → stacked s n (get_or s i 0) ≡ true
unfolding stacked
stacked-at s n i h = any_some n _ i h (eq-eqb (get_or s i 0) (get_or s i 0) refl)

module _ (b : Board) (N : Native b) where
  pub code-small : (x : ℕ) → get_or b.borders x 0 ≤ 2
  code-small x = go (dec_lt x (border_count_of b))
    where
      go : Dec (x < border_count_of b) → get_or b.borders x 0 ≤ 2
      go (yes h) = N.code x h
      go (no h) = let e = N.no_border x (omega arith) in omega arith

  stacked-is : (x : ℕ) → stacked b.stack b.count x ≡ not (eqb (get_or b.borders x 0) 0)
  unfolding stacked
  stacked-is x = go (dec_lt x (border_count_of b))
    where
      far : border_count_of b ≤ x → stacked b.stack b.count x ≡ false
      far h =
          any-fails b.count _
          (λ i l.
          ne_eqb (get_or b.stack i 0) x (λ z. let q : get_or b.stack i 0 ≡ x = z in omega (arith, N.entry i l)))

      go : Dec (x < border_count_of b)
          → stacked b.stack b.count x ≡ not (eqb (get_or b.borders x 0) 0)
      go (yes h) = sym (ap not (N.held x h) ∙ not-not (stacked b.stack b.count x))
      go (no h) = far (omega arith) ∙ sym (ap (λ v. not (eqb v 0)) (N.no_border x (omega arith)))

  -- the sequence names exactly the decided borders
  pub names-decided : (x : ℕ) → names (literals_of b) x ≡ not (eqb (get_or b.borders x 0) 0)
  names-decided x = names-stacked b x ∙ stacked-is x

  pub entry-held : (i : ℕ) → i < b.count → get_or b.borders (get_or b.stack i 0) 0 ≡ 0 → ⊥
  entry-held i h =
      eqb-false (get_or b.borders (get_or b.stack i 0) 0) 0
      (sym (not-not (eqb (get_or b.borders (get_or b.stack i 0) 0) 0))
      ∙ ap not (sym (stacked-is (get_or b.stack i 0)) ∙ stacked-at b.stack b.count i h))

  literal-holds : (l : Literal) → l ∈ literals_of b → states_of b l.border ≡ decided l.side
  unfolding literals_of states_of states_in
  literal-holds l m =
      let r = table-find b.count (λ i. literal_in b.borders (get_or b.stack i 0)) m in
      let n : ℕ = get_or b.stack r.0 0 in
      ap (λ (k : Literal). state_of (get_or b.borders k.border 0)) r.2
      ∙ state-side (get_or b.borders n 0) (code-small n) (entry-held r.0 r.1)
      ∙ ap (λ (k : Literal). decided k.side) (sym r.2)

  -- the board's borders are those of the rules' board with exactly the sequence's literals decided
  pub states-literals : states_of b ≡ states (literals_of b)
  unfolding states_of states_in
  states-literals = λ i x. sym (each x (names (literals_of b) x) refl) i
    where
      each : (x : ℕ) (t : Bool) → names (literals_of b) x ≡ t → states (literals_of b) x ≡ states_of b x
      each x true e = states-all (states_of b) (literals_of b) x literal-holds e
      each x false e =
          states-none (literals_of b) x e
          ∙ sym
          (ap state_of
          (eqb-true (get_or b.borders x 0) 0
          (not-false (eqb (get_or b.borders x 0) 0) (sym (names-decided x) ∙ e))))

  -- ---- the count of undecided borders
  -- "The number after pass is the stored one, and it still equals the borders counted"
  pub pass-stored : undecided_count (puzzle_of b) (states_of b) ≡ b.tally.undecided
  unfolding undecided_count puzzle_of states_of states_in flat code_count
  pass-stored =
      count-cong (border_count_of b) (λ x. is_undecided (states_in b.borders x))
      (λ x. eqb (get_or b.borders x 0) 0) (λ x h. free-zero (get_or b.borders x 0) (code-small x))
      ∙ sym (ap (λ (t : Tally). t.undecided) N.tally)
