-- A run of calls from a board whose stack is empty: after any calls the board is the one with the book's sequence
-- decided, and the answers and the memories are the book's.
--
--   Built start ls b    decides of the literals ls, all of them done, lead from start to b
--   Facts start ls b    what such a board has
--   Bare start          a board that is not alien, with an empty stack
--   built-step          a call leads to the board with the book's sequence decided
--   built-looked        the board that an answered call looked at is the one with the sequence that the book looked at
--   step-told, step-written, step-tally  the answer of a call is the book's, the memory afterwards what that answer
--                                        says, and the record afterwards the book's
--   built-after         and so does a list of calls
--   run-told            the answers of a list of calls are the book's
--   run-written         the memories afterwards are what the book's answers say
--   run-tallies         the records afterwards are the book's
--   run-append          the run of a list that is followed by another
use Rattle.std.specs.Prelude.{◌≡◌, Bool, true, false, cond, eqb, ltb, get_or, Ok, Err}
use Rattle.std.proofs.Math.Path.{refl, ap, ap₂, sym, subst}
use Rattle.std.proofs.Common.{◌∙◌, ltb-true, eqb-true}
use Rattle.std.proofs.Math.Bool.{not}
use mathlib.Core.List.{List, [], ◌∷◌, ◌++◌, map}
use Rattle.std.proofs.Math.Option.{Option, some, none as unlent}
use Prim.Native.Nat.{ℕ}
use Rattle.std.proofs.Math.ListN.{length}
use Rattle.rules.specs.declared.Literal.{Literal}
use Rattle.rules.specs.declared.Tally.{Tally}
use Rattle.rules.specs.declared.Call.{Call}
use Rattle.rules.specs.declared.Call.TheVariants.{Decide, Undo, Check, Preview}
use Rattle.rules.specs.Page.{Puzzle}
use Rattle.rules.specs.Flat.{flat}
use Rattle.rules.specs.Codes.{code_of}
use Rattle.rules.specs.Check.{Verdict}
use Rattle.rules.specs.Book.{Asked, ask, Reply, refused, done, answered, Book, names, with_last, without_last, looked}
use Rattle.rules.specs.Book.{done_book, after_by, tally_of, same_tally, lent_after, tally_at, disagrees, decide_reply}
use Rattle.rules.specs.Book.{reply_to}
use Rattle.rules.specs.Book.{reply, after, tally_after, book_from, replies_from, tallies_from}
use Rattle.laws.specs.CodeLaws.{side-in}
use Rattle.laws.specs.BookLaws.{without-last, alien-after, agreed-after, undo-takes, check-leaves, preview-leaves}
use Rattle.laws.specs.BookLaws.{preview-decides}
use Rattle.board.specs.declared.Board.{Board}
use Rattle.board.specs.declared.Refusal.TheVariants.{Border, Taken}
use Rattle.board.specs.declared.Returned.{Returned}
use Rattle.board.specs.Alien.{border_count_of, is_alien}
use Rattle.board.specs.Board.{returned, tally_more, pushed, decide_refusal, ended_by, decide_of, undo_of, Typed}
use Rattle.board.specs.Accepted.{decides_of}
use Rattle.board.specs.View.{puzzle_of, literals_of, reply_of}
use Rattle.board.specs.Cases.{decide-done, undo-bare}
use Rattle.board.specs.TallyLaws.{same-is, tally-none, tally-last}
use Rattle.board.specs.NativeLaws.{native-has, tally-bare}
use Rattle.board.proofs.DecideLaws.{done-returned, decided-is, decide-keeps, decided-typed, undo-decide}
use Rattle.board.proofs.ViewLaws.{decided-puzzle, literals-length, names-decided}
use Rattle.board.proofs.LiteralLaws.{literals-decided}
use Rattle.board.proofs.StepLaws.{decide-reply, reply-done}
use Rattle.calls.specs.Answers.{told, memory_as, call_of, call_memory}
use Rattle.calls.specs.Counted.{counted_of, counted_memory}
use Rattle.calls.proofs.CallLaws.{call-told, call-written}
use Rattle.calls.proofs.CountedLaws.{counted_same, counted-other}
use Rattle.demand3.specs.Runs.{Lent, asked_by, Given, stepped_on, memory_on, tally_on, given_by, told_by, looked_on}
use Rattle.demand3.specs.Runs.{next_board, board_after, run_from, memories}

pub data Built (start : Board) : List Literal → Board → Type 0 where
  none : Built start [] start
  more : {ls : List Literal} {b : Board} (l : Literal) (d : Board) → Built start ls b
      → decide_of b l ≡ returned (Ok tt) d
      → Built start (with_last ls l) d

pub record Facts (start : Board) (ls : List Literal) (b : Board) : Type 0 where
  pub known : is_alien b ≡ false
  pub typed : Typed b
  pub puzzle : puzzle_of b ≡ puzzle_of start
  pub stack : literals_of b ≡ ls
  pub tally : b.tally ≡ tally_at (puzzle_of start) ls
  pub only : b ≡ decides_of start ls

pub record Bare (start : Board) : Type 0 where
  pub known : is_alien start ≡ false
  pub typed : Typed start
  pub empty : literals_of start ≡ []

decides-last : (b : Board) (ls : List Literal) (l : Literal)
    → (decide_of (decides_of b ls) l).board ≡ decides_of b (with_last ls l)
unfolding decides_of
decides-last b [] l = refl
decides-last b (k ∷ ls) l = decides-last (decide_of b k).board ls l

module _ (start : Board) (S : Bare start) where
  borders-are : (b : Board) → puzzle_of b ≡ puzzle_of start
      → (puzzle_of start).page.borders ≡ border_count_of b
  unfolding puzzle_of flat
  borders-are b e = ap (λ (Z : Puzzle). Z.page.borders) (sym e)

  pub built-facts : {ls : List Literal} {b : Board} → Built start ls b → Facts start ls b
  unfolding decides_of
  built-facts none =
      record {
        known = S.known;
        typed = S.typed;
        puzzle = refl;
        stack = S.empty;
        tally =
            tally-bare start (native-has start S.known) (sym (literals-length start) ∙ ap length S.empty)
            ∙ sym (tally-none (puzzle_of start) ∙ ap (λ m. tally_of m 0 0) (borders-are start refl));
        only = refl;
      }
  built-facts (more {ls} {b} l d B e) =
      let f = built-facts B in
      record {
        known = decide-keeps b l f.typed.borders f.typed.stack e;
        typed = decided-typed b l f.typed e;
        puzzle = decided-puzzle b l e ∙ f.puzzle;
        stack = literals-decided b l f.typed e ∙ ap (λ k. with_last k l) f.stack;
        tally =
            ap (λ (x : Board). x.tally) (decided-is e).is
            ∙ ap (tally_more b.tally) (side-in l.side)
            ∙ ap (λ (t : Tally). tally_more t l.side) f.tally
            ∙ sym (tally-last (puzzle_of start) ls l);
        only =
            ap (λ (r : Returned). r.board) (sym e)
            ∙ ap (λ c. (decide_of c l).board) f.only
            ∙ decides-last start ls l;
      }

  -- ---- one call
  built-decide : (k : Book) {b : Board} → Built start k.sequence b → (l : Literal) (n : ℕ)
      → Built start (after (puzzle_of start) k (ask n (Decide l))).sequence (decide_of b l).board
  unfolding decide_of decide_refusal after reply_to decide_reply done_book
  built-decide k {b} B l n =
      let f = built-facts B in
      let named : names k.sequence l.border ≡ not (eqb (get_or b.borders l.border 0) 0) =
      ap (λ ls. names ls l.border) (sym f.stack) ∙ names-decided b (native-has b f.known) l.border in
      rw (f.known, borders-are b f.puzzle, named)
      (go f.known (ltb l.border m) (eqb (get_or b.borders l.border 0) 0) refl refl)
    where
      m : ℕ
      m = border_count_of b

      go : is_alien b ≡ false → (x y : Bool) → ltb l.border m ≡ x → eqb (get_or b.borders l.border 0) 0 ≡ y
          → Built start
          (after_by (cond x (cond (not y) (refused 7) done) (refused 6)) k
          (record { sequence = with_last k.sequence l })).sequence
          (ended_by b (pushed b l.border (code_of l.side)) (cond x (cond y (Ok tt) (Err Taken)) (Err Border))).board
      go t true true p q =
          more l (pushed b l.border (code_of l.side)) B
          (sym (decide-done b l t (ltb-true l.border m p) (eqb-true (get_or b.borders l.border 0) 0 q)))
      go t true false p q = B
      go t false true p q = B
      go t false false p q = B

  built-undo : {ls : List Literal} {b : Board} → Built start ls b → Built start (without_last ls) (undo_of b).board
  unfolding without_last
  built-undo none =
      rw (← (undo-bare start S.known (sym (literals-length start) ∙ ap length S.empty))) none
  built-undo (more {ls} {b} l d B e) =
      rw (without-last ls l, undo-decide b l (built-facts B).typed e) B

  built-call : (k : Book) {b : Board} → Built start k.sequence b → (c : Call) (m : List ℕ)
      → Built start (after (puzzle_of start) k (ask (length m) c)).sequence (call_of b c m).board
  unfolding call_of
  built-call k B (Decide l) m = built-decide k B l (length m)
  built-call k {b} B Undo m =
      subst (λ ls. Built start ls (undo_of b).board) (sym (undo-takes (puzzle_of start) k (length m))) (built-undo B)
  built-call k {b} B Check m =
      subst (λ (j : Book). Built start j.sequence b) (sym (check-leaves (puzzle_of start) k (length m))) B
  built-call k {b} B (Preview l) m =
      subst (λ (j : Book). Built start j.sequence b) (sym (preview-leaves (puzzle_of start) k (length m) l)) B

  -- with a record or none
  abbrev asks : Call → List ℕ → Option Tally → Asked
  asks c m t = record { call = c; places = length m; tally = t }

  module _ (k : Book) {b : Board} (B : Built start k.sequence b) (c : Call) (m : List ℕ) where
    abbrev Z : Puzzle
    Z = puzzle_of start

    -- a record agrees with the book's sequence exactly if it does with the board
    same-told : (t : Tally) (x : Bool) → same_tally t b.tally ≡ x → disagrees Z k.sequence (some t) ≡ not x
    same-told t x e = ap (λ (u : Tally). not (same_tally t u)) (sym (built-facts B).tally) ∙ ap not e

    built-lent : (t : Option Tally) → Built start (after Z k (asks c m t)).sequence (stepped_on b c m t).board
    built-lent unlent = built-call k B c m
    built-lent (some t) = go (same_tally t b.tally) refl
      where
        go : (x : Bool) → same_tally t b.tally ≡ x
            → Built start (after Z k (asks c m (some t))).sequence (counted_of b c t m).stepped.board
        go true e =
            rw ((counted_same b c t m e).0, agreed-after Z k (asks c m (some t)) (same-told t true e))
            (built-call k B c m)
        go false e = rw ((counted-other b c t m e).0, alien-after Z k (asks c m (some t)) (same-told t false e)) B

    plain-told : told (call_of b c m).answer (call_memory b c m) ≡ reply_to Z k.sequence (length m) c
    plain-told =
        let f = built-facts B in
        call-told b f.known f.typed c m
        ∙ ap₂ (λ (Y : Puzzle) (ls : List Literal). reply_to Y ls (length m) c) f.puzzle f.stack

    told-lent : (t : Option Tally)
        → told (stepped_on b c m t).answer (memory_on b c m t) ≡ reply Z k (asks c m t)
    told-lent unlent = plain-told
    told-lent (some t) = go (same_tally t b.tally) refl
      where
        go : (x : Bool) → same_tally t b.tally ≡ x
            → told (counted_of b c t m).stepped.answer (counted_memory b c t m) ≡ reply Z k (asks c m (some t))
        go true e =
            let r = counted_same b c t m e in rw (r.0, r.1, same-told t true e) plain-told
        go false e = rw ((counted-other b c t m e).0, same-told t false e)

    plain-written : call_memory b c m ≡ memory_as m (reply_to Z k.sequence (length m) c)
    plain-written =
        let f = built-facts B in
        call-written b f.known f.typed c m
        ∙ ap₂ (λ (Y : Puzzle) (ls : List Literal). memory_as m (reply_to Y ls (length m) c)) f.puzzle f.stack

    written-lent : (t : Option Tally) → memory_on b c m t ≡ memory_as m (reply Z k (asks c m t))
    written-lent unlent = plain-written
    written-lent (some t) = go (same_tally t b.tally) refl
      where
        go : (x : Bool) → same_tally t b.tally ≡ x
            → counted_memory b c t m ≡ memory_as m (reply Z k (asks c m (some t)))
        go true e = rw ((counted_same b c t m e).1, same-told t true e) plain-written
        go false e = rw ((counted-other b c t m e).1, same-told t false e)

    -- a call that is not done leaves the board's tally
    same-tally : (t : Tally) → same_tally t b.tally ≡ true → after Z k (ask (length m) c) ≡ k
        → ◌≡◌ {A = Option Tally} (some (call_of b c m).board.tally) (some t)
    same-tally t e q =
        ap some
        ((built-facts (built-call k B c m)).tally
        ∙ ap (λ (j : Book). tally_at Z j.sequence) q
        ∙ sym (built-facts B).tally
        ∙ sym (same-is t b.tally e))

    -- the board's tally after a call that a record was lent to, by its reply
    kept-tally : (t : Tally) → same_tally t b.tally ≡ true → (r : Reply) → reply_to Z k.sequence (length m) c ≡ r
        → some (call_of b c m).board.tally ≡ lent_after r (some t) (tally_at Z (after Z k (ask (length m) c)).sequence)
    unfolding after
    kept-tally t e (refused n) q = same-tally t e (rw q)
    kept-tally t e done q = ap some (built-facts (built-call k B c m)).tally
    kept-tally t e (answered g) q = same-tally t e (rw q)

    tally-lent : (t : Option Tally) → tally_on b c m t ≡ tally_after Z k (asks c m t)
    tally-lent unlent = refl
    tally-lent (some t) = go (same_tally t b.tally) refl
      where
        go : (x : Bool) → same_tally t b.tally ≡ x
            → some (counted_of b c t m).tally ≡ tally_after Z k (asks c m (some t))
        go true e =
            rw (
              (counted_same b c t m e).0,
              agreed-after Z k (asks c m (some t)) (same-told t true e),
              same-told t true e,
            )
            (kept-tally t e (reply_to Z k.sequence (length m) c) refl)
        go false e = rw ((counted-other b c t m e).0, same-told t false e)

  pub built-step : (k : Book) {b : Board} → Built start k.sequence b → (c : Lent)
      → Built start (after (puzzle_of start) k (asked_by c)).sequence (next_board b c)
  built-step k B c = built-lent k B c.call c.memory c.tally

  -- what an answered call looked at
  pub built-looked : {ls : List Literal} {b : Board} → Built start ls b → (c : Call) (n : ℕ) (f : Verdict)
      → reply_to (puzzle_of start) ls n c ≡ answered f → Built start (looked ls c) (looked_on b c)
  built-looked B (Decide l) n f e = B
  built-looked B Undo n f e = B
  built-looked B Check n f e = B
  built-looked {ls} {b} B (Preview l) n f e =
      let g = built-facts B in
      let d : reply_of (decide_of b l).outcome ≡ done =
      decide-reply b g.known l
      ∙ ap₂ (λ (Z : Puzzle) (ks : List Literal). decide_reply Z ks l) g.puzzle g.stack
      ∙ preview-decides (puzzle_of start) ls n l f e in
      more l (decide_of b l).board B (done-returned (decide_of b l) (reply-done (decide_of b l).outcome d))

  pub step-told : (k : Book) {b : Board} → Built start k.sequence b → (c : Lent)
      → told_by (given_by b c) ≡ reply (puzzle_of start) k (asked_by c)
  step-told k B c = told-lent k B c.call c.memory c.tally

  step-written : (k : Book) {b : Board} → Built start k.sequence b → (c : Lent)
      → (given_by b c).memory ≡ memory_as c.memory (reply (puzzle_of start) k (asked_by c))
  step-written k B c = written-lent k B c.call c.memory c.tally

  step-tally : (k : Book) {b : Board} → Built start k.sequence b → (c : Lent)
      → (given_by b c).tally ≡ tally_after (puzzle_of start) k (asked_by c)
  step-tally k B c = tally-lent k B c.call c.memory c.tally

  -- ---- a list of calls
  pub built-after : (k : Book) {b : Board} → Built start k.sequence b → (calls : List Lent)
      → Built start (book_from (puzzle_of start) k (map asked_by calls)).sequence (board_after b calls)
  unfolding book_from board_after
  built-after k B [] = B
  built-after k B (c ∷ calls) = built-after (after (puzzle_of start) k (asked_by c)) (built-step k B c) calls

  pub run-told : (k : Book) {b : Board} → Built start k.sequence b → (calls : List Lent)
      → map told_by (run_from b calls) ≡ replies_from (puzzle_of start) k (map asked_by calls)
  unfolding replies_from run_from
  run-told k B [] = refl
  run-told k B (c ∷ calls) =
      ap₂ (λ (r : Reply) (rs : List Reply). r ∷ rs) (step-told k B c)
      (run-told (after (puzzle_of start) k (asked_by c)) (built-step k B c) calls)

  pub run-written : (k : Book) {b : Board} → Built start k.sequence b → (calls : List Lent)
      → map (λ (g : Given). g.memory) (run_from b calls)
      ≡ memories calls (replies_from (puzzle_of start) k (map asked_by calls))
  unfolding replies_from run_from memories
  run-written k B [] = refl
  run-written k B (c ∷ calls) =
      ap₂ (λ (m : List ℕ) (ms : List (List ℕ)). m ∷ ms) (step-written k B c)
      (run-written (after (puzzle_of start) k (asked_by c)) (built-step k B c) calls)

  pub run-tallies : (k : Book) {b : Board} → Built start k.sequence b → (calls : List Lent)
      → map (λ (g : Given). g.tally) (run_from b calls) ≡ tallies_from (puzzle_of start) k (map asked_by calls)
  unfolding tallies_from run_from
  run-tallies k B [] = refl
  run-tallies k B (c ∷ calls) =
      ap₂ (λ (t : Option Tally) (ts : List (Option Tally)). t ∷ ts) (step-tally k B c)
      (run-tallies (after (puzzle_of start) k (asked_by c)) (built-step k B c) calls)

-- ---- a list of calls that is followed by another
pub run-append : (b : Board) (calls later : List Lent)
    → run_from b (calls ++ later) ≡ run_from b calls ++ run_from (board_after b calls) later
unfolding board_after run_from
run-append b [] later = refl
run-append b (c ∷ calls) later =
    ap (λ (gs : List Given). given_by b c ∷ gs) (run-append (next_board b c) calls later)
