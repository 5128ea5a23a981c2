-- Demand 3 holds, for every accepted puzzle and every list of calls.
--
--   answered-book, answered-run   what a check of the run answers is what the book answers, and back
--   ruled-book, ruled-run         a setting is ruled out by the run exactly if it is by the book
--   stood-book, stood-run         a setting stood at a check of the run exactly if it did in the book
--   preview-handed                a preview's reason counts as handed out, on the copy
--   preview-stood                 a full setting on the copy counts as one that stood at the check
--   from-book                     demand 3 for the book gives demand 3 for the run
--   demand3                       the claim, for every accepted puzzle and every list
use Rattle.std.specs.Prelude.{◌≡◌, refl, ◌↔◌, List, [], ◌∷◌, ◌++◌, map, ℕ, ◌≤◌, ℤ, length}
use Rattle.std.proofs.Common.{ap, ap₂, sym, subst, ◌∙◌, append_assoc, arith}
use Rattle.std.proofs.lemmas.List.{map-append}
use Rattle.rules.specs.declared.Literal.{Literal}
use Rattle.rules.specs.declared.Call.TheVariants.{Preview}
use Rattle.rules.specs.Page.{State, Contains}
use Rattle.rules.specs.Rules.{Solution}
use Rattle.rules.specs.Codes.{colours_in, clues_in, puzzle_in}
use Rattle.rules.specs.Check.{Reason, Verdict, pass, conflict}
use Rattle.rules.specs.Book.{Asked, answered, fresh_book, states, looked, reply, book_after}
use Rattle.laws.specs.BookLaws.{plain-answered}
use Rattle.argument.specs.Demand.{Full, SameSides, BookAnswered, BookRuledOut, BookStoodAt, Passes, BookDemand}
use Rattle.argument.proofs.FlatDemand.{flat-demand}
use Rattle.board.specs.declared.Board.{Board}
use Rattle.board.specs.Board.{Outcome, returned, decide_of}
use Rattle.board.specs.Accepted.{Accepted, made_board}
use Rattle.board.specs.View.{puzzle_of, states_of, literals_of}
use Rattle.board.specs.NativeLaws.{native-has}
use Rattle.board.proofs.FreshLaws.{Made, made-is, made-keeps, made-typed}
use Rattle.board.proofs.ViewLaws.{fresh-puzzle, literals-fresh, literals-length, states-literals}
use Rattle.demand3.specs.Runs.{Lent, lend, asked_by, given_by, told_by, looked_on, board_after}
use Rattle.demand3.specs.Demand3.{Standing, Answered, HandedOut, RuledOut, StoodAt, Demand3}
use Rattle.demand3.proofs.RunLaws.{Built, none, Facts, Bare, built-facts, built-looked, built-after, step-told}
use Rattle.demand3.proofs.RunLaws.{run-told, run-written, run-tallies}

-- a list of calls, split where the book's list is
record Split (calls : List Lent) (earlier : List Asked) (a : Asked) : Type 0 where
  before : List Lent
  call : Lent
  later : List Lent
  split : calls ≡ before ++ (call ∷ later)
  same : map asked_by before ≡ earlier
  at : asked_by call ≡ a

split-more : {calls : List Lent} {earlier : List Asked} {a k : Asked} (c : Lent) → asked_by c ≡ k
    → Split calls earlier a → Split (c ∷ calls) (k ∷ earlier) a
split-more c q s =
    record {
      before = c ∷ s.before;
      call = s.call;
      later = s.later;
      split = ap (λ (cs : List Lent). c ∷ cs) s.split;
      same = rw (q, s.same);
      at = s.at;
    }

split-asked : (calls : List Lent) (earlier : List Asked) (a : Asked) (later : List Asked)
    → map asked_by calls ≡ earlier ++ (a ∷ later) → Split calls earlier a
split-asked [] [] a later e = let z : ◌≡◌ {A = ℕ} 0 1 = cc in absurd (omega arith)
split-asked [] (k ∷ earlier) a later e = let z : ◌≡◌ {A = ℕ} 0 1 = cc in absurd (omega arith)
split-asked (c ∷ calls) [] a later e =
    let q : asked_by c ≡ a = cc in
    record { before = []; call = c; later = calls; split = refl; same = refl; at = q }
split-asked (c ∷ calls) (k ∷ earlier) a later e =
    let q : asked_by c ≡ k = cc in
    let p : map asked_by calls ≡ earlier ++ (a ∷ later) = cc in
    split-more c q (split-asked calls earlier a later p)

module _ (start : Board) (S : Bare start) where
  -- the board after some calls
  after-built : (calls : List Lent)
      → Built start (book_after (puzzle_of start) (map asked_by calls)).sequence (board_after start calls)
  after-built calls = built-after start S fresh_book none calls

  after-facts : (calls : List Lent)
      → Facts start (book_after (puzzle_of start) (map asked_by calls)).sequence (board_after start calls)
  after-facts calls = built-facts start S (after-built calls)

  facts-states : (ls : List Literal) (b : Board) → Facts start ls b → states_of b ≡ states ls
  facts-states ls b f = states-literals b (native-has b f.known) ∙ ap states f.stack

  -- the book's answer to a call after some others
  told-after : (calls : List Lent) (c : Lent)
      → told_by (given_by (board_after start calls) c)
      ≡ reply (puzzle_of start) (book_after (puzzle_of start) (map asked_by calls)) (asked_by c)
  told-after calls c = step-told start S (book_after (puzzle_of start) (map asked_by calls)) (after-built calls) c

  -- the board that it looked at, where it is answered
  looked-facts : (calls : List Lent) (c : Lent) (f : Verdict)
      → reply (puzzle_of start) (book_after (puzzle_of start) (map asked_by calls)) (asked_by c) ≡ answered f
      → Facts start (looked (book_after (puzzle_of start) (map asked_by calls)).sequence c.call)
      (looked_on (board_after start calls) c.call)
  looked-facts calls c f e =
      built-facts start S
      (built-looked start S (after-built calls) c.call (length c.memory) f
      (plain-answered (puzzle_of start) (book_after (puzzle_of start) (map asked_by calls)) (asked_by c) f e))

  -- ---- what the run answers is what the book answers
  module _ (calls : List Lent) where
    -- what the run's answered call looked at
    run-facts : {b : Board} {f : Verdict} (a : Answered start calls b f)
        → Facts start (looked (book_after (puzzle_of start) (map asked_by a.earlier)).sequence a.call.call) b
    run-facts {f = f} a =
        subst (Facts start _) a.standing
        (looked-facts a.earlier a.call f (sym (told-after a.earlier a.call) ∙ a.answer))

    pub answered-facts : {b : Board} {f : Verdict} → Answered start calls b f → Facts start (literals_of b) b
    answered-facts {b} a = let g = run-facts a in subst (λ ls. Facts start ls b) (sym g.stack) g

    pub answered-book : {b : Board} {f : Verdict} → Answered start calls b f
        → BookAnswered (puzzle_of start) (map asked_by calls) (literals_of b) f
    answered-book a =
        record {
          earlier = map asked_by a.earlier;
          call = asked_by a.call;
          later = map asked_by a.later;
          split = ap (map asked_by) a.split ∙ map-append asked_by a.earlier (a.call ∷ a.later);
          standing = sym (run-facts a).stack;
          answer = sym (told-after a.earlier a.call) ∙ a.answer;
        }

    pub answered-run : {ls : List Literal} {f : Verdict} → BookAnswered (puzzle_of start) (map asked_by calls) ls f
        → (b : Board) × Answered start calls b f × Facts start ls b
    answered-run {ls} {f} a =
        let s = split-asked calls a.earlier a.call a.later a.split in
        let b = looked_on (board_after start s.before) s.call.call in
        let e = ap₂ (λ (asked : List Asked) (c : Asked). reply (puzzle_of start) (book_after (puzzle_of start) asked) c)
        s.same s.at ∙ a.answer in (
          b,
          record {
            earlier = s.before;
            call = s.call;
            later = s.later;
            split = s.split;
            standing = refl;
            answer = told-after s.before s.call ∙ e;
          },
          subst (λ k. Facts start k b)
              (ap₂ (λ (asked : List Asked) (c : Asked). looked (book_after (puzzle_of start) asked).sequence c.call)
              s.same s.at ∙ a.standing)
              (looked-facts s.before s.call f e),
        )

    -- ---- ruled out
    pub ruled-book : (σ : ℕ → State) → RuledOut start calls σ → BookRuledOut (puzzle_of start) (map asked_by calls) σ
    ruled-book σ q =
        record {
          sequence = literals_of q.board;
          reason = q.reason;
          given = answered-book q.given;
          contains = q.contains;
        }

    pub ruled-run : (σ : ℕ → State) → BookRuledOut (puzzle_of start) (map asked_by calls) σ → RuledOut start calls σ
    ruled-run σ q =
        let r = answered-run q.given in
        record { board = r.0; reason = q.reason; given = r.1; contains = q.contains }

    -- ---- stood
    pub stood-book : (σ : ℕ → State) (f : Verdict) → StoodAt start calls σ f
        → BookStoodAt (puzzle_of start) (map asked_by calls) σ f
    stood-book σ f q =
        let g = answered-facts q.check in
        let e = facts-states (literals_of q.board) q.board g in
        record {
          sequence = literals_of q.board;
          check = answered-book q.check;
          full = rw (← e, ← g.puzzle) q.full;
          sides = rw (← e, ← g.puzzle) q.sides;
        }

    pub stood-run : (σ : ℕ → State) (f : Verdict) → BookStoodAt (puzzle_of start) (map asked_by calls) σ f
        → StoodAt start calls σ f
    stood-run σ f q =
        let r = answered-run q.check in
        let e = facts-states q.sequence r.0 r.2 in
        record {
          board = r.0;
          check = r.1;
          full = rw (e, r.2.puzzle) q.full;
          sides = rw (e, r.2.puzzle) q.sides;
        }

-- ---- a preview in a list
module _ (start : Board) (earlier later : List Lent) (l : Literal) (m : List ℕ) where
  abbrev with_preview : List Lent
  with_preview = earlier ++ (lend m (Preview l) ∷ later)

  -- the copy, with the literal decided
  abbrev previewed_board : Board
  previewed_board = (decide_of (board_after start earlier) l).board

  preview-answered : (f : Verdict) → told_by (given_by (board_after start earlier) (lend m (Preview l))) ≡ answered f
      → Answered start with_preview previewed_board f
  preview-answered f e =
      record {
        earlier = earlier;
        call = lend m (Preview l);
        later = later;
        split = refl;
        standing = refl;
        answer = e;
      }

  -- "A preview's reason holds on the copy and counts as handed out"
  pub preview-handed : (r : Reason)
      → told_by (given_by (board_after start earlier) (lend m (Preview l))) ≡ answered (conflict r)
      → HandedOut start with_preview previewed_board r
  preview-handed r e = preview-answered (conflict r) e

  -- "a full setting on the copy counts as one that stood at the check"
  pub preview-stood : (σ : ℕ → State) (f : Verdict)
      → told_by (given_by (board_after start earlier) (lend m (Preview l))) ≡ answered f
      → Full (puzzle_of previewed_board) (states_of previewed_board)
      → SameSides (puzzle_of previewed_board) (states_of previewed_board) σ
      → StoodAt start with_preview σ f
  preview-stood σ f e full sides =
      record { board = previewed_board; check = preview-answered f e; full = full; sides = sides }

-- ---- a longer list
answered-longer : (start : Board) (calls more : List Lent) {b : Board} {f : Verdict} → Answered start calls b f
    → Answered start (calls ++ more) b f
answered-longer start calls more a =
    record {
      earlier = a.earlier;
      call = a.call;
      later = a.later ++ more;
      split = ap (λ (cs : List Lent). cs ++ more) a.split ∙ append_assoc a.earlier (a.call ∷ a.later) more;
      standing = a.standing;
      answer = a.answer;
    }

ruled-longer : (start : Board) (calls more : List Lent) (σ : ℕ → State) → RuledOut start calls σ
    → RuledOut start (calls ++ more) σ
ruled-longer start calls more σ q =
    record {
      board = q.board;
      reason = q.reason;
      given = answered-longer start calls more q.given;
      contains = q.contains;
    }

-- ---- the claim
module _ (start : Board) (S : Bare start) (D : (asked : List Asked) → BookDemand (puzzle_of start) asked) where
  stands : (calls : List Lent)
      → Standing start (puzzle_of start) (book_after (puzzle_of start) (map asked_by calls)) (board_after start calls)
  stands calls =
      let f = after-facts start S calls in
      record {
        stack = f.stack;
        borders = facts-states start S _ _ f;
        puzzle = f.puzzle;
        known = f.known;
        tally = f.tally;
        only = f.only;
      }

  holds : (calls : List Lent) (b : Board) (r : Reason) → Answered start calls b (conflict r) → Contains (states_of b) r
  holds calls b r a =
      let e = facts-states start S (literals_of b) b (answered-facts start S calls a) in
      rw e ((D (map asked_by calls)).held (literals_of b) r (answered-book start S calls a))

  few-named : (calls : List Lent) (b : Board) (r : Reason) → Answered start calls b (conflict r) → length r ≤ b.count
  few-named calls b r a =
      omega (
        arith,
        (D (map asked_by calls)).few (literals_of b) r (answered-book start S calls a),
        literals-length b,
      )

  none-ruled : (calls : List Lent) (σ : ℕ → State) → Solution (puzzle_of start) σ → RuledOut start calls σ → ⊥
  none-ruled calls σ s q = (D (map asked_by calls)).no_solution σ s (ruled-book start S calls σ q)

  verdicts : (calls : List Lent) (σ : ℕ → State) (f : Verdict) → StoodAt start calls σ f
      → (Passes f ↔ Solution (puzzle_of start) σ)
  verdicts calls σ f q = (D (map asked_by calls)).verdict σ f (stood-book start S calls σ f q)

  pub from-book : (calls : List Lent) → Demand3 start (puzzle_of start) calls
  from-book calls =
      record {
        answers = run-told start S fresh_book none calls;
        memory = run-written start S fresh_book none calls;
        records = run-tallies start S fresh_book none calls;
        stack = λ earlier later e. stands earlier;
        held = holds calls;
        each_once = λ b r a. (D (map asked_by calls)).each_once (literals_of b) r (answered-book start S calls a);
        few = few-named calls;
        monotone = ruled-longer start calls;
        no_solution = none-ruled calls;
        verdict = verdicts calls;
        otherwise =
            λ σ f q n.
            ruled-run start S calls σ ((D (map asked_by calls)).otherwise σ f (stood-book start S calls σ f q) n);
        stays_in =
            λ more σ p. none-ruled (calls ++ more) σ ((verdicts calls σ (pass p.0) p.1).0 (p.0, refl));
        stays_out =
            λ more σ q p. none-ruled calls σ ((verdicts (calls ++ more) σ (pass p.0) p.1).0 (p.0, refl)) q;
        same_verdict =
            λ σ f g s t.
            (D (map asked_by calls)).same_verdict σ f g (stood-book start S calls σ f s)
            (stood-book start S calls σ g t);
      }

-- ---- an accepted puzzle
module _ (h w : ℕ) (cs : List ℕ) (ks : List ℤ) (A : Accepted h w cs ks) where
  pub accepted-made : Made h w cs ks (made_board h w cs ks)
  accepted-made = made-is (ap (λ (o : Outcome). returned o (made_board h w cs ks)) A.made)

  pub start-bare : Bare (made_board h w cs ks)
  start-bare =
      record {
        known = made-keeps accepted-made;
        typed = made-typed accepted-made A.small;
        empty = ap literals_of accepted-made.is ∙ literals-fresh h w cs ks;
      }

  pub start-puzzle : puzzle_of (made_board h w cs ks) ≡ puzzle_in h w cs ks
  start-puzzle = ap puzzle_of accepted-made.is ∙ fresh-puzzle h w cs ks

  book-holds : (asked : List Asked) → BookDemand (puzzle_in h w cs ks) asked
  book-holds = let s = accepted-made.size in flat-demand h w (omega arith) (colours_in cs) (clues_in ks)

  pub demand3 : (calls : List Lent) → Demand3 (made_board h w cs ks) (puzzle_in h w cs ks) calls
  demand3 calls =
      subst (λ Z. Demand3 (made_board h w cs ks) Z calls) start-puzzle
      (from-book (made_board h w cs ks) start-bare
      (λ asked. subst (λ Z. BookDemand Z asked) (sym start-puzzle) (book-holds asked)) calls)
