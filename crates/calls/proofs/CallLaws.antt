-- One call on a board that is not alien: its answer and the memory afterwards are the book's.
--
--   reason-once         a reason of a board names no border twice
--   reason-few          so it has at most as many literals as there are decided borders ..
--   reason-short        .. and at most 1,984
--   reason-read         a reason is read back from the memory it was written into
--   check-written       the memory after a conflict
--   call-told           the answer of a call is the book's reply
--   call-written        the memory after a call is what the book's reply says
use Rattle.std.specs.Prelude.{◌≡◌, Bool, List, ◌++◌, map, ℕ, ◌<◌, ◌≤◌, length, drop, Ok, Err}
use Rattle.std.proofs.Math.Path.{refl, ap}
use Rattle.std.proofs.Common.{ap₂, sym, ◌∙◌}
use Rattle.std.proofs.Math.Bool.{true, false, cond}
use native.Mathlib.Omega.{arith}
use borrow.Author.Tests.{ltb-false}
use Rattle.std.proofs.Math.Dec.{ltb}
use Rattle.lists.specs.Lists.{Distinct}
use Rattle.rules.specs.declared.Literal.{Literal}
use Rattle.rules.specs.declared.Call.{Call}
use Rattle.rules.specs.declared.Call.TheVariants.{Decide, Undo, Check, Preview}
use Rattle.rules.specs.Page.{Puzzle}
use Rattle.rules.specs.Codes.{literal_code}
use Rattle.rules.specs.Check.{Reason, Verdict, pass, conflict, borders_named, check}
use Rattle.rules.specs.Book.{Reply, refused, answered, states, with_last, then_reply, check_reply, reply_to}
use Rattle.laws.specs.FlatLaws.{borders-le}
use Rattle.argument.proofs.FlatDemand.{flat-once, flat-few}
use Rattle.board.specs.declared.Board.{Board}
use Rattle.board.specs.declared.Refusal.TheVariants.{Short}
use Rattle.board.specs.Alien.{is_alien}
use Rattle.board.specs.Board.{Outcome, number_of, is_done, decide_of, undo_of, Typed}
use Rattle.board.specs.View.{puzzle_of, states_of, literals_of, reply_of}
use Rattle.board.specs.NativeLaws.{native-has}
use Rattle.board.proofs.DecideLaws.{done-returned, decide-keeps}
use Rattle.board.proofs.ViewLaws.{states-literals, literals-length, decided-puzzle}
use Rattle.board.proofs.LiteralLaws.{literals-decided}
use Rattle.board.proofs.StepLaws.{decide-reply, undo-reply}
use Rattle.calls.specs.declared.Answer.TheVariants.{Refused}
use Rattle.calls.specs.Answers.{reason_in, told, memory_as, as_answer, written, check_answer}
use Rattle.calls.specs.Answers.{check_memory, then_answer, ended}
use Rattle.calls.specs.Answers.{preview_answer, preview_memory, call_of, call_memory}
use Rattle.calls.specs.AnswerLaws.{reason-in, put-start, found-long, check-known}

-- how a decide or an undo ended
told-ended : (o : Outcome) (m : List ℕ) → told (ended o) m ≡ reply_of o
told-ended (Ok u) m = refl
told-ended (Err e) m = refl

kept-ended : (o : Outcome) (m : List ℕ) → m ≡ memory_as m (reply_of o)
kept-ended (Ok u) m = refl
kept-ended (Err e) m = refl

-- an answered check, where the reason fits the memory
Fits : List ℕ → Verdict → Type 0
Fits m f = (r : Reason) → f ≡ conflict r → length r ≤ length m

found-written : (m : List ℕ) (f : Verdict) → Fits m f → written m f ≡ memory_as m (answered f)
unfolding Fits
found-written m (pass n) h = refl
found-written m (conflict r) h = put-start m r (h r refl)

-- a reason that was written is read back
pub reason-read : (m : List ℕ) (r : Reason) → length r ≤ length m → reason_in (written m (conflict r)) (length r) ≡ r
reason-read m r h = ap (λ k. reason_in k (length r)) (put-start m r h) ∙ reason-in r (drop (length r) m)

found-told : (m : List ℕ) (f : Verdict) → Fits m f → told (as_answer f) (written m f) ≡ answered f
unfolding Fits
found-told m (pass n) h = refl
found-told m (conflict r) h = ap (λ (k : Reason). answered (conflict k)) (reason-read m r (h r refl))

module _ (b : Board) (t : is_alien b ≡ false) where
  columns : 0 < b.width
  columns = omega (arith, (native-has b t).size.columns)

  -- "no border is named twice"
  pub reason-once : (r : Reason) → check (puzzle_of b) (states_of b) ≡ conflict r → Distinct (borders_named r)
  unfolding puzzle_of
  reason-once = flat-once b.height b.width columns _ _ (states_of b)

  -- "so a reason has at most as many literals as there are decided borders"
  pub reason-few : (r : Reason) → check (puzzle_of b) (states_of b) ≡ conflict r → length r ≤ b.count
  unfolding puzzle_of
  reason-few r e =
      let n = flat-few b.height b.width columns _ _ (literals_of b) r
      (ap (check (puzzle_of b)) (sym (states-literals b (native-has b t))) ∙ e) in
      omega (arith, n, literals-length b)

  pub reason-short : (r : Reason) → check (puzzle_of b) (states_of b) ≡ conflict r → length r ≤ 1984
  reason-short r e =
      let n = native-has b t in
      omega (arith, reason-few r e, n.few, borders-le n.size)

  module _ (m : List ℕ) where
    found : Verdict
    found = check (puzzle_of b) (states_of b)

    found-states : check (puzzle_of b) (states (literals_of b)) ≡ found
    unfolding found
    found-states = ap (check (puzzle_of b)) (sym (states-literals b (native-has b t)))

    fits : ltb (length m) 1984 ≡ false → Fits m found
    unfolding Fits found
    fits q r e = let k = reason-short r e in let h = ltb-false (length m) 1984 q in omega arith

    check-told : told (check_answer b (length m)) (check_memory b m)
        ≡ check_reply (puzzle_of b) (literals_of b) (length m)
    unfolding check_answer check_memory check_reply found
    check-told = rw (t, found-states) (go (ltb (length m) 1984) refl)
      where
        go : (x : Bool) → ltb (length m) 1984 ≡ x
            → told (cond x (Refused Short) (as_answer found)) (cond x m (written m found))
            ≡ cond x (refused 9) (answered found)
        go true q = refl
        go false q = found-told m found (fits q)

    check-memory : check_memory b m ≡ memory_as m (check_reply (puzzle_of b) (literals_of b) (length m))
    unfolding check_memory check_reply found
    check-memory = rw (t, found-states) (go (ltb (length m) 1984) refl)
      where
        go : (x : Bool) → ltb (length m) 1984 ≡ x
            → cond x m (written m found) ≡ memory_as m (cond x (refused 9) (answered found))
        go true q = refl
        go false q = found-written m found (fits q)

  pub check-written : (m : List ℕ) (r : Reason) → 1984 ≤ length m → check (puzzle_of b) (states_of b) ≡ conflict r
      → check_memory b m ≡ map literal_code r ++ drop (length r) m
  check-written m r h e =
      let k = reason-short r e in
      sym (check-known b m t).1 ∙ sym (found-long (check (puzzle_of b) (states_of b)) m h).1
      ∙ ap (written m) e
      ∙ put-start m r (omega arith)

-- ---- a preview
-- what a decide on the copy leads to, where it is done
record Copied (b : Board) (l : Literal) (d : Board) : Type 0 where
  known : is_alien d ≡ false
  puzzle : puzzle_of d ≡ puzzle_of b
  stack : literals_of d ≡ with_last (literals_of b) l

module _ (b : Board) (t : is_alien b ≡ false) (T : Typed b) where
  copied : (l : Literal) → (decide_of b l).outcome ≡ Ok tt → Copied b l (decide_of b l).board
  copied l e =
      let r = done-returned (decide_of b l) (ap number_of e) in
      record {
        known = decide-keeps b l T.borders T.stack r;
        puzzle = decided-puzzle b l r;
        stack = literals-decided b l T r;
      }

  module _ (l : Literal) (m : List ℕ) where
    -- the check's reply on the copy is that of the sequence with the literal put last
    copy-reply : (decide_of b l).outcome ≡ Ok tt
        → check_reply (puzzle_of (decide_of b l).board) (literals_of (decide_of b l).board) (length m)
        ≡ check_reply (puzzle_of b) (with_last (literals_of b) l) (length m)
    copy-reply e =
        let c = copied l e in
        ap₂ (λ (Z : Puzzle) (ls : List Literal). check_reply Z ls (length m)) c.puzzle c.stack

    preview-told : told (preview_answer b l (length m)) (preview_memory b l m)
        ≡ reply_to (puzzle_of b) (literals_of b) (length m) (Preview l)
    unfolding preview_answer preview_memory reply_to
    preview-told =
        go (decide_of b l).outcome refl
        ∙ ap (λ (r : Reply). then_reply r (check_reply (puzzle_of b) (with_last (literals_of b) l) (length m)))
        (decide-reply b t l)
      where
        d : Board
        d = (decide_of b l).board

        go : (o : Outcome) → (decide_of b l).outcome ≡ o
            → told (then_answer o (check_answer d (length m))) (cond (is_done o) (check_memory d m) m)
            ≡ then_reply (reply_of o) (check_reply (puzzle_of b) (with_last (literals_of b) l) (length m))
        go (Ok u) e = check-told d (copied l e).known m ∙ copy-reply e
        go (Err r) e = refl

    preview-written : preview_memory b l m
        ≡ memory_as m (reply_to (puzzle_of b) (literals_of b) (length m) (Preview l))
    unfolding preview_memory reply_to
    preview-written =
        go (decide_of b l).outcome refl
        ∙ ap (λ (r : Reply). memory_as m
        (then_reply r (check_reply (puzzle_of b) (with_last (literals_of b) l) (length m))))
        (decide-reply b t l)
      where
        d : Board
        d = (decide_of b l).board

        go : (o : Outcome) → (decide_of b l).outcome ≡ o
            → cond (is_done o) (check_memory d m) m
            ≡ memory_as m
            (then_reply (reply_of o) (check_reply (puzzle_of b) (with_last (literals_of b) l) (length m)))
        go (Ok u) e = check-memory d (copied l e).known m ∙ ap (memory_as m) (copy-reply e)
        go (Err r) e = refl

  -- ---- any call
  pub call-told : (c : Call) (m : List ℕ)
      → told (call_of b c m).answer (call_memory b c m) ≡ reply_to (puzzle_of b) (literals_of b) (length m) c
  unfolding call_of call_memory reply_to
  call-told (Decide l) m = told-ended (decide_of b l).outcome m ∙ decide-reply b t l
  call-told Undo m = told-ended (undo_of b).outcome m ∙ undo-reply b t
  call-told Check m = check-told b t m
  call-told (Preview l) m = preview-told l m

  pub call-written : (c : Call) (m : List ℕ)
      → call_memory b c m ≡ memory_as m (reply_to (puzzle_of b) (literals_of b) (length m) c)
  unfolding call_memory reply_to
  call-written (Decide l) m =
      kept-ended (decide_of b l).outcome m ∙ ap (memory_as m) (decide-reply b t l)
  call-written Undo m = kept-ended (undo_of b).outcome m ∙ ap (memory_as m) (undo-reply b t)
  call-written Check m = check-memory b t m
  call-written (Preview l) m = preview-written l m
