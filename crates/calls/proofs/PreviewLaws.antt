-- A preview, by how its decide ends: one law for each return of the code.
--
--   preview-stopped     the decide is refused, and so is the preview
--   preview-goes        the decide is done, and the preview is the check of the board that it leaves
--   preview-decided     what the decide says then
--   preview-known, preview-left  that board is not alien then, and b has an undecided border
--   check-stored, preview-stored  the number after a pass is the stored one
--   preview-checks, preview-stops  a preview, by the answers of a decide and of a check after it
--   preview-keeps       the board given is returned
--   preview-order       the refusals of a preview in their order, and the check of the copy after them
use Rattle.std.specs.Prelude.{◌≡◌, true, false, List, ℕ, ◌<◌, eqb, ltb, length, get_or, Ok, Err}
use Rattle.std.proofs.Math.Path.{refl}
use Rattle.std.proofs.Common.{ap, sym, ◌∙◌, arith}
use Rattle.std.proofs.Math.Bool.{Bool, cond}
use Rattle.std.proofs.Math.Option.{Option, some, none}
use borrow.Author.Tests.{eqb-true, ltb-true}
use Rattle.rules.specs.declared.Literal.{Literal}
use Rattle.rules.specs.declared.Call.TheVariants.{Decide, Check, Preview}
use Rattle.rules.specs.Codes.{code_of}
use Rattle.rules.specs.Check.{Reason, check, hit, once_in, verdict_of, undecided_count}
use Rattle.board.specs.declared.Board.{Board}
use Rattle.board.specs.declared.Refusal.{Refusal}
use Rattle.board.specs.declared.Refusal.TheVariants.{Alien, Border, Taken, Short}
use Rattle.board.specs.Alien.{border_count_of, is_alien}
use Rattle.board.specs.Board.{Outcome, number_of, returned, ended_by, pushed, decide_refusal, decide_of}
use Rattle.board.specs.View.{puzzle_of, states_of}
use Rattle.board.specs.Cases.{decide-done}
use Rattle.board.specs.NativeLaws.{native-has, free-left}
use Rattle.board.proofs.DecideLaws.{Decided, done-returned, decided-is, decide-keeps}
use Rattle.board.proofs.ViewLaws.{pass-stored}
use Rattle.calls.specs.declared.Answer.TheVariants.{Done, Pass, Refused}
use Rattle.calls.specs.Answers.{as_answer, found_answer, check_answer, check_memory, preview_answer}
use Rattle.calls.specs.Answers.{preview_memory, then_answer, ended, call_of, call_memory}

module _ (b : Board) (l : Literal) where
  -- the outcome of its decide, and the board that it leaves
  abbrev ends : Outcome
  ends = (decide_of b l).outcome

  abbrev copy : Board
  copy = (decide_of b l).board

  pub preview-stopped : (m : List ℕ) (e : Refusal) → Err e ≡ ends
      → (Refused e ≡ preview_answer b l (length m)) × (m ≡ preview_memory b l m)
  unfolding preview_answer preview_memory
  preview-stopped m e p = (rw (← p), rw (← p))

  module _ (p : Ok tt ≡ ends) where
    pub preview-goes : (m : List ℕ)
        → (check_answer copy (length m) ≡ preview_answer b l (length m)) × (check_memory copy m ≡ preview_memory b l m)
    unfolding preview_answer preview_memory
    preview-goes m = (rw (← p), rw (← p))

    pub preview-decided : Decided b l copy
    preview-decided = decided-is (done-returned (decide_of b l) (sym (ap number_of p)))

    pub preview-known : length b.borders ≡ 1984 → length b.stack ≡ 1984 → is_alien copy ≡ false
    preview-known B S = decide-keeps b l B S (done-returned (decide_of b l) (sym (ap number_of p)))

    pub preview-left : 0 < b.tally.undecided
    preview-left =
        let f = preview-decided in
        free-left b (native-has b f.known) l.border f.below f.free

-- ---- the number after a pass
-- "The number after pass is the stored one"
pub check-stored : (b : Board) (n k : ℕ) → check_answer b n ≡ Pass k → k ≡ b.tally.undecided
unfolding check_answer check
check-stored b n k e = go (is_alien b) (ltb n 1984) (hit (puzzle_of b) (states_of b)) refl e
  where
    free : ℕ
    free = undecided_count (puzzle_of b) (states_of b)

    go : (a s : Bool) (o : Option Reason) → is_alien b ≡ a
        → cond a (Refused Alien) (cond s (Refused Short) (as_answer (verdict_of free (once_in o)))) ≡ Pass k
        → k ≡ b.tally.undecided
    go true s o t f = let z : ◌≡◌ {A = ℕ} 0 1 = cc in absurd (omega arith)
    go false true o t f = let z : ◌≡◌ {A = ℕ} 0 1 = cc in absurd (omega arith)
    go false false none t f = let q : k ≡ free = cc in q ∙ pass-stored b (native-has b t)
    go false false (some r) t f = let z : ◌≡◌ {A = ℕ} 0 1 = cc in absurd (omega arith)

pub preview-stored : (b : Board) (l : Literal) (n k : ℕ) → preview_answer b l n ≡ Pass k
    → k ≡ (decide_of b l).board.tally.undecided
unfolding preview_answer
preview-stored b l n k e = go (decide_of b l).outcome e
  where
    go : (o : Outcome) → then_answer o (check_answer (decide_of b l).board n) ≡ Pass k
        → k ≡ (decide_of b l).board.tally.undecided
    go (Ok u) f = check-stored (decide_of b l).board n k f
    go (Err r) f = let z : ◌≡◌ {A = ℕ} 0 1 = cc in absurd (omega arith)

-- ---- what a preview is, by the calls that it stands for
ended-done : (o : Outcome) → ended o ≡ Done → o ≡ Ok tt
ended-done (Ok u) e = refl
ended-done (Err r) e = let z : ◌≡◌ {A = ℕ} 0 1 = cc in absurd (omega arith)

ended-refused : (o : Outcome) (p : Refusal) → ended o ≡ Refused p → o ≡ Err p
ended-refused (Ok u) p e = let z : ◌≡◌ {A = ℕ} 0 1 = cc in absurd (omega arith)
ended-refused (Err r) p e = cc

module _ (b : Board) (l : Literal) (m : List ℕ) where
  -- "It returns and writes what decide followed by check would on a copy of the board"
  pub preview-checks : (call_of b (Decide l) m).answer ≡ Done
      → ((call_of b (Preview l) m).answer ≡ (call_of (call_of b (Decide l) m).board Check m).answer)
      × (call_memory b (Preview l) m ≡ call_memory (call_of b (Decide l) m).board Check m)
  unfolding call_of call_memory preview_answer preview_memory
  preview-checks e = let z = ended-done (decide_of b l).outcome e in (rw z, rw z)

  pub preview-stops : (r : Refusal) → (call_of b (Decide l) m).answer ≡ Refused r
      → ((call_of b (Preview l) m).answer ≡ Refused r) × (call_memory b (Preview l) m ≡ m)
  unfolding call_of call_memory preview_answer preview_memory
  preview-stops r e = let z = ended-refused (decide_of b l).outcome r e in (rw z, rw z)

  -- "The board given is unaltered"
  pub preview-keeps : (call_of b (Preview l) m).board ≡ b
  unfolding call_of
  preview-keeps = refl

-- "Numbers 5, 6, 7 and 9 apply in that order"
module _ (b : Board) (l : Literal) (n : ℕ) (B : length b.borders ≡ 1984) (S : length b.stack ≡ 1984) where
  -- the copy with the literal decided
  abbrev pushed_copy : Board
  pushed_copy = pushed b l.border (code_of l.side)

  known : is_alien b ≡ false → ltb l.border (border_count_of b) ≡ true → eqb (get_or b.borders l.border 0) 0 ≡ true
      → is_alien pushed_copy ≡ false
  known t x y =
      decide-keeps b l B S
      (sym (decide-done b l t (ltb-true l.border (border_count_of b) x)
      (eqb-true (get_or b.borders l.border 0) 0 y)))

  pub preview-order : preview_answer b l n
      ≡ cond (is_alien b) (Refused Alien)
      (cond (ltb l.border (border_count_of b))
      (cond (eqb (get_or b.borders l.border 0) 0)
      (cond (ltb n 1984) (Refused Short)
      (as_answer (check (puzzle_of pushed_copy) (states_of pushed_copy))))
      (Refused Taken))
      (Refused Border))
  unfolding preview_answer decide_of decide_refusal check_answer
  preview-order =
      go (is_alien b) (ltb l.border (border_count_of b)) (eqb (get_or b.borders l.border 0) 0) refl refl refl
    where
      o : Bool → Bool → Outcome
      o x y = cond x (cond y (Ok tt) (Err Taken)) (Err Border)

      go : (t x y : Bool) → is_alien b ≡ t → ltb l.border (border_count_of b) ≡ x
          → eqb (get_or b.borders l.border 0) 0 ≡ y
          → (let r = cond t (returned (Err Alien) b) (ended_by b pushed_copy (o x y)) in
          then_answer r.outcome (check_answer r.board n))
          ≡ cond t (Refused Alien)
          (cond x
          (cond y (found_answer (check (puzzle_of pushed_copy) (states_of pushed_copy)) n) (Refused Taken))
          (Refused Border))
      go true x y p q r = refl
      go false true true p q r = rw (known p q r)
      go false true false p q r = refl
      go false false y p q r = refl
