-- Each literal once: what stands in the memory after a check or a preview that answers with a conflict.
--
--   NamesOnce m k n     the k literals at the start of the memory m name no border twice, and they are at most n
--   check-names-once    so it is after a check, with n the decided borders of the board ..
--   preview-names-once  .. and after a preview, with n those of the copy
use Rattle.std.specs.Prelude.{◌≡◌, Bool, true, false, cond, List, ℕ, ◌≤◌, ltb, length, Ok, Err}
use Rattle.std.proofs.Math.Path.{refl}
use Rattle.std.proofs.Common.{arith, ltb-false}
use Rattle.lists.specs.Lists.{Distinct}
use Rattle.rules.specs.declared.Literal.{Literal}
use Rattle.rules.specs.Check.{Verdict, pass, conflict, borders_named, check}
use Rattle.board.specs.declared.Board.{Board}
use Rattle.board.specs.declared.Refusal.TheVariants.{Alien, Short}
use Rattle.board.specs.Alien.{is_alien}
use Rattle.board.specs.Board.{Outcome, is_done, decide_of}
use Rattle.board.specs.View.{puzzle_of, states_of}
use Rattle.calls.specs.declared.Answer.TheVariants.{Conflict, Refused}
use Rattle.calls.specs.Answers.{reason_in, as_answer, written, check_answer, check_memory}
use Rattle.calls.specs.Answers.{then_answer, preview_answer, preview_memory}
use Rattle.calls.proofs.CallLaws.{reason-once, reason-few, reason-short, reason-read}

-- "no border is named twice, so a reason has at most as many literals as there are decided borders"
pub record NamesOnce (m : List ℕ) (k n : ℕ) : Type 0 where
  pub once : Distinct (borders_named (reason_in m k))
  pub few : k ≤ n

module _ (b : Board) (m : List ℕ) (k : ℕ) where
  found-names : is_alien b ≡ false → 1984 ≤ length m → (f : Verdict) → check (puzzle_of b) (states_of b) ≡ f
      → as_answer f ≡ Conflict k → NamesOnce (written m f) k b.count
  found-names t l (pass n) e q = let z : ◌≡◌ {A = ℕ} 0 1 = cc in absurd (omega arith)
  found-names t l (conflict r) e q =
      let n : length r ≡ k = cc in
      let is : reason_in (written m (conflict r)) k ≡ r =
      rw (← n) (reason-read m r (omega (arith, reason-short b t r e))) in
      record { once = rw is (reason-once b t r e); few = omega (arith, reason-few b t r e) }

  pub check-names-once : check_answer b (length m) ≡ Conflict k → NamesOnce (check_memory b m) k b.count
  unfolding check_answer check_memory
  check-names-once e = go (is_alien b) (ltb (length m) 1984) refl refl e
    where
      f : Verdict
      f = check (puzzle_of b) (states_of b)

      go : (x y : Bool) → is_alien b ≡ x → ltb (length m) 1984 ≡ y
          → cond x (Refused Alien) (cond y (Refused Short) (as_answer f)) ≡ Conflict k
          → NamesOnce (cond x m (cond y m (written m f))) k b.count
      go true y p q a = let z : ◌≡◌ {A = ℕ} 0 1 = cc in absurd (omega arith)
      go false true p q a = let z : ◌≡◌ {A = ℕ} 0 1 = cc in absurd (omega arith)
      go false false p q a =
          found-names p (let h = ltb-false (length m) 1984 q in omega arith) f refl a

pub preview-names-once : (b : Board) (l : Literal) (m : List ℕ) (k : ℕ) → preview_answer b l (length m) ≡ Conflict k
    → NamesOnce (preview_memory b l m) k (decide_of b l).board.count
unfolding preview_answer preview_memory
preview-names-once b l m k e = go (decide_of b l).outcome e
  where
    d : Board
    d = (decide_of b l).board

    go : (o : Outcome) → then_answer o (check_answer d (length m)) ≡ Conflict k
        → NamesOnce (cond (is_done o) (check_memory d m) m) k d.count
    go (Ok u) a = check-names-once d m k a
    go (Err r) a = let z : ◌≡◌ {A = ℕ} 0 1 = cc in absurd (omega arith)
