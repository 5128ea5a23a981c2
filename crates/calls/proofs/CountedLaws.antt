-- A call that a tally record is lent to, by whether the record agrees with the board.
--
--   counted_same      a record that agrees: the plain call, and the tally of the board that it returns
--   counted-other     one that disagrees: refused, and all is kept
--   record-kept       a call that is not done keeps the record
--   record-true       a record that agrees is afterwards the borders counted, of the board that the call returns
use Rattle.std.specs.Prelude.{◌≡◌, Bool, true, false, cond, List, ℕ, Ok, Err}
use Rattle.std.proofs.Math.Path.{refl}
use Rattle.std.proofs.Common.{ap, sym, ◌∙◌}
use Rattle.rules.specs.declared.Call.{Call}
use Rattle.rules.specs.declared.Call.TheVariants.{Decide, Undo, Check, Preview}
use Rattle.rules.specs.declared.Tally.{Tally}
use Rattle.rules.specs.Book.{same_tally}
use Rattle.rules.specs.Codes.{code_of}
use Rattle.board.specs.declared.Board.{Board}
use Rattle.board.specs.declared.Refusal.TheVariants.{Alien}
use Rattle.board.specs.Alien.{tally_in, border_count_of, is_alien}
use Rattle.board.specs.Board.{Outcome, returned, ended_by, pushed, popped, decide_refusal, decide_of, undo_refusal}
use Rattle.board.specs.Board.{undo_of}
use Rattle.board.specs.Board.{Typed}
use Rattle.board.specs.TallyLaws.{same-is}
use Rattle.board.specs.NativeLaws.{native-has}
use Rattle.board.proofs.StepLaws.{decide-kept, undo-kept}
use Rattle.calls.specs.declared.Answer.TheVariants.{Done, Refused}
use Rattle.calls.specs.declared.Counted.{Counted}
use Rattle.calls.specs.Answers.{ended, stepped, call_of, call_memory}
use Rattle.calls.specs.Counted.{counted_by, counted_of, counted_memory}

module _ (b : Board) (c : Call) (t : Tally) (m : List ℕ) where
  pub counted_same : same_tally t b.tally ≡ true
      → (counted_of b c t m ≡ counted_by (call_of b c m) (call_of b c m).board.tally)
      × (counted_memory b c t m ≡ call_memory b c m)
  unfolding counted_of counted_memory
  counted_same e = (rw e, rw e)

  pub counted-other : same_tally t b.tally ≡ false
      → (counted_of b c t m ≡ counted_by (stepped b (Refused Alien)) t) × (counted_memory b c t m ≡ m)
  unfolding counted_of counted_memory
  counted-other e = (rw e, rw e)

-- ---- a call that is not done
-- what a decide or an undo returned, where it is not done
kept_by : (b d : Board) (x : Bool) (o : Outcome) → let r = cond x (returned (Err Alien) b) (ended_by b d o) in
    (ended r.outcome ≡ Done → ⊥) → r.board ≡ b
kept_by b d true o f = refl
kept_by b d false (Ok u) f = absurd (f refl)
kept_by b d false (Err e) f = refl

module _ (b : Board) (m : List ℕ) where
  board-kept : (c : Call) → ((call_of b c m).answer ≡ Done → ⊥) → (call_of b c m).board ≡ b
  unfolding call_of decide_of undo_of
  board-kept (Decide l) f =
      kept_by b (pushed b l.border (code_of l.side)) (is_alien b)
      (decide_refusal (border_count_of b) b.borders l.border) f
  board-kept Undo f = kept_by b (popped b) (is_alien b) (undo_refusal b.count) f
  board-kept Check f = refl
  board-kept (Preview l) f = refl

  board-known : (c : Call) → is_alien b ≡ false → Typed b → is_alien (call_of b c m).board ≡ false
  unfolding call_of
  board-known (Decide l) t T = (decide-kept b t l T).known
  board-known Undo t T = (undo-kept b t T).known
  board-known Check t T = t
  board-known (Preview l) t T = t

module _ (b : Board) (c : Call) (t : Tally) (m : List ℕ) where
  -- "a check or preview changes nothing in it", nor does a refused call; one that disagrees "keeps its contents"
  pub record-kept : ((counted_of b c t m).stepped.answer ≡ Done → ⊥) → (counted_of b c t m).tally ≡ t
  record-kept f = go (same_tally t b.tally) refl
    where
      go : (x : Bool) → same_tally t b.tally ≡ x → (counted_of b c t m).tally ≡ t
      go true e =
          let r = (counted_same b c t m e).0 in
          ap (λ (k : Counted). k.tally) r
          ∙ ap (λ (d : Board). d.tally) (board-kept b m c (rw r at f))
          ∙ sym (same-is t b.tally e)
      go false e = ap (λ (k : Counted). k.tally) (counted-other b c t m e).0

  -- "the host lends the tally record and each call updates that one": it is then the borders counted
  pub record-true : is_alien b ≡ false → Typed b → same_tally t b.tally ≡ true
      → let r = counted_of b c t m in
      r.tally ≡ tally_in r.stepped.board.borders (border_count_of r.stepped.board)
  record-true a T e =
      rw (counted_same b c t m e).0 (native-has (call_of b c m).board (board-known b m c a T)).tally
