-- One decide or undo on a board that is not alien, done or refused: its reply is the book's, the board stays one that
-- is not alien, and the puzzle stays.
use Rattle.std.specs.Prelude.{◌≡◌, Bool, not, List, [], ◌∷◌, ltb, eqb, get_or, Ok, Err}
use Rattle.std.proofs.Math.Path.{refl, ap}
use Rattle.std.proofs.Common.{sym, ◌∙◌, ltb-true, eqb-true}
use Rattle.std.proofs.Math.Bool.{true, false, cond}
use Prim.Native.Nat.{ℕ, ◌+◌, ◌-◌}
use Rattle.std.proofs.Math.Decide.{ℕ_discrete}
use native.Mathlib.Omega.{arith}
use Rattle.lists.specs.Table.{table}
use Rattle.lists.specs.TableLaws.{table_more}
use Rattle.rules.specs.declared.Literal.{Literal}
use Rattle.rules.specs.Flat.{flat}
use Rattle.rules.specs.Codes.{code_of}
use Rattle.rules.specs.Book.{Reply, refused, done, bare_or, with_last, decide_reply}
use Rattle.board.specs.declared.Board.{Board}
use Rattle.board.specs.declared.Refusal.TheVariants.{Border, Taken}
use Rattle.board.specs.Alien.{border_count_of, is_alien}
use Rattle.board.specs.Board.{Outcome, number_of, pushed, decide_refusal, ended_by, decide_of, undo_of, Typed}
use Rattle.board.specs.View.{puzzle_of, literal_in, literals_of, reply_of}
use Rattle.board.specs.Cases.{undo-bare, undo-done, decide-done}
use Rattle.board.specs.NativeLaws.{native-has}
use Rattle.board.proofs.DecideLaws.{decide-keeps, decided-typed, undo-keeps, undone-typed}
use Rattle.board.proofs.ViewLaws.{names-decided, decided-puzzle, undone-puzzle}

-- a reply that is done comes of an outcome that is
pub reply-done : (o : Outcome) → reply_of o ≡ done → number_of o ≡ 0
reply-done (Ok u) e = refl
reply-done (Err r) e = absurd (cc)

-- the board d keeps what the next call needs
pub record BoardKept (b d : Board) : Type 0 where
  pub known : is_alien d ≡ false
  pub typed : Typed d
  pub puzzle : puzzle_of d ≡ puzzle_of b

module _ (b : Board) (t : is_alien b ≡ false) where
  -- ---- decide
  module _ (l : Literal) where
    pub decide-reply : reply_of (decide_of b l).outcome ≡ decide_reply (puzzle_of b) (literals_of b) l
    unfolding decide_of decide_refusal decide_reply puzzle_of flat
    decide-reply =
        rw (t, names-decided b (native-has b t) l.border)
        (go (ltb l.border (border_count_of b)) (eqb (get_or b.borders l.border 0) 0))
      where
        go : (x y : Bool)
            → reply_of (cond x (cond y (Ok tt) (Err Taken)) (Err Border))
            ≡ cond x (cond (not y) (refused 7) done) (refused 6)
        go true true = refl
        go true false = refl
        go false true = refl
        go false false = refl

    module _ (T : Typed b) where
      pub decide-kept : BoardKept b (decide_of b l).board
      unfolding decide_of decide_refusal
      decide-kept =
          rw t (go (ltb l.border m) (eqb (get_or b.borders l.border 0) 0) refl refl)
        where
          m : ℕ
          m = border_count_of b

          same : BoardKept b b
          same = record { known = t; typed = T; puzzle = refl }

          go : (x y : Bool) → ltb l.border m ≡ x → eqb (get_or b.borders l.border 0) 0 ≡ y
              → BoardKept b (ended_by b (pushed b l.border (code_of l.side))
              (cond x (cond y (Ok tt) (Err Taken)) (Err Border))).board
          go true true p q =
              let e =
              sym (decide-done b l t (ltb-true l.border m p) (eqb-true (get_or b.borders l.border 0) 0 q)) in
              record {
                known = decide-keeps b l T.borders T.stack e;
                typed = decided-typed b l T e;
                puzzle = decided-puzzle b l e;
              }
          go true false p q = same
          go false true p q = same
          go false false p q = same

  -- ---- undo
  bare-or : (ls : List Literal) (l : Literal) (r : Reply) → bare_or (with_last ls l) r ≡ r
  bare-or [] l r = refl
  bare-or (k ∷ ls) l r = refl

  none : b.count ≡ 0 → literals_of b ≡ []
  unfolding literals_of table
  none e = ap (λ j. table j (λ i. literal_in b.borders (get_or b.stack i 0))) e

  more : (b.count ≡ 0 → ⊥) → (ls : List Literal) × (l : Literal) × (literals_of b ≡ with_last ls l)
  unfolding literals_of
  more h =
      let k : b.count ≡ b.count - 1 + 1 = omega arith in
      let f : ℕ → Literal = λ i. literal_in b.borders (get_or b.stack i 0) in
      (table (b.count - 1) f, f (b.count - 1), ap (λ j. table j f) k ∙ table_more (b.count - 1) f)

  pub undo-reply : reply_of (undo_of b).outcome ≡ bare_or (literals_of b) done
  undo-reply = go (ℕ_discrete b.count 0)
    where
      go : Dec (b.count ≡ 0) → reply_of (undo_of b).outcome ≡ bare_or (literals_of b) done
      go (yes h) = rw (← (undo-bare b t h), none h)
      go (no h) = let r = more h in rw (← (undo-done b t h), r.2) (sym (bare-or r.0 r.1 done))

  pub undo-kept : Typed b → BoardKept b (undo_of b).board
  undo-kept T = go (ℕ_discrete b.count 0)
    where
      go : Dec (b.count ≡ 0) → BoardKept b (undo_of b).board
      go (yes h) = rw (← (undo-bare b t h)) (record { known = t; typed = T; puzzle = refl })
      go (no h) =
          let e = sym (undo-done b t h) in
          rw e (record { known = undo-keeps b T e; typed = undone-typed b T e; puzzle = undone-puzzle b e })
