-- The witness of demand 3 is one: its full settings stood at a check or at a preview.
use Rattle.std.specs.Prelude.{◌≡◌, refl, List, [], ◌∷◌, ◌++◌, map, ℕ, zero, suc, ◌<◌, length}
use Rattle.std.proofs.Common.{◌∙◌, ap, sym, subst, arith}
use Rattle.lists.specs.Lists.{any, all}
use Rattle.lists.specs.Tests.{all_below}
use Rattle.rules.specs.declared.Side.{Side}
use Rattle.rules.specs.declared.Side.TheVariants.{Wall, Open}
use Rattle.rules.specs.declared.Call.{Call}
use Rattle.rules.specs.declared.Call.TheVariants.{Decide, Check, Preview}
use Rattle.rules.specs.Page.{Puzzle, undecided}
use Rattle.rules.specs.Flat.{flat, border_count}
use Rattle.rules.specs.Book.{Asked, ask, answered, states, names, looked, done_book, decide_reply, check_reply}
use Rattle.rules.specs.Book.{reply_to}
use Rattle.rules.specs.Book.{reply, after, book_from, book_after}
use Rattle.rules.specs.Codes.{puzzle_in}
use Rattle.argument.specs.Demand.{Full, SameSides, BookStoodAt}
use Rattle.argument.proofs.WitnessLaws.{open-solves, wall-fails}
use Rattle.board.specs.Alien.{size_right, colours_right, clues_right}
use Rattle.board.specs.Board.{puzzle_refusal, fresh_of}
use Rattle.board.specs.Accepted.{Accepted}
use Rattle.demand3.specs.Runs.{lend, asked_by}
use Rattle.demand3.specs.Demand3.{StoodAt}
use Rattle.demand3.proofs.Demand3Laws.{stood-run, start-bare, start-puzzle, demand3}
use Rattle.demand3.proofs.SmallRunLaws.{small-clues, asked-lent}
use Rattle.demand3.specs.RunWitness.{cs, ks, witness_board, first, setting, deciding, previewing, found, BookStood}
use Rattle.demand3.specs.RunWitness.{Witnessed, RunWitness}

accepted : Accepted 1 2 cs ks
unfolding all fresh_of puzzle_refusal size_right colours_right clues_right all_below
accepted = record { small = small-clues ks refl; made = refl }

side-full : (d : Side) (b : ℕ) → b < 1 → setting d b ≡ undecided → ⊥
unfolding states
side-full d zero h e = let z : ◌≡◌ {A = ℕ} 0 1 = cc in omega arith
side-full d (suc b) h e = omega arith

-- a call that looked at the border's side alone, and is answered by what Check gives there
book-stood : (d : Side) (earlier : List Asked) (call : Asked)
    → looked (book_after (puzzle_in 1 2 cs ks) earlier).sequence call.call ≡ first d ∷ []
    → reply (puzzle_in 1 2 cs ks) (book_after (puzzle_in 1 2 cs ks) earlier) call ≡ answered (found d)
    → BookStood d (earlier ++ (call ∷ []))
unfolding flat border_count Full SameSides
book-stood d earlier call e f =
    record {
      sequence = first d ∷ [];
      check =
          record { earlier = earlier; call = call; later = []; split = refl; standing = e; answer = f };
      full = λ b h. side-full d b h;
      sides = λ b h. refl;
    }

book-decided : (d : Side) → BookStood d (map (ask 1984) (deciding d))
unfolding flat border_count book_from after done_book reply_to decide_reply check_reply names any
book-decided d = book-stood d (ask 1984 (Decide (first d)) ∷ []) (ask 1984 Check) refl refl

book-previewed : (d : Side) → BookStood d (map (ask 1984) (previewing d))
unfolding flat border_count book_from reply_to decide_reply check_reply names any
book-previewed d = book-stood d [] (ask 1984 (Preview (first d))) refl refl

module _ (m : List ℕ) (p : length m ≡ 1984) where
  side-stood : (d : Side) (calls : List Call) → BookStood d (map (ask 1984) calls)
      → StoodAt witness_board (map (lend m) calls) (setting d) (found d)
  side-stood d calls s =
      stood-run witness_board (start-bare 1 2 cs ks accepted) (map (lend m) calls) (setting d) (found d)
      (subst (λ (Z : Puzzle). BookStoodAt Z (map asked_by (map (lend m) calls)) (setting d) (found d))
      (sym (start-puzzle 1 2 cs ks accepted))
      (subst (BookStood d) (sym (asked-lent m calls ∙ ap (λ n. map (ask n) calls) p)) s))

  witnessed : (calls : Side → List Call) → ((d : Side) → BookStood d (map (ask 1984) (calls d))) → Witnessed m calls
  witnessed calls stood =
      let D = demand3 1 2 cs ks accepted in
      let s = side-stood Open (calls Open) (stood Open) in
      let t = side-stood Wall (calls Wall) (stood Wall) in
      record {
        open-stood = s;
        open-passed = ((D (map (lend m) (calls Open))).verdict (setting Open) (found Open) s).1 open-solves;
        wall-stood = t;
        wall-ruled =
            (D (map (lend m) (calls Wall))).otherwise (setting Wall) (found Wall) t
            (λ q. wall-fails (((D (map (lend m) (calls Wall))).verdict (setting Wall) (found Wall) t).0 q));
      }

  pub run-witness : RunWitness m
  run-witness = record { decided = witnessed deciding book-decided; previewed = witnessed previewing book-previewed }
