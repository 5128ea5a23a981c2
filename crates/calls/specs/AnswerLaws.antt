-- Laws of the answers: what reason memory holds after a call, and that a reason can be read back from it.
--
--   literal-of          a literal read from its code
--   reason-in           a reason read from memory that begins with its codes
--   put-start           memory with a reason written from its start
--   length-written, length-check, length-call  an answered check, a check and a call keep the length of the memory
--   found-short, found-long  what a check answers of a board that is not alien, and the memory after it, by cases
--   check-alien, check-known  a check's answer and the memory after it, of an alien board and of another
use Rattle.std.specs.Prelude.{◌≡◌, refl, Bool, true, false, cond, List, [], ◌∷◌, ◌++◌, map, ℕ, ◌+◌, ◌*◌, ◌/◌, ◌%◌, ◌<◌}
use Rattle.std.specs.Prelude.{◌≤◌, eqb, ltb, length, drop}
use Rattle.std.proofs.Common.{ap, ◌∙◌, zero-add, arith, lt-ltb, le-ltb, take_at}
use Rattle.std.proofs.lemmas.List.{length-map}
use Rattle.std.proofs.lemmas.List.Edits.{sets-eq}
use Rattle.std.proofs.Math.Seq.{length-sets}
use Rattle.rules.specs.declared.Side.{Side}
use Rattle.rules.specs.declared.Side.TheVariants.{Wall, Open}
use Rattle.rules.specs.declared.Literal.{Literal}
use Rattle.rules.specs.declared.Call.{Call}
use Rattle.rules.specs.declared.Call.TheVariants.{Decide, Undo, Check, Preview}
use Rattle.rules.specs.Codes.{side_code, literal_code, put}
use Rattle.rules.specs.Check.{Verdict, pass, conflict, check}
use Rattle.board.specs.declared.Board.{Board}
use Rattle.board.specs.declared.Refusal.TheVariants.{Alien, Short}
use Rattle.board.specs.Alien.{is_alien}
use Rattle.board.specs.Board.{is_done, decide_of}
use Rattle.board.specs.View.{puzzle_of, states_of}
use Rattle.calls.specs.declared.Answer.TheVariants.{Refused}
use Rattle.calls.specs.Answers.{literal_of, reason_in, as_answer, written, found_answer, found_memory, check_answer}
use Rattle.calls.specs.Answers.{check_memory, preview_memory, call_memory}

-- ---- literals and their codes
code-half : (n : ℕ) (d : Side) → (2 * n + side_code d) / 2 ≡ n
code-half n Wall = omega arith
code-half n Open = omega arith

code-rest : (n : ℕ) (d : Side) → (2 * n + side_code d) % 2 ≡ side_code d
code-rest n Wall = omega arith
code-rest n Open = omega arith

code-side : (d : Side) → cond (eqb (side_code d) 1) Wall Open ≡ d
code-side Wall = refl
code-side Open = refl

pub literal-of : (l : Literal) → literal_of (literal_code l) ≡ l
unfolding literal_of
literal-of l =
    λ i.
    record {
      border = code-half l.border l.side i;
      side =
          (ap (λ v. cond (eqb v 1) Wall Open) (code-rest l.border l.side) ∙ code-side l.side) i;
    }

literals-of : (r : List Literal) → map literal_of (map literal_code r) ≡ r
literals-of [] = refl
literals-of (l ∷ r) = rw (literal-of l, literals-of r)

-- ---- memory
pub reason-in : (r : List Literal) (rest : List ℕ) → reason_in (map literal_code r ++ rest) (length r) ≡ r
unfolding reason_in
reason-in r rest =
    ap (map literal_of) (take_at (map literal_code r) rest (length r) (length-map r literal_code)) ∙ literals-of r

pub put-start : (m : List ℕ) (r : List Literal) → length r ≤ length m
    → put m 0 r ≡ map literal_code r ++ drop (length r) m
unfolding put
put-start m r h =
    let e = length-map r literal_code in
    sets-eq (map literal_code r) m 0 (omega arith) ∙ simp (length-map, zero-add)

pub length-written : (m : List ℕ) (f : Verdict) → length (written m f) ≡ length m
unfolding put
length-written m (pass n) = refl
length-written m (conflict r) = simp length-sets

module _ (f : Verdict) (m : List ℕ) where
  pub found-short : length m < 1984 → (Refused Short ≡ found_answer f (length m)) × (m ≡ found_memory f m)
  found-short h = let e = lt-ltb (length m) 1984 h in (rw e, rw e)

  pub found-long : 1984 ≤ length m → (as_answer f ≡ found_answer f (length m)) × (written m f ≡ found_memory f m)
  found-long h = let e = le-ltb (length m) 1984 h in (rw e, rw e)

module _ (b : Board) (m : List ℕ) where
  pub check-alien : is_alien b ≡ true → (Refused Alien ≡ check_answer b (length m)) × (m ≡ check_memory b m)
  unfolding check_answer check_memory
  check-alien t = (rw t, rw t)

  pub check-known : is_alien b ≡ false
      → (found_answer (check (puzzle_of b) (states_of b)) (length m) ≡ check_answer b (length m))
      × (found_memory (check (puzzle_of b) (states_of b)) m ≡ check_memory b m)
  unfolding check_answer check_memory
  check-known t = (rw t, rw t)

pub length-check : (b : Board) (m : List ℕ) → length (check_memory b m) ≡ length m
unfolding check_memory
length-check b m = go (is_alien b) (ltb (length m) 1984)
  where
    f : Verdict
    f = check (puzzle_of b) (states_of b)

    go : (x y : Bool) → length (cond x m (cond y m (written m f))) ≡ length m
    go true y = refl
    go false true = refl
    go false false = length-written m f

length-preview : (b : Board) (l : Literal) (m : List ℕ) → length (preview_memory b l m) ≡ length m
unfolding preview_memory
length-preview b l m = go (is_done (decide_of b l).outcome)
  where
    go : (x : Bool) → length (cond x (check_memory (decide_of b l).board m) m) ≡ length m
    go true = length-check (decide_of b l).board m
    go false = refl

pub length-call : (b : Board) (c : Call) (m : List ℕ) → length (call_memory b c m) ≡ length m
unfolding call_memory
length-call b (Decide l) m = refl
length-call b Undo m = refl
length-call b Check m = length-check b m
length-call b (Preview l) m = length-preview b l m
