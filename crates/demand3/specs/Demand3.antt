-- Demand 3: a single claim about an accepted puzzle and a whole list of calls on its board.
--
--   Standing start Z k b        the board b is start with exactly the literals of the book k decided, of the puzzle Z
--   Answered start calls b f    somewhere in the list a check or a preview, which looked at b, was answered with f
--   HandedOut start calls b r   somewhere in the list a check or a preview, which looked at b, handed out the reason r
--   RuledOut start calls σ      σ contains all literals of some reason handed out in the list
--   StoodAt start calls σ f     σ stood at a check or a preview of the list that was answered with f
--   PassedAt start calls σ      σ stood at a check or a preview of the list that was answered with a pass
--   Demand3 start Z calls       the claim
--
-- All of it speaks of what fresh_of, call_of and call_memory give, and counted_of and counted_memory where a tally
-- record is lent, which the contracts of the code cite, on the boards that the calls return. The book (crate rules,
-- Book) takes the puzzle and the calls, and no board.
use Rattle.std.specs.Prelude.{◌≡◌, false, ◌↔◌, List, ◌∷◌, ◌++◌, map, ℕ, ◌≤◌, length}
use Rattle.lists.specs.Lists.{Distinct}
use Rattle.rules.specs.Page.{Puzzle, State, Contains}
use Rattle.rules.specs.Rules.{Solution}
use Rattle.rules.specs.Check.{Reason, Verdict, pass, conflict, borders_named}
use Rattle.rules.specs.Book.{Book, answered, states, tally_at, book_after, replies, tallies}
use Rattle.argument.specs.Demand.{Full, SameSides, Passes}
use Rattle.board.specs.declared.Board.{Board}
use Rattle.board.specs.Alien.{is_alien}
use Rattle.board.specs.Accepted.{decides_of}
use Rattle.board.specs.View.{puzzle_of, states_of, literals_of}
use Rattle.demand3.specs.Runs.{Lent, asked_by, Given, given_by, told_by, looked_on, board_after, run_from}
use Rattle.demand3.specs.Runs.{memories}

pub record Standing (start : Board) (Z : Puzzle) (k : Book) (b : Board) : Type 0 where
  -- its stack with the sides, oldest first
  pub stack : literals_of b ≡ k.sequence
  -- its borders: "exactly the sequence's literals decided"
  pub borders : states_of b ≡ states k.sequence
  -- its size, colours and clues
  pub puzzle : puzzle_of b ≡ Z
  pub known : is_alien b ≡ false
  -- its stored counts
  pub tally : b.tally ≡ tally_at Z k.sequence
  -- no board but one
  pub only : b ≡ decides_of start k.sequence

module _ (start : Board) where
  -- "A check is answered if not refused"; b is the board that the calls before it lead to, and for a preview the copy
  -- with its literal decided; a reason is read from the memory as it stood when the call returned
  pub record Answered (calls : List Lent) (b : Board) (f : Verdict) : Type 0 where
    pub earlier : List Lent
    pub call : Lent
    pub later : List Lent
    pub split : calls ≡ earlier ++ (call ∷ later)
    pub standing : looked_on (board_after start earlier) call.call ≡ b
    pub answer : told_by (given_by (board_after start earlier) call) ≡ answered f

  -- "a reason handed out is the literals it wrote, as they stood when it returned"; a preview's "counts as handed out"
  abbrev pub HandedOut : List Lent → Board → Reason → Type 0
  HandedOut calls b r = Answered calls b (conflict r)

  -- a full setting is ruled out by the list if it contains all literals of some reason handed out in it
  pub record RuledOut (calls : List Lent) (σ : ℕ → State) : Type 0 where
    pub board : Board
    pub reason : Reason
    pub given : HandedOut calls board reason
    pub contains : Contains σ reason

  -- "A full setting stood at a check if the board then had no undecided border and the setting's sides"; "a full
  -- setting on the copy counts as one that stood at the check"
  pub record StoodAt (calls : List Lent) (σ : ℕ → State) (f : Verdict) : Type 0 where
    pub board : Board
    pub check : Answered calls board f
    pub full : Full (puzzle_of board) (states_of board)
    pub sides : SameSides (puzzle_of board) (states_of board) σ

abbrev pub PassedAt : Board → List Lent → (ℕ → State) → Type 0
PassedAt start calls σ = (n : ℕ) × StoodAt start calls σ (pass n)

-- start is the board that making the puzzle's board returns, and Z the puzzle
pub record Demand3 (start : Board) (Z : Puzzle) (calls : List Lent) : Type 0 where
  -- 1. the answers of the calls are the book's, refused ones included ..
  pub answers : map told_by (run_from start calls) ≡ replies Z (map asked_by calls)
  -- .. and each memory afterwards is what the book's answer says
  pub memory : map (λ (g : Given). g.memory) (run_from start calls) ≡ memories calls (replies Z (map asked_by calls))
  -- .. and so is each record that was lent
  pub records : map (λ (g : Given). g.tally) (run_from start calls) ≡ tallies Z (map asked_by calls)
  -- 2. after every part of the list from its start, the board is the fresh one with exactly the literals of the book's
  -- sequence decided
  pub stack : (earlier later : List Lent) → calls ≡ earlier ++ later
      → Standing start Z (book_after Z (map asked_by earlier)) (board_after start earlier)
  -- 3. each reason handed out held on the board it was handed out on ..
  pub held : (b : Board) (r : Reason) → HandedOut start calls b r → Contains (states_of b) r
  -- .. names no border twice, and has at most as many literals as that board has decided borders
  pub each_once : (b : Board) (r : Reason) → HandedOut start calls b r → Distinct (borders_named r)
  pub few : (b : Board) (r : Reason) → HandedOut start calls b r → length r ≤ b.count
  -- 4. a longer list rules out no less
  pub monotone : (more : List Lent) (σ : ℕ → State) → RuledOut start calls σ → RuledOut start (calls ++ more) σ
  -- 5. no solution is ruled out
  pub no_solution : (σ : ℕ → State) → Solution Z σ → RuledOut start calls σ → ⊥
  -- 6. a full setting that stood at an answered check passed there exactly when it is a solution ..
  pub verdict : (σ : ℕ → State) (f : Verdict) → StoodAt start calls σ f → (Passes f ↔ Solution Z σ)
  -- .. and otherwise is ruled out
  pub otherwise : (σ : ℕ → State) (f : Verdict) → StoodAt start calls σ f → (Passes f → ⊥) → RuledOut start calls σ
  -- 7. no verdict turns: what passed is ruled out in no longer list, what is ruled out passes in no longer list ..
  pub stays_in : (more : List Lent) (σ : ℕ → State) → PassedAt start calls σ → RuledOut start (calls ++ more) σ → ⊥
  pub stays_out : (more : List Lent) (σ : ℕ → State) → RuledOut start calls σ → PassedAt start (calls ++ more) σ → ⊥
  -- .. and where the same full setting stood twice, it passed both times or neither time
  pub same_verdict : (σ : ℕ → State) (f g : Verdict) → StoodAt start calls σ f → StoodAt start calls σ g
      → (Passes f ↔ Passes g)
