-- Board: what making a board, a decide and an undo return, refused ones too.
--
--   Outcome           how a call ended: done, or refused with one of 01's words
--   refusal_number e  the number of the refusal e
--   number_of o       the number of a refusal; 0 where the call is done
--   is_done o         the outcome o is no refusal
--   zero_board        the all-zero board
--   fresh_board       the board of a puzzle, every border undecided
--   returned o b      an outcome with a board
--   puzzle_refusal n cs ks  how making a board of n cells ends after the test of its size: refused, or done
--   ended_by b d o    the outcome o with the board d where it is done, with b where it is a refusal
--   fresh_of          what making a board returns
--   side_count t d    how many borders the tally t has on the side d
--   tally_more t d    the tally t with one border more decided, on the side d
--   tally_less t d    the tally t with one border less decided, which was on the side d
--   pushed b n v      the board with border n set to v and put on the stack
--   popped b          the board with the last border taken off the stack and made undecided
--   decide_refusal m bs n  how a decide of border n ends, where the m borders are bs: refused, or done
--   decide_of b l     what a decide returns
--   undo_refusal n    how an undo ends, where the stack has n borders: refused, or done
--   undo_of b         what an undo returns
--   SmallClues ks     the clues fit 32 bits
--   Typed b           what every value of the code's type Board has
use Rattle.std.specs.Prelude.{◌≡◌, Bool, true, cond, ◌&&◌, List, ℕ, ◌+◌, ◌-◌, ◌*◌, ltb, eqb, ℤ, pos, length, get_or}
use Rattle.std.specs.Prelude.{set, replicate, is_ok, Result, Ok, Err}
use Rattle.std.specs.Int.Signed.{le_z}
use Rattle.lists.specs.Padded.{padded}
use Rattle.rules.specs.declared.Side.{Side}
use Rattle.rules.specs.declared.Side.TheVariants.{Wall, Open}
use Rattle.rules.specs.declared.Literal.{Literal}
use Rattle.rules.specs.declared.Tally.{Tally}
use Rattle.rules.specs.Flat.{border_count}
use Rattle.rules.specs.Codes.{code_of, side_in}
use Rattle.rules.specs.Book.{tally_of}
use Rattle.board.specs.declared.Board.{Board}
use Rattle.board.specs.declared.Refusal.{Refusal}
use Rattle.board.specs.declared.Refusal.TheVariants.{Size, Ragged, Colour, Clue}
use Rattle.board.specs.declared.Refusal.TheVariants.{Alien, Border, Taken, Bare, Short}
use Rattle.board.specs.declared.Returned.{Returned}
use Rattle.board.specs.Alien.{size_right, colours_right, clues_right, border_count_of, board_of, board_with, is_alien}

abbrev pub Outcome : Type 0
Outcome = Result (Unit {0}) Refusal

-- "Numbers and words for unfit calls"
abbrev pub refusal_number : Refusal → ℕ
refusal_number Size = 1
refusal_number Ragged = 2
refusal_number Colour = 3
refusal_number Clue = 4
refusal_number Alien = 5
refusal_number Border = 6
refusal_number Taken = 7
refusal_number Bare = 8
refusal_number Short = 9

abbrev pub number_of : Outcome → ℕ
number_of (Ok u) = 0
number_of (Err e) = refusal_number e

abbrev pub is_done : Outcome → Bool
is_done o = is_ok o

abbrev pub zero_board : Board
zero_board =
    board_of 0 0 (replicate 1024 0) (replicate 1024 (pos 0)) (replicate 1984 0) (replicate 1984 0) 0 (tally_of 0 0 0)

-- "A fresh board has every border undecided"
abbrev pub fresh_board : ℕ → ℕ → List ℕ → List ℤ → Board
fresh_board h w cs ks =
    board_of h w (padded 1024 0 cs) (padded 1024 (pos 0) ks) (replicate 1984 0) (replicate 1984 0) 0
    (tally_of (border_count h w) 0 0)

abbrev pub returned : Outcome → Board → Returned
returned o b = record { outcome = o; board = b }

-- 2: "colours or clues not h·w many"; 3: "a colour not 0 or 1"; 4: "a clue below −1"; where the page has n cells
unfoldable pub puzzle_refusal : ℕ → List ℕ → List ℤ → Outcome
puzzle_refusal n cs ks =
    cond (eqb (length cs) n && eqb (length ks) n)
    (cond (colours_right cs n) (cond (clues_right ks n) (Ok tt) (Err Clue)) (Err Colour))
    (Err Ragged)

-- a call that is done gives the board d, a refused one b
abbrev pub ended_by : Board → Board → Outcome → Returned
ended_by b d o = returned o (cond (is_done o) d b)

-- "The lowest applicable number is given"; "Making a board when refused returns the all-zero board"
unfoldable pub fresh_of : ℕ → ℕ → List ℕ → List ℤ → Returned
fresh_of h w cs ks =
    cond (size_right h w)
    (ended_by zero_board (fresh_board h w cs ks) (puzzle_refusal (h * w) cs ks))
    (returned (Err Size) zero_board)

abbrev pub side_count : Tally → Side → ℕ
side_count t Wall = t.walls
side_count t Open = t.opens

-- "Decide and undo keep all three true"
abbrev pub tally_more : Tally → Side → Tally
tally_more t Wall = tally_of (t.undecided - 1) (t.walls + 1) t.opens
tally_more t Open = tally_of (t.undecided - 1) t.walls (t.opens + 1)

abbrev pub tally_less : Tally → Side → Tally
tally_less t Wall = tally_of (t.undecided + 1) (t.walls - 1) t.opens
tally_less t Open = tally_of (t.undecided + 1) t.walls (t.opens - 1)

-- "Decide sets a border and pushes it"
abbrev pub pushed : Board → ℕ → ℕ → Board
pushed b n v =
    board_with b (set b.borders n v) (set b.stack b.count n) (b.count + 1) (tally_more b.tally (side_in v))

-- "undo pops the last and makes it undecided"; the freed place of the stack is 0
abbrev pub popped : Board → Board
popped b =
    let n = get_or b.stack (b.count - 1) 0 in
    board_with b (set b.borders n 0) (set b.stack (b.count - 1) 0) (b.count - 1)
    (tally_less b.tally (side_in (get_or b.borders n 0)))

-- 6: "number not below the border count"; 7: "border already decided"; on a board that is not alien
unfoldable pub decide_refusal : ℕ → List ℕ → ℕ → Outcome
decide_refusal m bs n = cond (ltb n m) (cond (eqb (get_or bs n 0) 0) (Ok tt) (Err Taken)) (Err Border)

-- "Other refusals return the board given"
unfoldable pub decide_of : Board → Literal → Returned
decide_of b l =
    cond (is_alien b)
    (returned (Err Alien) b)
    (ended_by b (pushed b l.border (code_of l.side))
    (decide_refusal (border_count_of b) b.borders l.border))

-- 8: "undo with an empty stack"; on a board that is not alien
unfoldable pub undo_refusal : ℕ → Outcome
undo_refusal n = cond (eqb n 0) (Err Bare) (Ok tt)

unfoldable pub undo_of : Board → Returned
undo_of b = cond (is_alien b) (returned (Err Alien) b) (ended_by b (popped b) (undo_refusal b.count))

abbrev pub SmallClues : List ℤ → Type 0
SmallClues ks = (i : ℕ) → le_z (get_or ks i (pos 0)) (pos 2147483647) ≡ true

-- the lengths of its arrays, and clues of 32 bits
pub record Typed (b : Board) : Type 0 where
  pub colours : length b.colours ≡ 1024
  pub clues : length b.clues ≡ 1024
  pub borders : length b.borders ≡ 1984
  pub stack : length b.stack ≡ 1984
  pub small : SmallClues b.clues
