-- Alien: the conditions on a board's places, and which boards are alien.
--
--   size_right h w           h and w are a page's
--   cells_of h w             the cell count of a page; 0 for another size
--   borders_of h w           its border count; 0 for another size
--   colours_right cs n       the first n colours are right
--   clue_right k             k is a clue, or none
--   clues_right ks n         the first n clues are right
--   stacked s n x            border x is among the first n entries of the stack s
--   entries_right s m n      the first n entries are numbers of m borders
--   once_each s n            none of the first n entries is an earlier one
--   border_right v on        the border place v is right, where `on` says that its border is on the stack
--   borders_right bs s n m   the first m borders are right beside the first n entries of s
--   borders_by bs seen m     the same, where a list says which borders are on the stack
--   Flags s n once seen      what a run over n entries finds: whether none is an earlier one, and which borders they
--                            are
--   zeros_from l from        the places of l from `from` on are 0
--   clue_zero k              k is 0
--   zero_clues_from ks from  the clues from `from` on are 0
--   puzzle_right n cs ks     the colours and the clues of n cells are right
--   decisions_in m bs s k    the k entries of the stack s are exactly the decided of m borders, each once
--   code_count bs m v        how many of the first m borders have the code v
--   tally_in bs m            the tally of the first m borders
--   decided_in m bs s k t    decisions_in, and t is the tally of the m borders
--   unused_in n m cs ks bs s k  the places that n cells, m borders and k entries do not use are 0
--   cell_count_of b, border_count_of b  how many cells and borders the page of a board has
--   cells_right b, decisions_right b, unused_zero b  the three of a board
--   board_of h w cs ks bs st n t  the board with these arrays, this count and this tally
--   board_with b bs st n t   the board b with these borders, this stack, this count and this tally
--   is_alien b               decides and undos cannot produce b from a fresh board; crate reach has the proof
use Rattle.std.specs.Prelude.{◌≡◌, Bool, false, not, cond, ◌&&◌, List, ℕ, ◌*◌, ◌<◌, leb, ltb, eqb, ℤ, pos, negsuc}
use Rattle.std.specs.Prelude.{length, get_or}
use Rattle.std.specs.Bool.{beq}
use Rattle.std.specs.Int.Signed.{le_z}
use Rattle.lists.specs.Tests.{all_below, any_below, all_between}
use Rattle.lists.specs.Count.{count_below}
use Rattle.rules.specs.declared.Tally.{Tally}
use Rattle.rules.specs.Flat.{border_count}
use Rattle.rules.specs.Book.{tally_of, same_tally}
use Rattle.board.specs.declared.Board.{Board}

-- "Height h and width w are 1 to 32"
unfoldable pub size_right : ℕ → ℕ → Bool
size_right h w = leb 1 h && leb h 32 && leb 1 w && leb w 32

unfoldable pub cells_of : ℕ → ℕ → ℕ
cells_of h w = cond (size_right h w) (h * w) 0

unfoldable pub borders_of : ℕ → ℕ → ℕ
borders_of h w = cond (size_right h w) (border_count h w) 0

-- "a colour not 0 or 1"
unfoldable pub colours_right : List ℕ → ℕ → Bool
colours_right cs n = all_below n (λ i. leb (get_or cs i 0) 1)

-- "a clue below −1 (−1 is none; 0 is a clue no unit meets)"
abbrev pub clue_right : ℤ → Bool
clue_right k = le_z (negsuc 0) k

unfoldable pub clues_right : List ℤ → ℕ → Bool
clues_right ks n = all_below n (λ i. clue_right (get_or ks i (pos 0)))

-- "the stack of decided borders": x is one of its first n entries
unfoldable pub stacked : List ℕ → ℕ → ℕ → Bool
stacked s n x = any_below n (λ j. eqb (get_or s j 0) x)

-- each of its entries is a border of the page
unfoldable pub entries_right : List ℕ → ℕ → ℕ → Bool
entries_right s m n = all_below n (λ i. ltb (get_or s i 0) m)

-- and none stands on it twice
unfoldable pub once_each : List ℕ → ℕ → Bool
once_each s n = all_below n (λ i. not (stacked s i (get_or s i 0)))

-- 0 is undecided, 1 wall, 2 open; decided exactly where it is on the stack
abbrev pub border_right : ℕ → Bool → Bool
border_right v on = leb v 2 && beq (eqb v 0) (not on)

unfoldable pub borders_right : List ℕ → List ℕ → ℕ → ℕ → Bool
borders_right bs s n m = all_below m (λ x. border_right (get_or bs x 0) (stacked s n x))

unfoldable pub borders_by : List ℕ → List Bool → ℕ → Bool
borders_by bs seen m = all_below m (λ x. border_right (get_or bs x 0) (get_or seen x false))

pub record Flags (s : List ℕ) (n : ℕ) (once : Bool) (seen : List Bool) : Type 0 where
  pub tells : once ≡ once_each s n
  pub flagged : (x : ℕ) → x < 1984 → get_or seen x false ≡ stacked s n x

unfoldable pub zeros_from : List ℕ → ℕ → Bool
zeros_from l from = all_between from (length l) (λ i. eqb (get_or l i 0) 0)

abbrev pub clue_zero : ℤ → Bool
clue_zero k = le_z (pos 0) k && le_z k (pos 0)

unfoldable pub zero_clues_from : List ℤ → ℕ → Bool
zero_clues_from ks from = all_between from (length ks) (λ i. clue_zero (get_or ks i (pos 0)))

-- "a bad height, width, colour or clue in one is 5"
unfoldable pub puzzle_right : ℕ → List ℕ → List ℤ → Bool
puzzle_right n cs ks = colours_right cs n && clues_right ks n

-- "the stack of decided borders"
unfoldable pub decisions_in : ℕ → List ℕ → List ℕ → ℕ → Bool
decisions_in m bs s k = leb k m && entries_right s m k && once_each s k && borders_right bs s k m

-- "borders (0 undecided, 1 wall, 2 open)"
unfoldable pub code_count : List ℕ → ℕ → ℕ → ℕ
code_count bs m v = count_below m (λ i. eqb (get_or bs i 0) v)

-- "undecided, walls and opens"
abbrev pub tally_in : List ℕ → ℕ → Tally
tally_in bs m = tally_of (code_count bs m 0) (code_count bs m 1) (code_count bs m 2)

-- "The board shall store undecided, walls and opens"; "An image whose tally disagrees with its borders is alien", and
-- so is a board
unfoldable pub decided_in : ℕ → List ℕ → List ℕ → ℕ → Tally → Bool
decided_in m bs s k t = decisions_in m bs s k && same_tally t (tally_in bs m)

-- "Unused places of a board are 0"
unfoldable pub unused_in : ℕ → ℕ → List ℕ → List ℤ → List ℕ → List ℕ → ℕ → Bool
unused_in n m cs ks bs s k = zeros_from cs n && zero_clues_from ks n && zeros_from bs m && zeros_from s k

-- "Cell (y,x) is number y·w+x"; of borders "there are h·(w−1)+(h−1)·w"
abbrev pub cell_count_of : Board → ℕ
cell_count_of b = b.height * b.width

abbrev pub border_count_of : Board → ℕ
border_count_of b = border_count b.height b.width

abbrev pub cells_right : Board → Bool
cells_right b = puzzle_right (cell_count_of b) b.colours b.clues

abbrev pub decisions_right : Board → Bool
decisions_right b = decided_in (border_count_of b) b.borders b.stack b.count b.tally

abbrev pub unused_zero : Board → Bool
unused_zero b = unused_in (cell_count_of b) (border_count_of b) b.colours b.clues b.borders b.stack b.count

abbrev pub board_of : ℕ → ℕ → List ℕ → List ℤ → List ℕ → List ℕ → ℕ → Tally → Board
board_of h w cs ks bs st n t =
    record {
      height = h;
      width = w;
      colours = cs;
      clues = ks;
      borders = bs;
      stack = st;
      count = n;
      tally = t;
    }

abbrev pub board_with : Board → List ℕ → List ℕ → ℕ → Tally → Board
board_with b bs st n t = board_of b.height b.width b.colours b.clues bs st n t

-- "a board or image that decides and undos cannot produce from a fresh board"
unfoldable pub is_alien : Board → Bool
is_alien b = not (size_right b.height b.width && cells_right b && decisions_right b && unused_zero b)
