-- Image: the board that an image spells, the image of a board, and what the calls on an image give.
--
--   pair s k            the number of two bytes of s, from place k on
--   quad s k            the number of four bytes
--   from_bits n         the signed number of the 32 bits n
--   spelled_tally s     the tally that the image s spells
--   spelled_board s     the board that the image s spells
--   two_bytes v         two bytes of a number
--   four_bytes v        four bytes of a number
--   bits_of k           the 32 bits of a signed number
--   clue_bytes k        the four bytes of a clue
--   tally_counts t      the three counts of a tally
--   tally_bytes t       their six bytes
--   image_of b          the image of a board
--   right_length s      the image s has the right length
--   image_alien s       decides and undos cannot produce the image s
--   Bytes s             every element of s is a byte
--   Proper b            b is a value of the code's type Board, and not alien
--   side_of d           the side of a decide's number d
--   decide_literal n d  the literal of a decide on an image
--   ImageCall           a call on an image, with its numbers
--   number_by b a       the number of the call a on the board b, by value
--   board_by b a        the board that it returns
--   image_number s a    the number that the call a returns on the image s
--   image_after s a     the image afterwards
--   image_written s ..  the image s with one border, the count, one entry of the stack and the tally rewritten
--   put_codes m xs n    reason memory with the first n codes of xs written from its start, in two bytes each
--   put_bytes m ls      reason memory beside an image with the literals ls written from its start
--   is_short m          reason memory below 1,984 literals
--   place_count m       how many literals reason memory of bytes holds
--   bytes_after m f     reason memory of bytes after the answer f of Check
--   bytes_by b m        reason memory of bytes after a check of the board b
--   check_number s m    the number that a check returns on the image s with the bytes m lent
--   check_bytes s m     the bytes m afterwards
use Rattle.std.specs.Prelude.{◌≡◌, Bool, true, false, cond, List, [], ◌∷◌, ◌++◌, map, ℕ, ◌+◌, ◌-◌, ◌*◌, ◌/◌, ◌%◌, ◌<◌}
use Rattle.std.specs.Prelude.{eqb, ltb, ℤ, pos, negsuc, length, get_or, set, take}
use Rattle.std.proofs.lemmas.List.Edits.{sets}
use Rattle.lists.specs.Lists.{flat_map}
use Rattle.lists.specs.Table.{table}
use Rattle.rules.specs.declared.Side.{Side}
use Rattle.rules.specs.declared.Side.TheVariants.{Wall, Open}
use Rattle.rules.specs.declared.Literal.{Literal}
use Rattle.rules.specs.declared.Tally.{Tally}
use Rattle.rules.specs.Codes.{literal_code}
use Rattle.rules.specs.Check.{Verdict, pass, conflict, check}
use Rattle.rules.specs.Book.{tally_of}
use Rattle.board.specs.declared.Board.{Board}
use Rattle.board.specs.Alien.{board_of, is_alien}
use Rattle.board.specs.Board.{number_of, decide_of, undo_of, Typed}
use Rattle.board.specs.View.{puzzle_of, states_of}
use Rattle.calls.specs.Answers.{answer_number, check_answer}

-- ---- an image as a board
-- "Low byte first"
abbrev pub pair : List ℕ → ℕ → ℕ
pair s k = get_or s k 0 + 256 * get_or s (k + 1) 0

abbrev pub quad : List ℕ → ℕ → ℕ
quad s k = pair s k + 65536 * pair s (k + 2)

-- "two's complement"
abbrev pub from_bits : ℕ → ℤ
from_bits n = cond (ltb n 2147483648) (pos n) (negsuc (4294967295 - n))

-- "The image gains three counts of 2 bytes at its end"
abbrev pub spelled_tally : List ℕ → Tally
spelled_tally s = tally_of (pair s 11076) (pair s 11078) (pair s 11080)

-- "height, width; 1,024 colours; 1,024 clues of 4 bytes, two's complement; 1,984 borders .. stack count, 2 bytes; 1,984
-- stack entries of 2 bytes"
unfoldable pub spelled_board : List ℕ → Board
spelled_board s =
    board_of (get_or s 0 0) (get_or s 1 0)
    (table 1024 (λ i. get_or s (2 + i) 0))
    (table 1024 (λ i. from_bits (quad s (1026 + 4 * i))))
    (table 1984 (λ i. get_or s (5122 + i) 0))
    (table 1984 (λ i. pair s (7108 + 2 * i)))
    (pair s 7106)
    (spelled_tally s)

-- ---- a board as an image
unfoldable pub two_bytes : ℕ → List ℕ
two_bytes v = v % 256 ∷ v / 256 % 256 ∷ []

unfoldable pub four_bytes : ℕ → List ℕ
unfolding two_bytes
four_bytes v = two_bytes v ++ two_bytes (v / 65536)

abbrev pub bits_of : ℤ → ℕ
bits_of (pos n) = n
bits_of (negsuc n) = 4294967295 - n

-- "clues of 4 bytes, two's complement"
abbrev pub clue_bytes : ℤ → List ℕ
clue_bytes k = four_bytes (bits_of k)

-- "undecided, walls and opens"
abbrev pub tally_counts : Tally → List ℕ
tally_counts t = t.undecided ∷ t.walls ∷ t.opens ∷ []

-- "three counts of 2 bytes at its end, in that order"
abbrev pub tally_bytes : Tally → List ℕ
tally_bytes t = flat_map two_bytes (tally_counts t)

unfoldable pub image_of : Board → List ℕ
image_of b =
    (b.height ∷ b.width ∷ [])
    ++ (b.colours
    ++ (flat_map clue_bytes b.clues
    ++ (b.borders
    ++ (two_bytes b.count
    ++ (flat_map two_bytes b.stack
    ++ tally_bytes b.tally)))))

-- "The image .. is 11,082 bytes"
unfoldable pub right_length : List ℕ → Bool
right_length s = eqb (length s) 11082

-- "a board or image that decides and undos cannot produce from a fresh board; image of another length"
unfoldable pub image_alien : List ℕ → Bool
image_alien s = cond (right_length s) (is_alien (spelled_board s)) true

abbrev pub Bytes : List ℕ → Type 0
Bytes s = (i : ℕ) → get_or s i 0 < 256

pub record Proper (b : Board) : Type 0 where
  pub known : is_alien b ≡ false
  pub typed : Typed b

-- ---- calls on an image
-- "A decide on an image takes its side as a number, 0 open, any other wall"
abbrev pub side_of : ℕ → Side
side_of d = cond (eqb d 0) Open Wall

abbrev pub decide_literal : ℕ → ℕ → Literal
decide_literal n d = record { border = n; side = side_of d }

pub data ImageCall : Type 0 where
  decide : ℕ → ℕ → ImageCall
  undo : ImageCall

-- "Each image call returns one number: the refusal number; 0 for a decide or undo done"
abbrev pub number_by : Board → ImageCall → ℕ
number_by b (decide n d) = number_of (decide_of b (decide_literal n d)).outcome
number_by b undo = number_of (undo_of b).outcome

abbrev pub board_by : Board → ImageCall → Board
board_by b (decide n d) = (decide_of b (decide_literal n d)).board
board_by b undo = (undo_of b).board

unfoldable pub image_number : List ℕ → ImageCall → ℕ
image_number s a = cond (right_length s) (number_by (spelled_board s) a) 5

-- "Decide and undo rewrite the image"
unfoldable pub image_after : List ℕ → ImageCall → List ℕ
image_after s a = cond (right_length s) (image_of (board_by (spelled_board s) a)) s

-- the image s with the border n set to v, the count to c, the entry i of the stack to e, and the tally to t: eleven
-- bytes
unfoldable pub image_written : List ℕ → ℕ → ℕ → ℕ → ℕ → ℕ → Tally → List ℕ
image_written s n v c i e t =
    sets (sets (sets (set s (5122 + n) v) 7106 (two_bytes c)) (7108 + 2 * i) (two_bytes e)) 11076 (tally_bytes t)

-- ---- reason memory beside an image
unfoldable pub put_codes : List ℕ → List ℕ → ℕ → List ℕ
put_codes m codes n = sets m 0 (flat_map two_bytes (take n codes))

-- "a literal is 2·border, plus 1 for wall, in 2 bytes"
unfoldable pub put_bytes : List ℕ → List Literal → List ℕ
put_bytes m ls = sets m 0 (flat_map two_bytes (map literal_code ls))

-- 02: "below 1,984 literals (3,968 bytes)"
unfoldable pub is_short : List ℕ → Bool
is_short m = ltb (length m) 3968

-- "In reason memory .. a literal is .. in 2 bytes"
abbrev pub place_count : List ℕ → ℕ
place_count m = length m / 2

-- "An answered check writes its literals from the start of the memory and nothing beyond; a pass writes none"
abbrev pub bytes_after : List ℕ → Verdict → List ℕ
bytes_after m (pass n) = m
bytes_after m (conflict ls) = put_bytes m ls

abbrev pub bytes_by : Board → List ℕ → List ℕ
bytes_by b m =
    cond (is_alien b) m
    (cond (ltb (place_count m) 1984) m
    (bytes_after m (check (puzzle_of b) (states_of b))))

-- "the refusal number .. 32 plus the undecided count for a pass; 65,536 plus the literal count for a conflict"
unfoldable pub check_number : List ℕ → List ℕ → ℕ
check_number s m = cond (right_length s) (answer_number (check_answer (spelled_board s) (place_count m))) 5

-- "lent memory stays"
unfoldable pub check_bytes : List ℕ → List ℕ → List ℕ
check_bytes s m = cond (right_length s) (bytes_by (spelled_board s) m) m
