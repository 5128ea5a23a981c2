-- Runs: lists of calls on an image, each on the image that the last one left, and the same calls on a board, by value.
--
--   Sent              a call on an image with all that is handed to it: a decide or an undo, or a check with lent bytes
--   sent_number s c   the number that the call c returns on the image s
--   sent_image s c    the image afterwards
--   sent_bytes s c    the lent bytes afterwards; none where none are lent
--   Got               what a call gives: its number, and the lent bytes as they stand when it returns
--   got n m           the number n, with the bytes m
--   got_by s c        what the call c gives on the image s
--   image_run s cs    what the calls give, from the image s
--   image_from s cs   the image after them
--   codes_in m        the numbers of two bytes that reason memory of bytes holds
--   lent_for c        the call c as a call on a board
--   Coded             a number with the numbers of two bytes in the memory
--   coded n cs        the number n, with the codes cs
--   coded_got g       what a call on an image gave, read so
--   coded_given g     what a call on a board gave, with the number of its answer
--   ImageDemand       demand 3 for a list of calls on images
use Rattle.std.specs.Prelude.{◌≡◌, List, [], ◌∷◌, map, ℕ, ◌+◌, ◌*◌}
use Rattle.rules.specs.declared.Call.TheVariants.{Decide, Undo, Check}
use Rattle.rules.specs.Page.{Puzzle}
use Rattle.board.specs.declared.Board.{Board}
use Rattle.calls.specs.Answers.{answer_number}
use Rattle.demand3.specs.Runs.{Lent, lend, Given, board_after, run_from}
use Rattle.demand3.specs.Demand3.{Demand3}
use Rattle.image.specs.Image.{image_of, ImageCall, decide, undo, decide_literal, image_number, image_after}
use Rattle.image.specs.Image.{check_number, check_bytes}

-- ---- calls on an image
pub data Sent : Type 0 where
  altering : ImageCall → Sent
  checking : List ℕ → Sent

abbrev pub sent_number : List ℕ → Sent → ℕ
sent_number s (altering a) = image_number s a
sent_number s (checking m) = check_number s m

-- "A check never alters the board"
abbrev pub sent_image : List ℕ → Sent → List ℕ
sent_image s (altering a) = image_after s a
sent_image s (checking m) = s

abbrev pub sent_bytes : List ℕ → Sent → List ℕ
sent_bytes s (altering a) = []
sent_bytes s (checking m) = check_bytes s m

pub record Got : Type 0 where
  pub number : ℕ
  pub bytes : List ℕ

abbrev pub got : ℕ → List ℕ → Got
got n m = record { number = n; bytes = m }

abbrev pub got_by : List ℕ → Sent → Got
got_by s c = got (sent_number s c) (sent_bytes s c)

unfoldable pub image_run : List ℕ → List Sent → List Got
image_run s [] = []
image_run s (c ∷ calls) = got_by s c ∷ image_run (sent_image s c) calls

unfoldable pub image_from : List ℕ → List Sent → List ℕ
image_from s [] = s
image_from s (c ∷ calls) = image_from (sent_image s c) calls

-- ---- the same calls on a board
-- "a literal is .. in 2 bytes", low byte first; an odd last byte holds no literal
unfoldable pub codes_in : List ℕ → List ℕ
codes_in [] = []
codes_in (low ∷ []) = []
codes_in (low ∷ high ∷ m) = (low + 256 * high) ∷ codes_in m

abbrev pub lent_for : Sent → Lent
lent_for (altering (decide n d)) = lend [] (Decide (decide_literal n d))
lent_for (altering undo) = lend [] Undo
lent_for (checking m) = lend (codes_in m) Check

pub record Coded : Type 0 where
  pub number : ℕ
  pub codes : List ℕ

abbrev pub coded : ℕ → List ℕ → Coded
coded n cs = record { number = n; codes = cs }

abbrev pub coded_got : Got → Coded
coded_got g = coded g.number (codes_in g.bytes)

abbrev pub coded_given : Given → Coded
coded_given g = coded (answer_number g.answer) g.memory

-- ---- demand 3
-- s is the first image, start the board that making the puzzle's board returns, and Z the puzzle
pub record ImageDemand (s : List ℕ) (start : Board) (Z : Puzzle) (calls : List Sent) : Type 0 where
  -- the same calls on the board, with the same literals' memory, meet demand 3
  pub demand : Demand3 start Z (map lent_for calls)
  -- each call on the image gives the number of the board's answer, and the memory holds the same literals
  pub answers : map coded_got (image_run s calls) ≡ map coded_given (run_from start (map lent_for calls))
  -- the image that the calls leave is the image of the board that they leave
  pub image : image_from s calls ≡ image_of (board_after start (map lent_for calls))
