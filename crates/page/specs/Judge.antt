-- The judgement of a page: 01's numbers 10, 1, 2, 3, in this order, or the puzzle and its calls.
--
--   Judgement           rejected with a number, or accepted with the page
--   rows_fit h w rows   there are h rows, each of w digits
--   low d               the digit d is 0 or 1
--   two_colours rows    every digit is 0 or 1
--   judge_sheet p       the judgement of the well formed page p: rejected with 1, 2 or 3, or accepted
--   judge_read o        the judgement of what was read: rejected with 10 where it is no page
--   judgement_of s      the judgement of the bytes s
--   colours_of p        the puzzle's colours, row by row
--   clue_on z cs y x    the clue at cell (y, x); z where there is none
--   clues_of p          the puzzle's clues, row by row
--   colour_array rows   the colours as an array of 1,024 places, 0 where no digit stands
--   placed w m cs       the array m with the clues cs stored at their cells' numbers
--   clue_array w cs     the clues as an array of 1,024 places, −1 where no clue stands; none above 32 columns
use Rattle.std.specs.Prelude.{Bool, ◌&&◌, cond, List, [], ◌∷◌, ℕ, ◌+◌, ◌*◌, ◌/◌, ◌%◌, leb, eqb, ℤ, pos, negsuc, length}
use Rattle.std.specs.Prelude.{set, replicate}
use Rattle.std.proofs.Math.Option.{Option, none, some}
use Rattle.std.proofs.lemmas.List.Edits.{sets}
use Rattle.lists.specs.Lists.{all, flat_map}
use Rattle.lists.specs.Table.{table}
use Rattle.board.specs.Alien.{size_right}
use Rattle.page.specs.declared.Clue.{Clue}
use Rattle.page.specs.Grammar.{Sheet, page_of}

pub data Judgement : Type 0 where
  rejected : ℕ → Judgement
  accepted : Sheet → Judgement

-- 2: "on a page, rows not h of w digits"
unfoldable pub rows_fit : ℕ → ℕ → List (List ℕ) → Bool
rows_fit h w rows = all (λ ds. eqb (length ds) w) rows && eqb h (length rows)

-- 3: "a colour not 0 or 1"
unfoldable pub low : ℕ → Bool
low d = leb d 1

unfoldable pub two_colours : List (List ℕ) → Bool
two_colours rows = all (λ ds. all low ds) rows

-- 1: "h or w outside 1 to 32". A clue of any size is accepted: "Such a page is to be loaded like any other"; "Number 11
-- is retired and not used again"
unfoldable pub judge_sheet : Sheet → Judgement
judge_sheet p =
    cond (size_right p.height p.width)
    (cond (rows_fit p.height p.width p.rows)
    (cond (two_colours p.rows) (accepted p) (rejected 3))
    (rejected 2))
    (rejected 1)

-- 10: "page malformed, clue cell off the page or given twice"
unfoldable pub judge_read : Option Sheet → Judgement
judge_read none = rejected 10
judge_read (some p) = judge_sheet p

unfoldable pub judgement_of : List ℕ → Judgement
judgement_of s = judge_read (page_of s)

-- "Cell (y,x) is number y·w+x"
unfoldable pub colours_of : Sheet → List ℕ
colours_of p = flat_map (λ ds. ds) p.rows

unfoldable pub clue_on : ℤ → List Clue → ℕ → ℕ → ℤ
clue_on z [] y x = z
clue_on z (c ∷ cs) y x = cond (eqb y c.y && eqb x c.x) (pos c.n) (clue_on z cs y x)

-- "−1 is none"
unfoldable pub clues_of : Sheet → List ℤ
clues_of p = table (p.height * p.width) (λ i. clue_on (negsuc 0) p.clues (i / p.width) (i % p.width))

unfoldable pub colour_array : List (List ℕ) → List ℕ
colour_array rows = sets (replicate 1024 0) 0 (flat_map (λ ds. ds) rows)

unfoldable pub placed : ℕ → List ℤ → List Clue → List ℤ
placed w m [] = m
placed w m (c ∷ cs) = placed w (set m (c.y * w + c.x) (pos c.n)) cs

unfoldable pub clue_array : ℕ → List Clue → List ℤ
clue_array w cs = cond (leb w 32) (placed w (replicate 1024 (negsuc 0)) cs) (replicate 1024 (negsuc 0))
