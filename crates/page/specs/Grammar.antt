-- The page's grammar, 01's "Page program": what a page's bytes spell.
--
--   Sheet                    a page as written: the size, the rows of digits, the clues, the calls
--   space, bracket, newline  the bytes of a space, of `)`, of a newline
--   page_word                the first line, `(page`
--   size_word, row_word, clue_word, decide_word  what these lines start with, up to the space
--   undo_word, check_word    the lines `(undo)` and `(check)`
--   wall_word, open_word     how the line of a decide ends: `1)` for wall, `0)` for open
--   end_word                 the last line, `)`
--   size, row                the parsers of these lines
--   clue_from p              the clue of a row, a column and a number that were read
--   clue                     the parser of a clue's line
--   side                     the parser of a decide's side, to the end of its line
--   decide_from p            the call of a border number and a side that were read
--   decide_call              the parser of a decide's line
--   call                     the parser of a call's line: (decide b s), (undo) or (check)
--   close                    the parser of the last line
--   SheetParts               the size, the rows, the clues and the calls as they are read
--   sheet_from p             the page of these
--   sheet                    the parser of the whole, from (page to the last )
--   on_page h w c            the cell of the clue c is on the page of h rows and w columns
--   same_cell c d            the clues c and d have the same cell
--   clues_fit h w cs         each clue is on the page of h rows and w columns, and no cell is given twice
--   whole o                  the page that was read, if nothing stands after it and its clues fit
--   page_of s                the page that the bytes s spell, if they are well formed
use Rattle.std.specs.Prelude.{Bool, true, not, ◌&&◌, cond, List, [], ◌∷◌, ℕ, length, ltb, leb, eqb}
use Rattle.std.proofs.Math.Option.{Option, none, some}
use Rattle.lists.specs.Lists.{any}
use Rattle.rules.specs.declared.Side.{Side}
use Rattle.rules.specs.declared.Side.TheVariants.{Wall, Open}
use Rattle.rules.specs.declared.Call.{Call}
use Rattle.rules.specs.declared.Call.TheVariants.{Decide, Undo, Check}
use Rattle.page.specs.declared.Clue.{Clue}
use Rattle.page.specs.Parsers.{Parser, lead, followed, both, either, map_r, give, rep, number, digits}

pub record Sheet : Type 0 where
  pub height : ℕ
  pub width : ℕ
  pub rows : List (List ℕ)
  pub clues : List Clue
  pub calls : List Call

-- "single spaces", "nested brackets", "each line ended by a newline"
abbrev pub space : ℕ
space = 32

abbrev pub bracket : ℕ
bracket = 41

abbrev pub newline : List ℕ
newline = 10 ∷ []

-- `(page` and its newline
abbrev pub page_word : List ℕ
page_word = 40 ∷ 112 ∷ 97 ∷ 103 ∷ 101 ∷ 10 ∷ []

-- `(size `
abbrev pub size_word : List ℕ
size_word = 40 ∷ 115 ∷ 105 ∷ 122 ∷ 101 ∷ 32 ∷ []

-- `(row `
abbrev pub row_word : List ℕ
row_word = 40 ∷ 114 ∷ 111 ∷ 119 ∷ 32 ∷ []

-- `(clue `
abbrev pub clue_word : List ℕ
clue_word = 40 ∷ 99 ∷ 108 ∷ 117 ∷ 101 ∷ 32 ∷ []

-- `(decide `
abbrev pub decide_word : List ℕ
decide_word = 40 ∷ 100 ∷ 101 ∷ 99 ∷ 105 ∷ 100 ∷ 101 ∷ 32 ∷ []

-- `(undo)` and its newline
abbrev pub undo_word : List ℕ
undo_word = 40 ∷ 117 ∷ 110 ∷ 100 ∷ 111 ∷ 41 ∷ 10 ∷ []

-- `(check)` and its newline
abbrev pub check_word : List ℕ
check_word = 40 ∷ 99 ∷ 104 ∷ 101 ∷ 99 ∷ 107 ∷ 41 ∷ 10 ∷ []

-- `1)` and a newline, `0)` and a newline
abbrev pub wall_word : List ℕ
wall_word = 49 ∷ 41 ∷ 10 ∷ []

abbrev pub open_word : List ℕ
open_word = 48 ∷ 41 ∷ 10 ∷ []

-- `)` and a newline
abbrev pub end_word : List ℕ
end_word = 41 ∷ 10 ∷ []

-- "(size h w)"
unfoldable pub size : Parser (ℕ × ℕ)
size = lead size_word (both (number space) (followed (number bracket) newline))

-- "one `(row digits)` a row (one digit or more)"
unfoldable pub row : Parser (List ℕ)
row = lead row_word (followed (digits bracket) newline)

-- "(clue y x n)"
abbrev pub clue_from : ℕ × (ℕ × ℕ) → Clue
clue_from p = record { y = p.0; x = p.1.0; n = p.1.1 }

unfoldable pub clue : Parser Clue
clue = map_r clue_from (lead clue_word (both (number space) (both (number space) (followed (number bracket) newline))))

-- "`(decide b s)` (s is 1 for wall, 0 for open)"
unfoldable pub side : Parser Side
side = either (lead wall_word (give Wall)) (lead open_word (give Open))

abbrev pub decide_from : ℕ × Side → Call
decide_from p = Decide (record { border = p.0; side = p.1 })

unfoldable pub decide_call : Parser Call
decide_call = map_r decide_from (lead decide_word (both (number space) side))

-- "calls `(decide b s)` .. `(undo)`, `(check)`"
unfoldable pub call : Parser Call
call = either (lead undo_word (give Undo)) (either (lead check_word (give Check)) decide_call)

-- "and `)`"
unfoldable pub close : Parser (Unit {0})
close = lead end_word (give tt)

-- "`(page`, `(size h w)`, one `(row digits)` a row .. any `(clue y x n)`, then calls .. and `)`"
abbrev pub SheetParts : Type 0
SheetParts = (ℕ × ℕ) × (List (List ℕ) × (List Clue × (List Call × Unit {0})))

abbrev pub sheet_from : SheetParts → Sheet
sheet_from p =
    record {
      height = p.0.0;
      width = p.0.1;
      rows = p.1.0;
      clues = p.1.1.0;
      calls = p.1.1.1.0;
    }

unfoldable pub sheet : Parser Sheet
sheet = map_r sheet_from (lead page_word (both size (rep row (rep clue (rep call close)))))

-- "clue cell off the page or given twice", by the declared size
unfoldable pub on_page : ℕ → ℕ → Clue → Bool
on_page h w c = ltb c.y h && ltb c.x w

unfoldable pub same_cell : Clue → Clue → Bool
same_cell c d = eqb c.y d.y && eqb c.x d.x

unfoldable pub clues_fit : ℕ → ℕ → List Clue → Bool
clues_fit h w [] = true
clues_fit h w (c ∷ cs) = on_page h w c && (not (any (same_cell c) cs) && clues_fit h w cs)

-- "nothing after it"
unfoldable pub whole : Option (Sheet × List ℕ) → Option Sheet
whole none = none
whole (some (p, [])) = cond (clues_fit p.height p.width p.clues) (some p) none
whole (some (p, b ∷ t)) = none

-- "at most 65,536 bytes"; "a longer one is malformed"
unfoldable pub page_of : List ℕ → Option Sheet
page_of s = cond (leb (length s) 65536) (whole (sheet s)) none
