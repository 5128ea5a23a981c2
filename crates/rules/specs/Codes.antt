-- Codes: the numbers that stand for states, sides, colours, clues and literals in a board, an image or reason memory.
--
--   state_of v           the state that a border place with the number v has
--   code_of side         the number of a decided border
--   side_in v            the side that a decided border's place v stands for
--   states_in bs         the borders that an array of such numbers spells
--   colours_in cs        the colours that an array of numbers spells
--   clue_of k            no clue below 0, otherwise the clue k
--   clues_in ks          the clues that an array of signed numbers spells
--   clued_by h w cs k    the puzzle on a flat page with the colours that an array spells, and the clues k
--   puzzle_in h w cs ks  the same with the clues that an array spells
--   unclued h w cs       the same without clues
--   side_code side       what a literal's number adds for its side
--   literal_code l       what reason memory holds for the literal l
--   put m from ls        reason memory m with the literals ls written from the place `from`
use Rattle.std.specs.Prelude.{Bool, cond, List, map, ℕ, ◌+◌, ◌*◌, eqb, ℤ, pos, negsuc, get_or}
use Rattle.std.proofs.Math.Option.{Option, some, none}
use Rattle.std.proofs.lemmas.List.Edits.{sets}
use Rattle.rules.specs.declared.Side.{Side}
use Rattle.rules.specs.declared.Side.TheVariants.{Wall, Open}
use Rattle.rules.specs.declared.Literal.{Literal}
use Rattle.rules.specs.Page.{Puzzle, State, undecided, decided}
use Rattle.rules.specs.Flat.{flat}

-- "borders (0 undecided, 1 wall, 2 open)"
abbrev pub state_of : ℕ → State
state_of v = cond (eqb v 1) (decided Wall) (cond (eqb v 2) (decided Open) undecided)

abbrev pub code_of : Side → ℕ
code_of Wall = 1
code_of Open = 2

abbrev pub side_in : ℕ → Side
side_in v = cond (eqb v 1) Wall Open

unfoldable pub states_in : List ℕ → ℕ → State
states_in bs b = state_of (get_or bs b 0)

-- "0-coloured or 1-coloured"
unfoldable pub colours_in : List ℕ → ℕ → Bool
colours_in cs c = eqb (get_or cs c 0) 1

-- "−1 is none; 0 is a clue no unit meets"
abbrev pub clue_of : ℤ → Option ℕ
clue_of (pos n) = some n
clue_of (negsuc n) = none

unfoldable pub clues_in : List ℤ → ℕ → Option ℕ
clues_in ks c = clue_of (get_or ks c (pos 0))

abbrev pub clued_by : ℕ → ℕ → List ℕ → (ℕ → Option ℕ) → Puzzle
clued_by h w cs k = record { page = flat h w; colour = colours_in cs; clue = k }

abbrev pub puzzle_in : ℕ → ℕ → List ℕ → List ℤ → Puzzle
puzzle_in h w cs ks = clued_by h w cs (clues_in ks)

abbrev pub unclued : ℕ → ℕ → List ℕ → Puzzle
unclued h w cs = clued_by h w cs (λ c. none)

-- "a literal is 2·border, plus 1 for wall"
abbrev pub side_code : Side → ℕ
side_code Wall = 1
side_code Open = 0

abbrev pub literal_code : Literal → ℕ
literal_code l = 2 * l.border + side_code l.side

unfoldable pub put : List ℕ → ℕ → List Literal → List ℕ
put m from ls = sets m from (map literal_code ls)
