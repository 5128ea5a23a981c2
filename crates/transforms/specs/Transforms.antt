-- A unit's listed transforms as they are handed back.
--
--   nothing             the shape without cells
--   kth ts k            transform k of a list, counted from 0; nothing past its end
--   down_across p       a place as numbers: down and across
--   words t             a shape as numbers: its cells, then its connections
--   room                the least memory that is lent: 1,024 cells and 2,048 connections, two numbers each
--   transformed n t     how many transforms the unit has, and the counts of one of them
--   kth_answer ts k     what is given of transform k of a list
--   kth_memory ts k m   the lent memory m after it is written
--   transform_of b u k n  what asking a board for transform k of unit u returns, where n numbers of memory are lent
--   memory_after b u k m  the lent memory m afterwards
--   WrotePoints m from ps after next  the places ps were written into m from the number `from`: `after` is the
--                       memory afterwards, and `next` the place after the last number
use Rattle.std.specs.Prelude.{cond, List, [], ◌∷◌, ◌++◌, ℕ, ltb, ℤ, length, get_or, Result, Ok, Err}
use Rattle.std.proofs.lemmas.List.Edits.{sets}
use Rattle.lists.specs.Lists.{flat_map}
use Rattle.lists.specs.Wrote.{WroteAs}
use Rattle.rules.specs.Page.{Point, Shape}
use Rattle.rules.specs.Check.{transforms_of}
use Rattle.board.specs.declared.Board.{Board}
use Rattle.board.specs.declared.Refusal.{Refusal}
use Rattle.board.specs.declared.Refusal.TheVariants.{Alien, Short}
use Rattle.board.specs.Alien.{is_alien}
use Rattle.board.specs.View.{puzzle_of, states_of}
use Rattle.transforms.specs.declared.Transformed.{Transformed}

abbrev pub nothing : Shape
nothing = record { cells = []; connections = [] }

unfoldable pub kth : List Shape → ℕ → Shape
kth ts k = get_or ts k nothing

abbrev pub down_across : Point → List ℤ
down_across p = p.row ∷ p.column ∷ []

unfoldable pub words : Shape → List ℤ
words t = flat_map down_across (t.cells ++ t.connections)

abbrev pub room : ℕ
room = 6144

abbrev pub transformed : ℕ → Shape → Transformed
transformed n t = record { listed = n; cells = length t.cells; connections = length t.connections }

unfoldable pub kth_answer : List Shape → ℕ → Transformed
kth_answer ts k = transformed (length ts) (kth ts k)

unfoldable pub kth_memory : List Shape → ℕ → List ℤ → List ℤ
kth_memory ts k m = sets m 0 (words (kth ts k))

-- "Groups or transforms asked of an alien board give 5 and none"; a refused call gives none either
unfoldable pub transform_of : Board → ℕ → ℕ → ℕ → Result Transformed Refusal
transform_of b u k n =
    cond (is_alien b) (Err Alien)
    (cond (ltb n room) (Err Short) (Ok (kth_answer (transforms_of (puzzle_of b) (states_of b) u) k)))

-- a refused call leaves the memory; nothing is written beyond the transform
unfoldable pub memory_after : Board → ℕ → ℕ → List ℤ → List ℤ
memory_after b u k m =
    cond (is_alien b) m (cond (ltb (length m) room) m (kth_memory (transforms_of (puzzle_of b) (states_of b) u) k m))

abbrev pub WrotePoints : List ℤ → ℕ → List Point → List ℤ → ℕ → Type 0
WrotePoints m from ps after next = WroteAs down_across m from ps after next
