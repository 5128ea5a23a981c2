-- The three kinds of groups, by the borders that join their cells.
--
--   link_of kind Z s         the test of a border, for the puzzle Z with the borders s
--   joins_in kind h w cs bs  the same test, for arrays of colours and borders
--   one_colour_by a b        the colours a and b are one
--   joins_by kind v a b      the same of a border's number and its two cells' colours: what the code computes
use Rattle.std.specs.Prelude.{Bool, not, ◌&&◌, List, ℕ, eqb}
use Rattle.std.specs.Bool.{beq}
use Rattle.rules.specs.Page.{Puzzle, State, is_open, is_wall}
use Rattle.rules.specs.Rules.{joins_block, joins_unit}
use Rattle.rules.specs.Groups.{joins_potential}
use Rattle.rules.specs.Codes.{unclued, state_of, states_in}
use Rattle.groups.specs.declared.Kind.{Kind}
use Rattle.groups.specs.declared.Kind.TheVariants.{Blocks, Units, Potential}

-- "Blocks join over open borders, units over open borders of one colour, potential units over open or undecided
-- borders of one colour"
unfoldable pub link_of : Kind → Puzzle → (ℕ → State) → ℕ → Bool
link_of Blocks Z s = joins_block Z s
link_of Units Z s = joins_unit Z s
link_of Potential Z s = joins_potential Z s

unfoldable pub joins_in : Kind → ℕ → ℕ → List ℕ → List ℕ → ℕ → Bool
joins_in kind h w cs bs = link_of kind (unclued h w cs) (states_in bs)

-- both are 1, or neither is
unfoldable pub one_colour_by : ℕ → ℕ → Bool
one_colour_by a b = beq (eqb a 1) (eqb b 1)

unfoldable pub joins_by : Kind → ℕ → ℕ → ℕ → Bool
joins_by Blocks v a b = is_open (state_of v)
joins_by Units v a b = is_open (state_of v) && one_colour_by a b
joins_by Potential v a b = not (is_wall (state_of v)) && one_colour_by a b
