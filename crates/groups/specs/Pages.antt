-- Pages: the groups of a page, by kind.
--
--   groups_in kind h w cs bs  the page's groups of one kind, from its arrays of colours and borders
--   kind_number kind Z s      block_of, unit_of or potential_of, by kind
--   kind_count kind Z s       block_count, unit_count or potential_count, by kind
--   head_of xs                the first of some cells
--   potential_in Z s U        the potential unit of unit U: that of its first cell
--   Drawn h w cs              the page's size is right, and the colours are 0 and 1
use Rattle.std.specs.Prelude.{List, ℕ, ◌≤◌, get_or}
use Rattle.rules.specs.Page.{Puzzle, State}
use Rattle.rules.specs.Flat.{flat, Sized}
use Rattle.rules.specs.Groups.{block_of, block_count, unit_of, unit_count, potential_of, potential_count, members}
use Rattle.groups.specs.declared.Kind.{Kind}
use Rattle.groups.specs.declared.Kind.TheVariants.{Blocks, Units, Potential}
use Rattle.groups.specs.Parts.{Groups, groups_of}
use Rattle.groups.specs.Kinds.{joins_in}

abbrev pub groups_in : Kind → ℕ → ℕ → List ℕ → List ℕ → Groups
groups_in kind h w cs bs = groups_of (flat h w) (joins_in kind h w cs bs)

abbrev pub kind_number : Kind → Puzzle → (ℕ → State) → ℕ → ℕ
kind_number Blocks Z s = block_of Z s
kind_number Units Z s = unit_of Z s
kind_number Potential Z s = potential_of Z s

abbrev pub kind_count : Kind → Puzzle → (ℕ → State) → ℕ
kind_count Blocks Z s = block_count Z s
kind_count Units Z s = unit_count Z s
kind_count Potential Z s = potential_count Z s

abbrev pub head_of : List ℕ → ℕ
head_of xs = get_or xs 0 0

unfoldable pub potential_in : Puzzle → (ℕ → State) → ℕ → ℕ
potential_in Z s U = potential_of Z s (head_of (members Z.page (unit_of Z s) U))

pub record Drawn (h w : ℕ) (cs : List ℕ) : Type 0 where
  pub sized : Sized h w
  pub two : (c : ℕ) → get_or cs c 0 ≤ 1
