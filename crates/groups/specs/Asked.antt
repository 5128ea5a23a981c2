-- Groups asked of a board.
--
--   asked_of b kind  what asking a board for its groups of one kind returns
use Rattle.std.specs.Prelude.{cond, Result, Ok, Err}
use Rattle.board.specs.declared.Board.{Board}
use Rattle.board.specs.declared.Refusal.{Refusal}
use Rattle.board.specs.declared.Refusal.TheVariants.{Alien}
use Rattle.board.specs.Alien.{is_alien}
use Rattle.board.specs.View.{puzzle_of, states_of}
use Rattle.groups.specs.declared.Grouping.{Grouping}
use Rattle.groups.specs.declared.Kind.{Kind}
use Rattle.groups.specs.Grouping.{grouping_of}
use Rattle.groups.specs.Kinds.{link_of}
use Rattle.groups.specs.Parts.{groups_of}

-- "Groups or transforms asked of an alien board give 5 and none": the error is both, since its number is 5 and no
-- groups come with it
unfoldable pub asked_of : Board → Kind → Result Grouping Refusal
asked_of b kind =
    cond (is_alien b)
    (Err Alien)
    (Ok (grouping_of (groups_of (puzzle_of b).page (link_of kind (puzzle_of b) (states_of b)))))
