-- The cases of asking a board for its groups.
use Rattle.std.specs.Prelude.{◌≡◌, true, false, Ok, Err}
use Rattle.std.proofs.Math.Path.{refl}
use Rattle.rules.specs.Flat.{flat}
use Rattle.board.specs.declared.Board.{Board}
use Rattle.board.specs.declared.Refusal.TheVariants.{Alien}
use Rattle.board.specs.Alien.{is_alien}
use Rattle.board.specs.View.{puzzle_of, states_of}
use Rattle.groups.specs.declared.Kind.{Kind}
use Rattle.groups.specs.Kinds.{joins_in, link_of}
use Rattle.groups.specs.KindLaws.{link-in}
use Rattle.groups.specs.Parts.{groups_of}
use Rattle.groups.specs.Grouping.{grouping_of}
use Rattle.groups.specs.Asked.{asked_of}

module _ (b : Board) (k : Kind) where
  pub asked-alien : is_alien b ≡ true → Err Alien ≡ asked_of b k
  unfolding asked_of
  asked-alien e = rw e

  board-link : link_of k (puzzle_of b) (states_of b) ≡ joins_in k b.height b.width b.colours b.borders
  unfolding puzzle_of states_of
  board-link = link-in k (puzzle_of b) b.height b.width b.colours b.borders refl refl

  pub asked-done : is_alien b ≡ false
      → Ok (grouping_of (groups_of (flat b.height b.width)
      (joins_in k b.height b.width b.colours b.borders))) ≡ asked_of b k
  unfolding asked_of puzzle_of
  asked-done e = rw (e, board-link)
