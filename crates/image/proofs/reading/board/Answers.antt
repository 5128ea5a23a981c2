-- `board` meets its contract: each field is what its reader returns.
use Rattle.std.proofs.Common.{◌∙◌, sym, arith}
use Rattle.lists.specs.TableLaws.{table-part}
use Rattle.board.specs.Alien.{board_of}
use Rattle.image.specs.Image.{spelled_board}
use Rattle.image.proofs.reading.board.Goals as goal

pub returns : goal.returns
unfolding spelled_board
returns c =
    let s = c.args.s.now in
    λ i.
    board_of (c.from.ensures i) (c.from-2.ensures i)
    ((c.copy_from_slice.ensures.after ∙ sym (table-part 2 1024 0 s (omega arith))) i)
    (c.clues.ensures i)
    ((c.copy_from_slice-2.ensures.after ∙ sym (table-part 5122 1984 0 s (omega arith))) i)
    (c.stack.ensures i)
    ((c.from-3.ensures ∙ c.two.ensures) i)
    (c.tally.ensures i)
