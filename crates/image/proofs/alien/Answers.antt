-- `alien` meets its contract: the length, and then the test of the board.
use Rattle.std.proofs.Common.{◌∙◌, ap, ne_eqb}
use Rattle.board.specs.Alien.{is_alien}
use Rattle.image.specs.CallLaws.{alien-length, alien-board}
use Rattle.image.proofs.alien.Goals as goal

pub returns-then-image-ne-LENGTH : goal.returns-then-image-ne-LENGTH
returns-then-image-ne-LENGTH c =
    rw (ne_eqb _ 11082 c.if-image-ne-LENGTH.true) (alien-length _ c.if-image-ne-LENGTH.true)

pub returns-else-image-ne-LENGTH : goal.returns-else-image-ne-LENGTH
returns-else-image-ne-LENGTH c =
    c.alien.ensures ∙ ap is_alien c.board.ensures ∙ alien-board _ c.if-image-ne-LENGTH.false
