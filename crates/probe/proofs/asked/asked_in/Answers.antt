-- The two cases: an image of another length, and the board that the image spells.
use Rattle.std.proofs.Common.{◌∙◌, ap}
use Rattle.groups.specs.Asked.{asked_of}
use Rattle.probe.specs.ProbeAskedLaws.{asked-other, asked-right}
use Rattle.probe.proofs.asked.asked_in.Goals as goal

pub returns-then-s-ne-LENGTH : goal.returns-then-s-ne-LENGTH
returns-then-s-ne-LENGTH c = asked-other _ c.args.kind c.if-s-ne-LENGTH.true

pub returns : goal.returns
returns c =
    let k = c.args.kind in
    c.asked.ensures ∙ (ap (λ b. asked_of b k) c.board.ensures ∙ asked-right _ k c.if-s-ne-LENGTH.false)
