-- `put_fresh` meets its contract: what it stores over zeros is the image of the fresh board.
use Rattle.std.proofs.Common.{◌∙◌, ap₂}
use Rattle.board.specs.Alien.{borders_of}
use Rattle.board.specs.ConditionLaws.{borders-of}
use Rattle.image.proofs.MakingLaws.{fresh-bytes}
use Rattle.image.proofs.making.put_fresh.Goals as goal

pub returns : goal.returns
returns c =
    let p = c.requires in
    let a = c.args in
    let m = c.border_count-total.ensures ∙ ap₂ borders_of c.from.ensures c.from-2.ensures ∙ borders-of p.1 in
    c.put_clues.ensures
    ∙ rw (c.put_colours.ensures, c.put_two.ensures, c.fill.ensures.after (λ y e. e))
    (fresh-bytes a.height a.width a.colours.now a.clues.now p.2 p.3 _ _ p.0 m)
