-- The first of the row.
use Rattle.std.proofs.Common.{rules, arith, ◌≡◌, ◌∙◌, ◌+◌, ◌*◌}
use Rattle.groups.specs.Grouping.{numbers_in}
use Rattle.walls.specs.WallCases.{breach_at, from-shift}
use Rattle.walls.proofs.row_breach.Goals as goal

pub returns : goal.returns
returns c =
    let a = c.args in
    let f = breach_at a.h a.w a.borders.now (numbers_in a.blocks.now) in
    let e : a.y * a.w + 0 ≡ a.y * a.w = omega arith in
    c.first_of.ensures (λ x. f (a.y * a.w + x)) (λ i r l p. search rules)
    ∙ rw (from-shift f (a.y * a.w) a.w 0, e)
