-- Nothing where the page is clean; else the first of the rows.
use Rattle.std.proofs.Common.{rules, arith, sym, ◌≡◌, ◌∙◌, ◌*◌}
use Rattle.groups.specs.Grouping.{numbers_in}
use Rattle.walls.specs.Breaches.{breach_from}
use Rattle.walls.specs.WallCases.{breach_at, from-rows, page-start}
use Rattle.walls.proofs.first_breach.Goals as goal

pub returns-then-is_clean : goal.returns-then-is_clean
returns-then-is_clean c = c.is_clean.ensures c.if-is_clean.true

pub returns : goal.returns
returns c =
    let a = c.args in
    let f = breach_at a.h a.w a.borders.now (numbers_in a.blocks.now) in
    let e : 0 * a.w ≡ 0 = omega arith in
    c.first_of.ensures (λ y. breach_from f a.w (y * a.w)) (λ i r l p. search rules)
    ∙ rw (from-rows f a.w a.h 0, e) (sym (page-start _ _ _ _))
