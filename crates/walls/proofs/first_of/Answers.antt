-- What is left is the whole.
use Rattle.std.proofs.Common.{arith, sym, ◌≡◌, ◌∙◌, ◌-◌}
use Rattle.walls.specs.WallCases.{from_end, from-next, or-found, or-missed}
use Rattle.walls.proofs.first_of.Goals as goal

pub returns-then-is_some : goal.returns-then-is_some
returns-then-is_some g c f e =
    or-found c.at-found.result _ (sym c.if-is_some.ensures)
    ∙ (rw (← e c.loop-i.i c.at-found.result c.loop-i-test.true c.at-found.ensures) at
    (sym (from-next f c.args.n c.loop-i.i c.loop-i-test.true)))
    ∙ sym (c.loop-i.invariant f e)

pub loop-i-preserved : goal.loop-i-preserved
loop-i-preserved g c f e =
    c.loop-i.invariant f e
    ∙ from-next f _ c.loop-i.i c.loop-i-test.true
    ∙ rw (← e c.loop-i.i c.at-found.result c.loop-i-test.true c.at-found.ensures)
    (sym (or-missed c.at-found.result _ (sym c.if-is_some.ensures)))

pub returns : goal.returns
returns g c f e =
    let z : c.args.n - c.loop-i.i ≡ 0 = omega arith in
    from_end f _ z _ ∙ sym (c.loop-i.invariant f e)
