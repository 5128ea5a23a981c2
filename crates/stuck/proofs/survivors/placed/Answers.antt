-- The two cases of the definition.
use mathlib.Core.Path.{sym, ◌∙◌}
use native.Mathlib.Omega.{arith}
use Rattle.stuck.specs.PlacedLaws.{placed-some, drawn-places-none}
use Rattle.stuck.proofs.survivors.placed.Goals as goal

pub laid_back-requires : goal.laid_back-requires
laid_back-requires c = (
  c.requires.0,
  c.requires.1,
  omega (arith, c.requires.3, c.requires.0.tall),
  omega (arith, c.requires.4, c.requires.0.broad),
  c.requires.2.each _ _ c.requires.3 c.requires.4 (sym c.has.ensures ∙ c.if-has.true),
)

pub returns-then-has : goal.returns-then-has
returns-then-has c =
    c.laid_back.ensures
    ∙ sym
    (placed-some c.args.h c.args.w c.args.borders.now c.args.rows.now c.args.turned.now
    c.args.n c.args.y c.args.x
    (sym c.has.ensures ∙ c.if-has.true))

pub returns-else-has : goal.returns-else-has
returns-else-has c =
    sym
    (drawn-places-none c.args.h c.args.w c.args.borders.now c.args.rows.now c.args.turned.now
    c.args.n c.args.y c.args.x (sym c.has.ensures ∙ c.if-has.false))
