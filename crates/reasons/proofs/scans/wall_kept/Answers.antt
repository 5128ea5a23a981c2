-- Each return by the tests that led there.
use Rattle.std.proofs.Common.{◌≡◌, ◌∙◌, eq-eqb, ne_eqb}
use Rattle.std.proofs.Math.Bool.{◌&&◌, beq}
use Rattle.std.proofs.Math.Dec.{eqb}
use Rattle.std.proofs.Math.ListN.{get_or}
use Rattle.rules.specs.Groups.{entry}
use Rattle.rules.specs.Codes.{colours_in}
use Rattle.laws.specs.CodeLaws.{state-wall}
use Rattle.reasons.specs.Arrays.{wall_kept}
use Rattle.reasons.proofs.scans.wall_kept.Goals.{Joined-wall, then-wall, else-wall}
use Rattle.reasons.proofs.scans.wall_kept.Goals as goal

-- what the first two tests say
both : (c : Joined-wall) → let a = c.args in
    c.if-wall.value ≡ (eqb (get_or a.borders.now a.n.border 0) 1
    && beq (beq (colours_in a.colours.now a.c) (colours_in a.colours.now a.n.to)) a.same)
both c =
    elim c.if-wall.branch [
      | then-wall w ↦ rw (eq-eqb _ _ w.if-wall.true) (w.value-is ∙ rw w.one_colour.ensures)
      | else-wall w ↦ rw (ne_eqb _ _ w.if-wall.false) (w.value-is ∙ rw (ne_eqb _ _ w.if-wall.false))
    ]

pub returns-then-one_colour-same : goal.returns-then-one_colour-same
unfolding wall_kept entry
returns-then-one_colour-same c =
    rw (
      state-wall,
      ← both (goal.at.returns-then-one_colour-same c).Joined-wall,
      c.if-one_colour-same.true,
      c.is_flagged.ensures,
      c.group_of.ensures,
    )

pub returns-else-one_colour-same : goal.returns-else-one_colour-same
unfolding wall_kept
returns-else-one_colour-same c =
    rw (state-wall, ← both (goal.at.returns-else-one_colour-same c).Joined-wall, c.if-one_colour-same.false)
