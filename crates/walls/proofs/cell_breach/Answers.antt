-- Below, then right: the first that is found.
use Rattle.std.proofs.Common.{rules, ◌≡◌, ◌∙◌, MatchOption, Some, ◌+◌, ◌*◌}
use Rattle.rules.specs.Codes.{states_in}
use Rattle.rules.specs.Groups.{entry}
use Rattle.groups.specs.Grouping.{numbers_in}
use Rattle.reasons.specs.Arrays.{hops_in}
use Rattle.walls.specs.Breaches.{breach_on}
use Rattle.walls.specs.WallCases.{or_else-is, cell-split}
use Rattle.walls.proofs.cell_breach.Goals as goal

pub returns : goal.returns
returns c =
    let a = c.args in
    let h : MatchOption c.hop_breach.result (c.or_else.result ≡ breach_on (states_in a.borders.now)
    (entry (numbers_in a.blocks.now)) (a.y * a.w + a.x) (hops_in c.step-right.result))
    (λ b. c.or_else.result ≡ Some b) =
    search rules in
    or_else-is _ _ h
    ∙ rw c.hop_breach.ensures
    (cell-split _ _ _ _ c.requires.2 c.requires.3 _ _ _ _ c.step-below.ensures c.step-right.ensures)
