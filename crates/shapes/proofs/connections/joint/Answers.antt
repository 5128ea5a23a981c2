-- `shapes::joint` meets its contract: a doubled place is small, and so is its image.
-- the two places read are those of the connection
use mathlib.Core.Path.{◌≡◌, ap, ap₂, ◌∙◌}
use Prim.Native.Nat.{◌+◌}
use native.Mathlib.Omega.{arith}
use lib.IntN.{pos}
use lib.ListN.{get_or}
use Rattle.lists.specs.SectionLaws.{section-at}
use Rattle.rules.specs.Page.{◌⊕◌, opposite}
use Rattle.rules.specs.Turns.{apply}
use Rattle.laws.specs.PointLaws.{add_assoc}
use Rattle.shapes.specs.Outlines.{down_in, across_in}
use Rattle.shapes.specs.Rows.{turn_at}
use Rattle.shapes.specs.Pairs.{point_at, point_of, SmallPair}
use Rattle.shapes.specs.PairLaws.{read_back, differences-fit, again-fit}
use Rattle.shapes.specs.Spots.{joint_spot}
use Rattle.shapes.specs.JointLaws.{turned-small}
use Rattle.shapes.proofs.connections.joint.Goals.{After-apply, Start}
use Rattle.shapes.proofs.connections.joint.Goals as goal

down-at : (s : Start) → get_or s.args.outline.now (2048 + s.args.j) 0
    ≡ get_or (down_in s.args.outline.now) s.args.j 0
down-at s = section-at 2048 2048 s.args.outline.now s.args.j s.requires.1.inside

across-at : (s : Start) → get_or s.args.outline.now (4096 + s.args.j) 0
    ≡ get_or (across_in s.args.outline.now) s.args.j 0
across-at s = section-at 4096 2048 s.args.outline.now s.args.j s.requires.1.inside

-- the image of the doubled place
turned : (c : After-apply) → point_of c.apply.result
    ≡ apply (turn_at c.args.row)
    (joint_spot c.args.outline.now
    c.args.j)
turned c =
    c.apply.ensures
    ∙ ap₂ (λ y x. apply (turn_at c.args.row) (point_at y x))
    (read_back _ c.from-y.ensures (omega (arith, down-at (goal.at.After-apply c).Start, c.requires.1.down))
    ∙ ap pos (down-at (goal.at.After-apply c).Start))
    (read_back _ c.from-x.ensures
    (omega (arith, across-at (goal.at.After-apply c).Start, c.requires.1.across))
    ∙ ap pos (across-at (goal.at.After-apply c).Start))

pub apply-requires : goal.apply-requires
apply-requires c =
    let j = c.requires.1 in (
      c.requires.0,
      rw (read_back _ c.from-y.ensures (omega (arith, down-at (goal.at.apply-requires c).Start, j.down)))
          (omega (arith, down-at (goal.at.apply-requires c).Start, j.down)),
      rw (read_back _ c.from-x.ensures (omega (arith, across-at (goal.at.apply-requires c).Start, j.across)))
          (omega (arith, across-at (goal.at.apply-requires c).Start, j.across)),
    )

-- the image and the shift are small, and so is the image shifted once
small : (c : After-apply) → SmallPair c.apply.result
small c = turned-small c.args.row c.apply.result _ _ (turned c) c.requires.1.down c.requires.1.across

pub sub-requires : goal.sub-requires
sub-requires c = differences-fit _ _ (small c) c.requires.2

pub sub-requires-2 : goal.sub-requires-2
sub-requires-2 c = again-fit _ _ _ c.sub.ensures (small (goal.at.sub-requires-2 c).After-apply) c.requires.2

pub returns : goal.returns
returns c =
    let m = opposite (point_of c.args.m) in
    c.sub-2.ensures
    ∙ (ap (λ p. p ⊕ m) c.sub.ensures
    ∙ (add_assoc _ m m ∙ ap (λ p. p ⊕ (m ⊕ m)) (turned (goal.at.returns c).After-apply)))
