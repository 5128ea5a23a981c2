-- `transforms::put_cell` meets its contract: one place is written where the test holds, and none otherwise.
-- the test is that of the place of the box
use mathlib.Core.Path.{◌≡◌, sym, ap, ◌∙◌}
use mathlib.Core.List.{[], ◌∷◌}
use native.Mathlib.Omega.{arith}
use lib.ListN.{length}
use Rattle.lists.specs.WroteLaws.{wrote_none, wrote-same}
use Rattle.rules.specs.Page.{Point, ◌⊕◌, opposite}
use Rattle.rules.specs.Groups.{entry}
use Rattle.groups.specs.Grouping.{numbers_in}
use Rattle.shapes.specs.Pairs.{point_of}
use Rattle.transforms.specs.Box.{box_at, of_image}
use Rattle.transforms.specs.ImageLaws.{cell-yes, cell-no}
use Rattle.transforms.proofs.put_cell.Goals.{After-of_image}
use Rattle.transforms.proofs.put_cell.Goals as goal

tested : (c : After-of_image) → c.of_image.result
    ≡ of_image c.args.h c.args.w (entry (numbers_in c.args.units.now)) c.args.g
    c.args.row (box_at c.args.i)
tested c =
    c.of_image.ensures
    ∙ ap (of_image c.args.h c.args.w (entry (numbers_in c.args.units.now)) c.args.g c.args.row)
    c.box_place-p.ensures.0

pub put-requires : goal.put-requires
put-requires c =
    let e = cell-yes c.args.h c.args.w (entry (numbers_in c.args.units.now)) c.args.g c.args.row
    (point_of c.args.m) c.args.i (sym (tested (goal.at.put-requires c).After-of_image) ∙ c.if-of_image.true) in
    omega (arith, c.requires.5, ap length e)

pub returns-then-of_image : goal.returns-then-of_image
returns-then-of_image c =
    let m = point_of c.args.m in
    wrote-same
    (ap (λ (p : Point). p ∷ [])
    (c.sub.ensures ∙ ap (λ p. p ⊕ opposite m) c.box_place-p.ensures.0)
    ∙ sym (cell-yes c.args.h c.args.w (entry (numbers_in c.args.units.now)) c.args.g c.args.row m
    c.args.i (sym (tested (goal.at.returns-then-of_image c).After-of_image) ∙ c.if-of_image.true)))
    c.put.ensures

pub returns-else-of_image : goal.returns-else-of_image
returns-else-of_image c =
    wrote-same
    (sym (cell-no c.args.h c.args.w (entry (numbers_in c.args.units.now)) c.args.g c.args.row
    (point_of c.args.m) c.args.i (sym (tested (goal.at.returns-else-of_image c).After-of_image) ∙ c.if-of_image.false)))
    (wrote_none _ _)
