-- `transforms::of_image` meets its contract: the coordinates are small, and are read back as they were.
use mathlib.Core.Path.{refl, sym, ap, ap₂, ◌∙◌}
use borrow.Author.Rules.{rules}
use Rattle.rules.specs.Groups.{entry}
use Rattle.rules.specs.Turns.{apply}
use Rattle.laws.specs.PointLaws.{point-eq}
use Rattle.groups.specs.Grouping.{numbers_in}
use Rattle.shapes.specs.Pairs.{point_at, point_of}
use Rattle.shapes.specs.PairLaws.{small-back}
use Rattle.shapes.specs.Rows.{turn_at}
use Rattle.shapes.specs.Spots.{has_cell}
use Rattle.transforms.specs.Box.{undone_by, of_image}
use Rattle.transforms.specs.BoxLaws.{undo-turn}
use Rattle.transforms.proofs.of_image.Goals as goal

pub returns : goal.returns
unfolding of_image
returns c =
    let a = c.apply_back-q in
    c.has_cell.ensures
    ∙ ap (has_cell c.args.h c.args.w (entry (numbers_in c.args.units.now)) c.args.g)
    (point-eq refl (search rules) (search rules)
    ∙ (sym (undo-turn c.args.row (point_of a.result))
    ∙ ap (apply (turn_at (undone_by c.args.row)))
    (a.ensures
    ∙ ap₂ point_at (small-back c.args.p.y c.requires.3.down) (small-back c.args.p.x c.requires.3.across))))
