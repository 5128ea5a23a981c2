-- `transforms::put_listed` meets its contract: nothing past the last transform, and otherwise the image by its row.
-- the listed rows are rows of the table
use mathlib.Core.Path.{refl, sym, ◌∙◌}
use native.Mathlib.Omega.{arith}
use borrow.Author.Rules.{rules}
use Rattle.rules.specs.Flat.{flat}
use Rattle.rules.specs.Groups.{entry}
use Rattle.rules.specs.Shapes.{shape_of, flat_transforms}
use Rattle.groups.specs.Grouping.{numbers_in}
use Rattle.shapes.specs.Listing.{Rows}
use Rattle.shapes.specs.ListingLaws.{rows-listed}
use Rattle.transforms.specs.AnswerLaws.{listed-count, past-answer, past_memory, listed_answer, listed-memory}
use Rattle.transforms.specs.ImageLaws.{cell-count, joint-count}
use Rattle.transforms.proofs.put_listed.Goals.{Start}
use Rattle.transforms.proofs.put_listed.Goals as goal

rows : (c : Start) → Rows c.args.listed.now
rows c =
    rw c.requires.2 (rows-listed (shape_of (flat c.args.h c.args.w) (entry (numbers_in c.args.units.now)) c.args.g))

pub returns-then-listed-k : goal.returns-then-listed-k
returns-then-listed-k c =
    let u = c.requires.0 in
    let ids = numbers_in c.args.units.now in
    let ts = flat_transforms (shape_of (flat c.args.h c.args.w) (entry ids) c.args.g) in
    let e = listed-count c.args.h c.args.w ids c.args.g u.sized.columns c.requires.2 in (
      c.none.ensures ∙ past-answer ts c.args.k (omega (arith, e)) e,
      past_memory ts c.args.k (omega (arith, e)) c.args.memory.now,
    )

pub put_image-requires : goal.put_image-requires
put_image-requires c = (
  rw c.from.ensures ((rows (goal.at.put_image-requires c).Start).low c.args.k (search rules)),
  c.requires.0,
  c.requires.1,
  c.requires.3,
)

pub returns : goal.returns
returns c =
    let u = c.requires.0 in
    let ids = numbers_in c.args.units.now in
    let k = c.args.k in
    let w = u.sized.columns in (
      listed_answer c.args.h c.args.w ids c.args.g w c.requires.2 k (search rules)
          (cell-count u _ ∙ sym c.cell_count.ensures)
          (joint-count u _ refl c.requires.1 ∙ sym c.joint_count.ensures),
      listed-memory c.args.h c.args.w ids c.args.g w c.requires.2 k (search rules)
          c.args.memory.now (rw c.from.ensures at c.put_image.ensures),
    )
