-- The search lays what the turn wrote, and that is the image.
use mathlib.Core.Path.{ap, ◌∙◌}
use native.Mathlib.Omega.{arith}
use Rattle.fitting.proofs.images.row_fits.Goals as goal

pub turn_row-requires : goal.turn_row-requires
turn_row-requires c = (c.requires.0, c.requires.3, c.requires.4, omega arith)

pub mask_fits-requires : goal.mask_fits-requires
mask_fits-requires c = (c.requires.1, c.requires.2, rw c.joint_count.ensures c.turn_row.ensures.0)

pub returns : goal.returns
returns c =
    let e = c.turn_row.ensures in
    λ F a. rw c.joint_count.ensures at c.mask_fits.ensures ∙ (a _ _ e.0 ∙ ap F e.1)
