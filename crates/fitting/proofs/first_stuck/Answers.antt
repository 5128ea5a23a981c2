-- Units of one cell are passed first; the search goes on where they end.
use Rattle.fitting.specs.HeldLaws.{nearby-none}
use Rattle.fitting.specs.FirstStuckLaws.{passed-done}
use Rattle.fitting.proofs.first_stuck.Goals as goal

pub after_singles-u-requires : goal.after_singles-u-requires
after_singles-u-requires c = (
  c.requires,
  nearby-none c.args.h c.args.w c.args.colours.now c.args.borders.now,
)

pub returns-then-count_of-u : goal.returns-then-count_of-u
returns-then-count_of-u c =
    let e = c.count_of.ensures in
    passed-done c.after_singles-u.ensures.0 (rw e at c.if-count_of-u.true)

pub stuck_from-requires : goal.stuck_from-requires
stuck_from-requires c = (c.requires, c.after_singles-u.ensures.0, c.after_singles-u.ensures.1)

pub returns : goal.returns
returns c = c.stuck_from.ensures
