-- A word is not 0 exactly if it has a bit.
use mathlib.Core.Path.{sym}
use Rattle.planes.specs.WordLaws.{fits_word}
use Rattle.planes.proofs.line_fits.Goals as goal

pub returns : goal.returns
returns c =
    rw c.line_left.ensures
    (sym (fits_word c.args.planes.now c.args.y c.args.turned.now c.args.word
    c.args.n c.ranges.word.fits))
