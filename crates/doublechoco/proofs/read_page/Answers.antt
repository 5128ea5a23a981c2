-- `read_page` meets its contract: the bytes read lie within the page.
use Rattle.std.proofs.Common.{sym}
use Rattle.std.proofs.Math.Seq.{length-take-le}
use Rattle.doublechoco.proofs.read_page.Goals as goal

pub returns-clause-ok : goal.returns-clause-ok
returns-clause-ok g c = (c.loop-n.invariant, sym (length-take-le _ _ c.loop-n.invariant))
