-- The bytes that there are, and 0 after them.
use Rattle.std.proofs.Common.{◌∙◌, ap, ◌++◌, drop, replicate}
use Rattle.probe.specs.ProbeLaws.{places-filled}
use Rattle.probe.proofs.places.Goals as goal

pub returns : goal.returns
returns g c =
    let n = c.min-n.result in
    ap (λ l. l ++ drop n (replicate g.row.N 0)) c.copy_from_slice.ensures.after
    ∙ places-filled g.row.N c.args.s.now n c.min-n.ensures
