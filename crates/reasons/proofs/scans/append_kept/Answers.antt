-- The border to the neighbour, kept or not.
use Rattle.std.proofs.Common.{sym, ◌∙◌}
use Rattle.reasons.specs.ScanLaws.{gather-off, gather-kept, gather-dropped}
use Rattle.reasons.proofs.MemoryLaws.{naming-none}
use Rattle.reasons.proofs.scans.append_kept.Goals.{in_default-2, in_default}
use Rattle.reasons.proofs.scans.append_kept.Goals as goal

pub returns-in-Some : goal.returns-in-Some
returns-in-Some g c test e =
    rw (
      c.in-Some.is,
      gather-kept c.args.side test c.in-Some.n (sym c.if-keeps.true
          ∙ e c.in-Some.n c.keeps.result c.keeps.ensures),
    )
    c.append.ensures

pub returns : goal.returns
returns g c test e =
    elim c.match-neighbour.branch [
      | in_default-2 w ↦
          rw (
            w.result-is,
            w.in-Some.is,
            gather-dropped c.args.side test w.in-Some.n
                (sym w.if-keeps.false ∙ e w.in-Some.n w.keeps.result w.keeps.ensures),
          )
          (naming-none c.requires.spare)
      | in_default w ↦
          rw (w.result-is, w.in_default.is, gather-off c.args.side test) (naming-none c.requires.spare)
    ]
