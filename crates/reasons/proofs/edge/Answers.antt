-- Edge is a scan with its own group flagged; the flag is taken back.
use mathlib.Core.Path.{◌≡◌}
use mathlib.Core.Bool.{true}
use lib.ListN.{set}
use Rattle.groups.specs.Grouping.{numbers_in, group_cells}
use Rattle.reasons.specs.Arrays.{edge_in, scan_of}
use Rattle.reasons.specs.ScanLaws.{Alone, alone, flag-back, edge-scan}
use Rattle.reasons.proofs.edge.Goals.{Start}
use Rattle.reasons.proofs.edge.Goals as goal

flag : (s : Start) → Alone (set s.args.flagged.now s.args.g 1) s.args.g
flag s = alone s.args.flagged.now s.args.g s.requires.5 s.requires.3.few

whole : (s : Start) → let a = s.args in
    edge_in a.h a.w a.colours.now a.borders.now (numbers_in a.grouping.now) a.g
    ≡ scan_of a.h a.w a.colours.now a.borders.now (numbers_in a.grouping.now) true
    (set a.flagged.now a.g 1) (group_cells a.grouping.now a.g)
whole s = let a = s.args in edge-scan a.colours.now a.borders.now s.requires.3.is (flag s)

pub returns : goal.returns
returns c = (
  rw (whole (goal.at.returns c).Start) c.scan_walls-at.ensures,
  flag-back c.args.flagged.now c.args.g c.requires.5 c.requires.3.few,
)
