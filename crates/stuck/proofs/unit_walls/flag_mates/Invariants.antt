-- The loop's invariant: the groups before this one are flagged, and no others.
use Rattle.lists.specs.Parts.{part}
use Rattle.stuck.specs.FlagLaws.{Flagged}
use Rattle.stuck.proofs.unit_walls.flag_mates.Given as goal

abbrev pub invariant-loop-mate : goal.invariant-loop-mate
invariant-loop-mate l = Flagged (part l.mates 0 l.mate-index) l.flagged
