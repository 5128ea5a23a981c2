-- The path is written and handed out.
use Rattle.probe.specs.Probe.{path_words}
use Rattle.probe.specs.ProbeLaws.{path-held, literals}
use Rattle.probe.proofs.put_path.Goals as goal

pub returns : goal.returns
unfolding path_words
returns c =
    literals _ (path-held c.requires.0 c.args.borders.now c.args.a c.args.b)
    (rw c.places-states.ensures at c.path-n.ensures) c.hand_out.ensures
