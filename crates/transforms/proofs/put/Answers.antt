-- `transforms::put` meets its contract: the two numbers are stored as they are.
use borrow.Author.Rules.{rules}
use Rattle.shapes.specs.Pairs.{point_of}
use Rattle.transforms.specs.ImageLaws.{wrote-point}
use Rattle.transforms.proofs.put.Goals as goal

pub returns : goal.returns
returns c = wrote-point c.args.memory.now c.args.at (point_of c.args.p) (search rules) (search rules)
