-- `rest` meets its contract.
use Rattle.page.specs.ParserLaws.{rest-cut}
use Rattle.page.proofs.bytes.rest.Goals as goal

pub returns : goal.returns
returns c = rest-cut _ _ _ c.min.ensures
