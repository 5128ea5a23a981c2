-- The path, and one literal more.
use borrow.Author.Rules.{rules}
use Rattle.reasons.proofs.MemoryLaws.{naming-more}
use Rattle.reasons.proofs.paths.wall_reason.Goals as goal

pub append-requires : goal.append-requires
append-requires c = search (rules, c.path-at.ensures.spare)

pub returns : goal.returns
returns c = naming-more c.path-at.ensures c.append.ensures
