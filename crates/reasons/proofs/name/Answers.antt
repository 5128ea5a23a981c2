-- Without a place for names no border is named; with one, its place says whether it is.
use mathlib.Core.Path.{refl, sym}
use Rattle.reasons.specs.Memory.{naming}
use Rattle.reasons.proofs.MemoryLaws.{named_some, named_none, named-out, naming-out}
use Rattle.reasons.proofs.name.Goals as goal

pub returns-then-memory-place : goal.returns-then-memory-place
returns-then-memory-place c = (rw (named-out _ _ c.if-memory-place.true), sym (naming-out _ _ c.if-memory-place.true))

pub returns-then-named : goal.returns-then-named
returns-then-named c = (rw (named_some _ _ c.if-named.true), refl)

pub returns : goal.returns
unfolding naming
returns c = (rw (named_none _ _ c.if-named.false), refl)
