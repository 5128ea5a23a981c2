-- Where no place is left, or the border is named, nothing is written; else the literal is, and its border is named.
-- the memory after `name`, by what that says
use mathlib.Core.Path.{◌≡◌, sym, ap, ◌∙◌}
use mathlib.Core.Bool.{Bool, cond}
use native.Mathlib.Omega.{arith}
use borrow.Author.Tests.{not-true, not-false}
use lib.ListN.{length}
use Rattle.reasons.specs.Memory.{naming}
use Rattle.reasons.proofs.MemoryLaws.{naming-full, naming-old, naming-new, length-naming}
use Rattle.reasons.proofs.append.Goals.{After-name}
use Rattle.reasons.proofs.append.Goals as goal

noted : (c : After-name) {r : Bool} → c.name.result ≡ r → c.name.new.memory
    ≡ cond r (naming c.args.memory.now c.args.literal.border) c.args.memory.now
noted c e = rw (← e) c.name.ensures.1

pub returns-then-full : goal.returns-then-full
returns-then-full c = naming-full _ _ _ c.requires.0 c.if-full.true

pub bounds-memory-at : goal.bounds-memory-at
bounds-memory-at c =
    let e = noted (goal.at.bounds-memory-at c).After-name c.if-name.true in
    omega (
      arith,
      ap length e,
      length-naming c.args.memory.now c.args.literal.border,
      c.requires.0.long,
      c.if-full.false,
    )

pub returns-then-name : goal.returns-then-name
returns-then-name c =
    let q = not-true _ (sym c.name.ensures.0 ∙ c.if-name.true) in
    rw (c.code.ensures, noted (goal.at.returns-then-name c).After-name c.if-name.true)
    (naming-new _ _ _ c.requires.0 c.if-full.false q)

pub returns : goal.returns
returns c =
    let q = not-false _ (sym c.name.ensures.0 ∙ c.if-name.false) in
    rw (noted (goal.at.returns c).After-name c.if-name.false) (naming-old _ _ _ c.requires.0 q)
