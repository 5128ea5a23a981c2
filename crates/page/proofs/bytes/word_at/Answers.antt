-- `word_at` meets its contract: a word is read where the bytes start with it.
use Rattle.page.specs.ParserLaws.{strip-starts, rest-rest, length_rest}
use Rattle.page.specs.Places.{left_from}
use Rattle.std.proofs.Common.{ap, arith, length}
use Rattle.page.proofs.bytes.word_at.Goals as goal

pub overflow_add-result : goal.overflow_add-result
overflow_add-result c = omega (
  arith,
  c.starts_with.ensures.bound c.if-starts_with.true,
  ap length c.rest.ensures,
  length_rest c.args.s.now
      c.args.at,
)

pub returns-then-starts_with : goal.returns-then-starts_with
unfolding left_from
returns-then-starts_with c = rw
    (strip-starts, ← c.rest.ensures, ← c.starts_with.ensures.value, c.if-starts_with.true, c.rest.ensures, rest-rest)

pub returns-else-starts_with : goal.returns-else-starts_with
unfolding left_from
returns-else-starts_with c = rw (strip-starts, ← c.rest.ensures, ← c.starts_with.ensures.value, c.if-starts_with.false)
