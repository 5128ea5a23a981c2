-- `numbered` meets its contract: the three parts follow each other, 31 bytes at most.
use native.Mathlib.Omega.{arith}
use mathlib.Core.Path.{ap}
use borrow.Author.Rules.{rules}
use Rattle.page.specs.Decimal.{decimal}
use Rattle.print.specs.declared.Line.{Line}
use Rattle.print.specs.Lines.{holds_more, holds_as, decimal-64, numbered-text}
use Rattle.print.proofs.numbered.Goals as goal

pub with_word-requires : goal.with_word-requires
with_word-requires c = omega (arith, ap (λ (l : Line). l.count) c.empty.ensures)

pub with_number-requires : goal.with_number-requires
with_number-requires c =
    omega (
      arith,
      ap (λ (l : Line). l.count) c.empty.ensures,
      c.with_word.ensures.next,
      decimal-64 c.args.n (search rules),
    )

pub with_word-requires-2 : goal.with_word-requires-2
with_word-requires-2 c =
    omega (
      arith,
      ap (λ (l : Line). l.count) c.empty.ensures,
      c.with_number.ensures.next,
      c.with_word.ensures.next,
      decimal-64 c.args.n (search rules),
    )

pub returns : goal.returns
returns c =
    holds_as
    (holds_more (rw c.empty.ensures at c.with_word.ensures) c.with_number.ensures
    c.with_word-2.ensures
    (omega (
      arith,
      ap (λ (l : Line). l.count) c.empty.ensures,
      c.with_word-2.ensures.next,
      c.with_number.ensures.next,
      c.with_word.ensures.next,
      decimal-64 c.args.n (search rules),
    )))
    (numbered-text c.args.word.now (decimal c.args.n))
