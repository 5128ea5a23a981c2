-- `literal_text` meets its contract: a space, the border and the side's letter.
use Prim.Native.Nat.{◌/◌}
use native.Mathlib.Omega.{arith}
use mathlib.Core.Path.{ap}
use borrow.Author.Rules.{rules}
use Rattle.print.specs.declared.Line.{Line}
use Rattle.print.specs.Answers.{code_text}
use Rattle.print.specs.Lines.{holds_more, decimal-16}
use Rattle.print.proofs.literal_text.Goals as goal

pub with_byte-requires : goal.with_byte-requires
with_byte-requires c = omega (arith, ap (λ (l : Line). l.count) c.empty.ensures)

pub with_number-requires : goal.with_number-requires
with_number-requires c =
    let e = c.from-k.ensures in
    rw e
    (omega (
      arith,
      ap (λ (l : Line). l.count) c.empty.ensures,
      c.with_byte.ensures.next,
      decimal-16 (c.args.code / 2) (search rules),
    ))

pub with_byte-requires-2 : goal.with_byte-requires-2
with_byte-requires-2 c =
    omega (
      arith,
      ap (λ (l : Line). l.count) c.empty.ensures,
      rw c.from-k.ensures at c.with_number.ensures.next,
      c.with_byte.ensures.next,
      decimal-16 (c.args.code / 2) (search rules),
    )

pub returns : goal.returns
unfolding code_text
returns c =
    let n = rw c.from-k.ensures at c.with_number.ensures in
    let s = rw c.from-k.ensures at c.side_letter.ensures in
    rw (← s)
    (holds_more (rw c.empty.ensures at c.with_byte.ensures) n c.with_byte-2.ensures
    (omega (
      arith,
      ap (λ (l : Line). l.count) c.empty.ensures,
      c.with_byte-2.ensures.next,
      n.next,
      c.with_byte.ensures.next,
      decimal-16 (c.args.code / 2) (search rules),
    )))
