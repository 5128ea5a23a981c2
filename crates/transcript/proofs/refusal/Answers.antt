-- `refusal` meets its contract: the number of the refusal, in its line.
use mathlib.Core.Path.{ap}
use Prim.Native.Nat.{ℕ}
use Rattle.rules.specs.Book.{refused}
use Rattle.print.specs.Answers.{show_reply}
use Rattle.print.specs.Lines.{holds_as}
use Rattle.transcript.proofs.refusal.Goals as goal

pub returns : goal.returns
returns c = holds_as c.refused_line.ensures (ap (λ (n : ℕ). show_reply (refused n)) c.number.ensures)
