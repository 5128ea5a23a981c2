-- The board is refused; or it is made, its literals are decided, and the checks answer.
use Rattle.std.proofs.Common.{◌≡◌, ◌∙◌, ℕ, List, ap, ap₂, sym, map, length, eq-eqb, ne_eqb}
use Rattle.board.specs.declared.Board.{Board}
use Rattle.board.specs.declared.Returned.{Returned}
use Rattle.board.specs.Board.{number_of, fresh_of}
use Rattle.board.specs.Accepted.{made_board, decides_of}
use Rattle.board.specs.Cases.{refused-number}
use Rattle.calls.specs.Answers.{literal_of}
use Rattle.probe.specs.ProbeChecks.{checks_number, checks_memory, decides_memory, board_in}
use Rattle.probe.specs.ProbeChecksLaws.{decides-length, checks-number-refused, memory-refused, number-made}
use Rattle.probe.specs.ProbeChecksLaws.{memory-made}
use Rattle.probe.proofs.checks.probe_checks.Goals.{After-fresh-made}
use Rattle.probe.proofs.checks.probe_checks.Goals as goal

-- how making the board ends
ends : (c : After-fresh-made) → let a = c.args in
    (fresh_of a.h a.w a.colours.now a.clues.now).outcome ≡ c.fresh-made.result.outcome
ends c = sym (ap (λ (r : Returned). r.outcome) c.fresh-made.ensures)

pub returns-in-Err : goal.returns-in-Err
returns-in-Err c =
    let a = c.args in
    let said = ap number_of (ends (goal.at.returns-in-Err c).After-fresh-made ∙ c.in-Err.is) in
    let f = ne_eqb _ _ (λ z. refused-number c.in-Err.refusal (sym said ∙ z)) in (
      c.number.ensures ∙ sym said ∙ checks-number-refused _ _ _ _ a.codes.now a.each a.times a.memory.now f,
      memory-refused _ _ _ _ a.codes.now a.each a.times a.memory.now f,
    )

pub returns : goal.returns
returns c =
    let a = c.args in
    let m = a.memory.now in
    let ls = map literal_of a.codes.now in
    let f = eq-eqb _ _ (ap number_of (ends (goal.at.returns c).After-fresh-made ∙ c.in_default.is)) in
    let u = c.decided.ensures in
    let made = c.fresh-made.ensures in
    let d : _ ≡ board_in a.h a.w a.colours.now a.clues.now a.codes.now =
    u.0 ∙ ap (λ (r : Returned). decides_of r.board ls) made in
    let t : _ ≡ decides_memory a.each (made_board a.h a.w a.colours.now a.clues.now) ls m =
    u.1 ∙ ap (λ (r : Returned). decides_memory a.each r.board ls m) made in
    let e = c.checks.ensures in (
      e.0
          ∙ ap₂ (λ (b : Board) (k : ℕ). checks_number b k a.times) d (ap length t ∙ decides-length a.each _ ls m)
          ∙ number-made _ _ _ _ a.codes.now a.each a.times m f,
      e.1
          ∙ ap₂ (λ (b : Board) (l : List ℕ). checks_memory b a.times l) d t
          ∙ memory-made _ _ _ _ a.codes.now a.each a.times m f,
    )
