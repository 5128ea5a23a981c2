-- One literal decided and checked is the first of those that are left.
use Rattle.std.proofs.Common.{◌∙◌, ◌+◌, ap, sym, map, drop}
use Rattle.board.specs.declared.Board.{Board}
use Rattle.board.specs.declared.Returned.{Returned}
use Rattle.board.specs.Board.{decide_of}
use Rattle.board.specs.Accepted.{decides_of}
use Rattle.calls.specs.Answers.{literal_of}
use Rattle.probe.specs.ProbeChecks.{checks_memory, decides_memory}
use Rattle.probe.specs.ProbeChecksLaws.{decides-more, decides-none, checked-more, checked-none}
use Rattle.probe.proofs.checks.decided.Goals as goal

pub loop-code-preserved : goal.loop-code-preserved
loop-code-preserved c =
    let r = c.loop-code in
    let i = r.code-index in
    let each = c.args.each in
    let codes = c.args.codes.now in
    let left = map literal_of (drop (i + 1) codes) in
    let next =
    ap (λ (r : Returned). r.board) c.decide_lent.ensures
    ∙ ap (λ l. (decide_of r.board l).board) (c.literal.ensures ∙ ap literal_of c.from.ensures) in (
      ap (λ (b : Board). decides_of b left) next
          ∙ sym (decides-more r.board codes i c.loop-code-test.true)
          ∙ r.invariant.0,
      ap (decides_memory each _ left) c.checks.ensures.1
          ∙ ap (λ (b : Board). decides_memory each b left (checks_memory b each r.memory)) next
          ∙ sym (checked-more each r.board codes r.memory i c.loop-code-test.true)
          ∙ r.invariant.1,
    )

pub returns : goal.returns
returns c =
    let r = c.loop-code in
    let codes = c.args.codes.now in (
      sym (decides-none r.board codes r.code-index c.loop-code-test.false) ∙ r.invariant.0,
      sym (checked-none c.args.each r.board codes r.memory r.code-index c.loop-code-test.false) ∙ r.invariant.1,
    )
