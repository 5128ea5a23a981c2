-- `lone_fault` meets its contract: a case law for each return.
use Rattle.std.proofs.Common.{sym, ◌∙◌, rules}
use Rattle.rules.specs.Groups.{entry}
use Rattle.blocks.specs.BlockCases.{clue-read}
use Rattle.blocks.specs.LoneCases.{lone-free, lone-none, lone-fits, lone-big}
use Rattle.blocks.proofs.faults.lone_fault.Goals as goal

pub returns-in_err-n : goal.returns-in_err-n
returns-in_err-n c =
    c.from_residual.ensures
    ∙ lone-free _ _ _ _ (sym (c.in_err-n.was) ∙ clue-read c.args.clues.now c.args.c (search rules) c.clue_at.ensures)

pub returns-then-n-eq0 : goal.returns-then-n-eq0
returns-then-n-eq0 c =
    let k = clue-read c.args.clues.now c.args.c (search rules) c.clue_at.ensures in
    lone-none _ _ _ _ _ (sym c.in_ok-n.was ∙ k) c.if-n-eq0.true

pub returns-then-n-size_of : goal.returns-then-n-size_of
unfolding entry
returns-then-n-size_of c =
    let k = clue-read c.args.clues.now c.args.c (search rules) c.clue_at.ensures in
    let fits = rw (c.size_of.ensures, c.group_of-unit.ensures) at c.if-n-size_of.true in
    lone-fits _ _ _ _ _ (sym c.in_ok-n.was ∙ k) c.if-n-eq0.false fits

pub returns : goal.returns
unfolding entry
returns c =
    let k = clue-read c.args.clues.now c.args.c (search rules) c.clue_at.ensures in
    let big = rw (c.size_of.ensures, c.group_of-unit.ensures) at c.if-n-size_of.false in
    rw c.group_of-unit.ensures (lone-big _ _ _ _ _ (sym c.in_ok-n.was ∙ k) c.if-n-eq0.false big)
