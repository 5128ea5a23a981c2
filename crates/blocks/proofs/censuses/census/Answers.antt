-- `census` meets its contract: after each turn the parts and the first clue are those of the cells passed.
use Rattle.std.proofs.Common.{◌≡◌, ◌∙◌, ap, arith, rules, eqb, length, get_or, take_all}
use Rattle.groups.specs.Grouping.{numbers_in}
use Rattle.blocks.specs.declared.Census.{Census}
use Rattle.blocks.specs.Censuses.{next_part, next_census}
use Rattle.blocks.specs.Surveyed.{surveyed, surveyed-none, surveyed-more, surveyed-size}
use Rattle.blocks.specs.BlockCases.{clue-read, census-one, census-zero}
use Rattle.blocks.proofs.censuses.census.Goals.{Joined-colours-c-eq1}
use Rattle.blocks.proofs.censuses.census.Goals.{then-colours-c-eq1, else-colours-c-eq1}
use Rattle.blocks.proofs.censuses.census.Goals as goal

pub loop-c-init : goal.loop-c-init
loop-c-init c = rw (c.empty-zero.ensures, c.empty-one.ensures) (surveyed-none _ _ _ _)

pub with_cell-one-requires : goal.with_cell-one-requires
with_cell-one-requires c =
    let a = c.args in
    let e = ap (λ (t : Census). t.one.size) c.loop-c.invariant in
    let z = surveyed-size a.colours.now a.clues.now (numbers_in a.potential.now) a.cells.now c.loop-c.c-index in
    omega (arith, e, z, c.requires.few)

pub with_cell-zero-requires : goal.with_cell-zero-requires
with_cell-zero-requires c =
    let a = c.args in
    let e = ap (λ (t : Census). t.zero.size) c.loop-c.invariant in
    let z = surveyed-size a.colours.now a.clues.now (numbers_in a.potential.now) a.cells.now c.loop-c.c-index in
    omega (arith, e, z, c.requires.few)

-- where the arms meet: the census has one cell more
next : (c : Joined-colours-c-eq1)
    → let l = c.loop-c in
    ◌≡◌ {A = Census} (record { zero = c.if-colours-c-eq1.zero; one = c.if-colours-c-eq1.one; clue = c.or-first.result })
    (next_census (record { zero = l.zero; one = l.one; clue = l.first })
    (eqb (get_or c.args.colours.now c.from-c.result 0) 1) c.group_of-unit.result c.clue_at-clue.result)
next c =
    elim c.if-colours-c-eq1.branch [
      | then-colours-c-eq1 w ↦
          rw (w.zero-is, w.one-is)
          (census-one _ _ _ _ _ _ w.if-colours-c-eq1.true
          (w.with_cell-one.ensures ∙ ap (next_part _ _) w.is_some.ensures) c.or-first.ensures)
      | else-colours-c-eq1 w ↦
          rw (w.zero-is, w.one-is)
          (census-zero _ _ _ _ _ _ w.if-colours-c-eq1.false
          (w.with_cell-zero.ensures ∙ ap (next_part _ _) w.is_some-else-colours-c-eq1.ensures) c.or-first.ensures)
    ]

pub loop-c-preserved : goal.loop-c-preserved
loop-c-preserved c =
    let a = c.args in
    let k = clue-read a.clues.now c.from-c.result (search rules) c.clue_at-clue.ensures in
    next c
    ∙ rw (c.loop-c.invariant, k, c.group_of-unit.ensures)
    (surveyed-more a.colours.now a.clues.now (numbers_in a.potential.now) a.cells.now c.loop-c.c-index _
    c.loop-c-test.true c.from-c.ensures)

pub returns : goal.returns
unfolding surveyed
returns c =
    let a = c.args in
    let e : c.loop-c.c-index ≡ length a.cells.now = omega arith in
    rw (e, take_all (length a.cells.now) a.cells.now (omega arith)) at c.loop-c.invariant
