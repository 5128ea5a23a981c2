-- `flag_stack` meets its contract: the loop asks of each entry whether it is flagged, and flags it.
use Rattle.std.proofs.Common.{◌<◌, sym, ap, ◌∙◌, false, not, arith, get_or-take, length-set}
use lib.ListN.{get_or-replicate}
use Rattle.lists.specs.TestLaws.{all_none, all-and}
use Rattle.board.specs.Alien.{stacked, once_each}
use Rattle.board.specs.ConditionLaws.{flags-more, stacked-none}
use Rattle.board.proofs.conditions.flag_stack.Goals as goal

pub loop-entry-init : goal.loop-entry-init
unfolding once_each
loop-entry-init c = (
  sym (all_none _),
  c.told-seen,
  λ x l. rw c.requires.2 (get_or-replicate 1984 x false false l ∙ sym (stacked-none _ x)),
)

pub loop-entry-preserved : goal.loop-entry-preserved
unfolding once_each
loop-entry-preserved c =
    let r = c.loop-entry in
    let s = c.args.stack.now in
    let i = r.entry-index in
    let k : i < c.args.count = omega arith in
    let e = c.from-e.ensures ∙ get_or-take c.args.count s i 0 k in
    let small : c.from-e.result < 1984 = omega (arith, c.requires.1 i k) in (
      all-and i _ r.once _ r.invariant.0 (ap not (r.invariant.2 c.from-e.result small ∙ ap (stacked s i) e)),
      simp length-set r.invariant.1,
      flags-more s r.seen i _ e small r.invariant.1 r.invariant.2,
    )
