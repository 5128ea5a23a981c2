-- `gathered` meets its contract: the loop gathers the tests one by one.
use Rattle.std.proofs.Common.{sym, ap, ap₂, Bool, ◌&&◌, ◌∙◌, arith, refl}
use Rattle.std.proofs.lemmas.List.{get_or_read_under}
use Rattle.lists.specs.TestLaws.{between_none, between-and, between-stop}
use Rattle.board.proofs.conditions.gathered.Goals as goal

pub loop-i-init : goal.loop-i-init
loop-i-init g c = (omega arith, λ holds passes z h f. h ∙ sym (between_none _ _ _ (omega arith)))

pub loop-i-preserved : goal.loop-i-preserved
loop-i-preserved g c = (
  omega arith,
  λ holds passes z h f.
      let r = c.loop-i in
      f _ _ _ c.step-found.ensures
      ∙ between-and _ r.i _ (holds r.found) _ (r.invariant.1 holds passes z h f)
      (ap passes (get_or_read_under c.args.elements.now r.i _ _ z c.index-elements-i.is (omega arith) refl))
      r.auto.i,
)

pub returns : goal.returns
returns g c =
    λ holds passes z h f.
    let r = c.loop-i in
    r.invariant.1 holds passes z h f ∙ between-stop _ r.i _ _ (omega arith) (omega arith) (omega arith)
