-- `walls` meets its contract: the loop counts the walls one by one.
use Rattle.std.proofs.Common.{◌≡◌, Bool, true, false, refl, sym, ap₂, ◌+◌, ◌∙◌, add-one, arith, eqb, get_or}
use mir.Val.{bool_byte}
use Rattle.lists.specs.Count.{bit, count_below}
use Rattle.lists.specs.CountLaws.{bit_le, count-zero, count-le}
use Rattle.board.specs.Alien.{code_count}
use Rattle.board.proofs.tallies.walls.Goals.{After-from-found}
use Rattle.board.proofs.tallies.walls.Goals as goal

-- what is added is the test's bit
byte : (b : Bool) → bool_byte b ≡ bit b
byte true = refl
byte false = refl

pub loop-i-init : goal.loop-i-init
unfolding code_count
loop-i-init c = sym (count-zero _)

pub overflow_add-found : goal.overflow_add-found
unfolding code_count
overflow_add-found c =
    let r = c.loop-i in
    let t = eqb (get_or c.args.borders.now r.i 0) 1 in
    record {
      fits =
          omega (
            arith,
            r.invariant,
            c.from-found.ensures ∙ byte t,
            bit_le t,
            count-le r.i (λ j. eqb (get_or c.args.borders.now j 0) 1),
          );
    }

pub loop-i-preserved : goal.loop-i-preserved
unfolding code_count count_below
loop-i-preserved c = rw add-one (ap₂ (λ m n. m + n) c.loop-i.invariant (c.from-found.ensures ∙ byte _))
