-- `transforms::transform` meets its contract: each return cites the law of its case.
use mathlib.Core.Path.{◌≡◌, sym, ap, ◌∙◌}
use mathlib.Core.Bool.{false}
use Rattle.std.specs.Prelude.{Ok}
use borrow.Author.Rules.{rules}
use Rattle.board.specs.Alien.{is_alien}
use Rattle.board.specs.NativeLaws.{native-has}
use Rattle.transforms.specs.Transforms.{kth_answer, kth_memory}
use Rattle.transforms.specs.AnswerLaws.{board-transforms, alien-answer, alien-memory, short-answer, short-memory}
use Rattle.transforms.specs.AnswerLaws.{done-answer, done-memory}
use Rattle.transforms.proofs.transform.Goals.{Else-alien}
use Rattle.transforms.proofs.transform.Goals as goal

known : (c : Else-alien) → is_alien c.args.b ≡ false
known c = sym c.alien.ensures ∙ c.if-alien.false

pub returns-then-alien : goal.returns-then-alien
returns-then-alien c =
    let e = sym c.alien.ensures ∙ c.if-alien.true in (
      alien-answer c.args.b c.args.u c.args.k c.args.memory.now e,
      alien-memory c.args.b c.args.u c.args.k c.args.memory.now e,
    )

pub returns-then-memory-lt-ROOM : goal.returns-then-memory-lt-ROOM
returns-then-memory-lt-ROOM c =
    let e = known (goal.at.returns-then-memory-lt-ROOM c).Else-alien in (
      short-answer c.args.b c.args.u c.args.k c.args.memory.now e (search rules),
      short-memory c.args.b c.args.u c.args.k c.args.memory.now e (search rules),
    )

pub put_transform-requires : goal.put_transform-requires
put_transform-requires c = let k =
    known (goal.at.put_transform-requires c).Else-alien in ((native-has _ k).size, search rules)

pub returns : goal.returns
returns c =
    let e = known (goal.at.returns c).Else-alien in
    let m = c.args.memory.now in
    let p = c.put_transform.ensures in
    let t = board-transforms c.args.b c.args.u c.args.k m in (
      ap Ok (p.0 ∙ ap (λ ts. kth_answer ts c.args.k) t)
          ∙ (done-answer c.args.b c.args.u c.args.k m e (search rules)),
      p.1
          ∙ (ap (λ ts. kth_memory ts c.args.k m) t
          ∙ done-memory c.args.b c.args.u c.args.k m e (search rules)),
    )
