-- `put_codes` meets its contract: each code more, and the first n of them are all.
use Rattle.std.proofs.Common.{◌∙◌, arith, take, ap}
use Rattle.std.proofs.lemmas.List.{take_all}
use Rattle.std.proofs.lemmas.List.Edits.{sets}
use Rattle.lists.specs.Lists.{flat_map}
use Rattle.image.specs.Image.{two_bytes, put_codes}
use Rattle.image.specs.MemoryLaws.{codes-none, codes-more}
use Rattle.image.proofs.writing.put_codes.Goals as goal

pub loop-i-init : goal.loop-i-init
loop-i-init c = codes-none _ _

pub loop-i-preserved : goal.loop-i-preserved
loop-i-preserved c =
    let a = c.args in
    c.put_two.ensures
    ∙ rw (c.loop-i.invariant, c.from.ensures)
    (codes-more a.memory.now (take a.n a.codes.now) c.loop-i.i (omega arith))

pub returns : goal.returns
unfolding put_codes
returns c =
    let a = c.args in
    let part = take a.n a.codes.now in
    c.loop-i.invariant
    ∙ ap (λ l. sets a.memory.now 0 (flat_map two_bytes l)) (take_all c.loop-i.i part (omega arith))
