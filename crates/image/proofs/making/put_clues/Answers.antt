-- `put_clues` meets its contract: each clue's four bytes are stored behind those of the clues before it.
use Rattle.std.proofs.Common.{◌≡◌, ◌∙◌, ◌+◌, ◌-◌, ◌*◌, ap, rules, arith, refl, pos}
use Rattle.std.proofs.Common.{get_or, w32, to_z, of_z, to_z-of_z, FitsSigned}
use Rattle.lists.specs.Lists.{flat_map}
use Rattle.lists.specs.Stores.{sets-flat-more}
use Rattle.image.specs.Image.{bits_of, clue_bytes}
use Rattle.image.specs.ByteLaws.{four-long, part-stored, clue-le}
use Rattle.image.proofs.making.put_clues.Goals as goal

pub loop-i-init : goal.loop-i-init
unfolding flat_map
loop-i-init c = refl

pub loop-i-preserved : goal.loop-i-preserved
loop-i-preserved c =
    let r = c.loop-i in
    let a = c.args in
    let z = get_or a.clues.now r.i (pos 0) in
    let f : FitsSigned w32 z = search rules in
    let at = 1026 + 4 * r.i in
    let four : 4 ≡ at + 4 - at = omega arith in
    part-stored at (at + 4 - at) r.s _ (clue_bytes z)
    (c.copy_from_slice.ensures.after ∙ c.to_le_bytes.ensures ∙ clue-le (to_z w32 (of_z w32 z))
    ∙ ap clue_bytes (to_z-of_z f))
    (four-long (bits_of z) ∙ four) (omega (arith, c.requires))
    ∙ rw r.invariant
    (sets-flat-more clue_bytes 4 (λ y. four-long (bits_of y)) a.s.now 1026 a.clues.now r.i (pos 0) (omega arith))
