-- Whether the cells are joined to those above them: what `tie` says of the borders below the rows.
use mathlib.Core.Path.{◌≡◌, sym, ◌∙◌}
use Prim.Native.Nat.{◌+◌, ◌-◌, ◌*◌}
use native.Mathlib.Nat.{add-mul}
use native.Mathlib.Omega.{arith}
use borrow.Rule.Slice.PartMut.{mid_len}
use Rattle.lists.specs.Sections.{section}
use Rattle.lists.specs.SectionLaws.{section-at, front_at}
use Rattle.laws.specs.FlatLaws.{counts}
use Rattle.groups.specs.Kinds.{joins_in}
use Rattle.groups.specs.GridLaws.{joins-below}
use Rattle.groups.specs.TieLaws.{tied-above-none, above_at_lem, tie-flags-put}
use Rattle.groups.proofs.linking.down.Goals as goal

pub returns : goal.returns
unfolding section
returns c =
    let s = c.args in
    let b = s.h * (s.w - 1) in
    let n = (s.h - 1) * s.w in
    let z = counts c.requires.0 in
    let k : s.w + n - s.w ≡ n = omega arith in
    let p : b + n - b ≡ n = omega arith in
    let e : s.h - 1 + 1 ≡ s.h = omega (arith, c.requires.0.rows) in
    let m : (s.h - 1 + 1) * s.w ≡ n + s.w = add-mul (s.h - 1) 1 s.w ∙ omega arith in
    let q : s.h * s.w ≡ s.w + n = omega (arith, rw e at m) in
    let link = joins_in s.kind s.h s.w s.colours.now s.borders.now in
    let t = tied-above-none s.h s.w link s.aboves.now c.requires.1 in
    let size = mid_len s.w (s.w + n) s.aboves.now (omega (arith, t.long)) ∙ k in
    rw (k, q)
    (tie-flags-put s.w n n _ _ _ (omega arith) (omega arith) (c.tie.ensures.0 ∙ size)
    (λ i l.
    let j : s.w + i ≡ i + s.w = omega arith in
    c.tie.ensures.1 i (omega (arith, size))
    ∙ rw (
      k,
      p,
      ← section-at b n s.borders.now i l,
      ← front_at n s.colours.now i l,
      ← section-at s.w n s.colours.now
          i l,
      j,
    )
    (sym (above_at_lem s.h s.w link i ∙ joins-below s.h s.w i s.kind s.colours.now s.borders.now)))
    t)
