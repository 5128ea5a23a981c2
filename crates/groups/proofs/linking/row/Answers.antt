-- Whether the cells of a row are joined to those left of them: what `tie` says of the row's borders.
use mathlib.Core.Path.{◌≡◌, sym, ◌∙◌}
use mathlib.Core.Bool.{false}
use Prim.Native.Nat.{◌+◌, ◌-◌, ◌*◌, ◌<◌}
use native.Mathlib.Nat.{add-mul}
use native.Mathlib.Omega.{arith}
use borrow.Rule.Slice.PartMut.{mid_len}
use lib.ListN.{set, length-set}
use Rattle.lists.specs.Sections.{section}
use Rattle.lists.specs.SectionLaws.{section-at}
use Rattle.laws.specs.FlatLaws.{counts}
use Rattle.groups.specs.GridLaws.{joins-right}
use Rattle.groups.specs.TieLaws.{left-start, left_at_lem, tie-flags-more, tie-flags-put}
use Rattle.groups.proofs.linking.row.Goals as goal

pub returns : goal.returns
unfolding section
returns c =
    let s = c.args in
    let a = s.y * s.w in
    let b = s.y * (s.w - 1) in
    let z = counts c.requires.0 in
    let first : a < 1024 = omega arith in
    let k : a + 1 + s.count - (a + 1) ≡ s.count = omega arith in
    let p : a + s.count - a ≡ s.count = omega arith in
    let q : b + s.count - b ≡ s.count = omega arith in
    let m : (s.y + 1) * s.w ≡ a + 1 + (s.w - 1) = omega (arith, add-mul s.y 1 s.w, c.requires.0.columns) in
    let size = mid_len (a + 1) (a + 1 + s.count) (set s.lefts.now a false)
    (omega (arith, length-set s.lefts.now a false, c.requires.5.long)) ∙ k in
    rw (k, m)
    (tie-flags-put (a + 1) s.count (s.w - 1) _ _ _ (omega arith) (omega arith) (c.tie.ensures.0 ∙ size)
    (λ i l.
    let e : a + 1 + i ≡ a + i + 1 = omega arith in
    let hx : i + 1 < s.w = omega arith in
    let h : i < s.count = omega arith in
    c.tie.ensures.1 i (omega (arith, size))
    ∙ rw (
      k,
      p,
      q,
      ← section-at b s.count s.borders.now i h,
      ← section-at a s.count s.colours.now i h,
      ← section-at (a + 1) s.count s.colours.now i h,
      e,
    )
    (sym (left_at_lem s.h s.w _ s.y i hx
    ∙ joins-right s.h s.w s.y i c.requires.1 hx s.kind s.colours.now s.borders.now)))
    (tie-flags-more a (a + 1) _ _ false first (sym (left-start s.h s.w _ s.y c.requires.0.columns)) (omega arith)
    c.requires.5))
