-- The parents of the first row. The loop has passed c cells, and root is the parent of the last.
use mathlib.Core.Path.{◌≡◌, refl, sym}
use mathlib.Core.Bool.{Bool, false, cond}
use Prim.Native.Nat.{◌+◌, ◌-◌, ◌≤◌, ◌<◌}
use native.Mathlib.Omega.{arith}
use lib.ListN.{length, get_or}
use lib.Seq.{get_or-set_same}
use Rattle.groups.specs.Ties.{flag_at}
use Rattle.groups.specs.ForestLaws.{forest-set}
use Rattle.groups.specs.ScanLaws.{scan-none, scan-own, scan-first, pick_low}
use Rattle.groups.proofs.linking.first_row.Goals.{then-lefts-c, else-lefts-c}
use Rattle.groups.proofs.linking.first_row.Goals as goal

pub loop-c-init : goal.loop-c-init
loop-c-init c =
    let p = c.args.p.now in
    let long : 0 < length p = omega (arith, c.requires.2.long) in (
      sym (get_or-set_same p 0 0 0 long),
      forest-set p 0 0 c.requires.2 (omega arith) (omega arith),
      λ above list. scan-own c.args.w _ above 0 p list 0 c.requires.2 (omega arith)
          (scan-none c.args.w _ above p list) (λ e. refl) (λ h. absurd (omega (arith, c.requires.0))),
    )

pub loop-c-preserved : goal.loop-c-preserved
unfolding flag_at
loop-c-preserved c =
    let l = c.loop-c in
    let w = c.args.w in
    let left : Bool = flag_at c.args.lefts.now l.c in
    let v = cond left (get_or l.p (l.c - 1) 0) l.c in
    let e : c.if-lefts-c.root ≡ v = elim c.if-lefts-c.branch [
      | then-lefts-c b ↦ rw (b.root-is, b.if-lefts-c.true) l.invariant.0
      | else-lefts-c b ↦ rw (b.root-is, b.if-lefts-c.false)
    ] in
    let room : l.c < 1024 = omega arith in
    let low : v ≤ l.c = pick_low left false l.c 0 _ (omega arith) (omega (arith, l.invariant.1.down (l.c - 1))) in
    let back : l.c + 1 - 1 ≡ l.c = omega arith in
    rw (e, back) (
      sym (get_or-set_same l.p l.c v 0 (omega (arith, l.invariant.1.long))),
      forest-set l.p l.c v l.invariant.1 room low,
      λ above list. scan-first w _ above l.c l.p list 0 l.invariant.1 room (l.invariant.2 above list) (omega arith)
          (omega arith) left refl,
    )

pub returns : goal.returns
returns c =
    let l = c.loop-c in
    let e : l.c ≡ c.args.w = omega arith in
    (l.invariant.1, λ above list. rw e at (l.invariant.2 above list))
