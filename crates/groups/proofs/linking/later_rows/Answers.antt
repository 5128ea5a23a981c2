-- The parents of the later rows. The loop has passed c cells; root is the parent of the last, and the list has k cells.
use mathlib.Core.Path.{◌≡◌, refl, sym, ◌∙◌}
use mathlib.Core.Bool.{Bool, true, false, not, ◌&&◌, cond}
use Prim.Native.Nat.{ℕ, ◌+◌, ◌-◌, ◌≤◌, ◌<◌}
use native.Mathlib.Omega.{arith}
use lib.Dec.{eqb}
use Rattle.std.proofs.Common.{eq-eqb}
use lib.ListN.{get_or}
use mir.Val.{bool_byte}
use lib.Seq.{get_or-set_same}
use Rattle.lists.specs.Count.{bit}
use Rattle.lists.specs.CountLaws.{bit_le}
use Rattle.groups.specs.Ties.{flag_at}
use Rattle.groups.specs.ForestLaws.{forest-set}
use Rattle.groups.specs.NumberLaws.{blank-set}
use Rattle.groups.specs.ScanLaws.{scan-next, pick_low}
use Rattle.groups.proofs.linking.later_rows.Goals.{then-left, else-left, then-aboves-c, else-aboves-c}
use Rattle.groups.proofs.linking.later_rows.Goals as goal

-- a flag as a number
bit-byte : (b : Bool) → bool_byte b ≡ bit b
bit-byte true = refl
bit-byte false = refl

-- a cell that is joined to the left one gets another parent than that one's only from the cell above it
clash-told : (left above : Bool) (b a c : ℕ)
    → (left && not (eqb (cond left b c) (cond above a (cond left b c)))) ≡ ((left && above) && not (eqb b a))
clash-told true true b a c = refl
clash-told true false b a c = rw (eq-eqb b b refl)
clash-told false above b a c = refl

pub loop-c-preserved : goal.loop-c-preserved
unfolding flag_at
loop-c-preserved c =
    let l = c.loop-c in
    let w = c.args.w in
    let left : Bool = flag_at c.args.lefts.now l.c in
    let above : Bool = flag_at c.args.aboves.now l.c in
    let b = get_or l.p (l.c - 1) 0 in
    let a = get_or l.p (l.c - w) 0 in
    let v = cond above a (cond left b l.c) in
    let o : c.if-left.own ≡ cond left b l.c = elim c.if-left.branch [
      | then-left r ↦ rw (r.own-is, r.if-left.true) l.invariant.1
      | else-left r ↦ rw (r.own-is, r.if-left.false)
    ] in
    let e : c.if-aboves-c.root ≡ v = elim c.if-aboves-c.branch [
      | then-aboves-c r ↦ rw (r.root-is, c.from-over.ensures, r.if-aboves-c.true)
      | else-aboves-c r ↦ rw (r.root-is, r.if-aboves-c.false) o
    ] in
    let t : Bool = (left && above) && not (eqb b a) in
    let q : c.from-k.result ≡ bit t =
    c.from-k.ensures ∙ rw (o, e, clash-told left above b a l.c) (bit-byte t) in
    let room : l.c < 1024 = omega (arith, c.requires.2) in
    let low : v ≤ l.c = pick_low left above l.c a b (omega (arith, l.invariant.2.down (l.c - w)))
    (omega (arith, l.invariant.2.down (l.c - 1))) in
    let back : l.c + 1 - 1 ≡ l.c = omega arith in
    rw (e, q, back) (
      omega (arith, bit_le t),
      sym (get_or-set_same l.p l.c v 0 (omega (arith, l.invariant.2.long))),
      forest-set l.p l.c v l.invariant.2 room low,
      blank-set 1024 c.args.n l.k l.c l.list (omega arith) l.invariant.3,
      scan-next w _ _ l.c l.p l.list l.k l.invariant.2 room l.invariant.4 c.requires.0 (omega arith)
          (omega (arith, l.invariant.3.long)) left above refl refl,
    )

pub returns : goal.returns
returns c =
    let l = c.loop-c in
    let e : l.c ≡ c.args.n = omega arith in
    (omega arith, l.invariant.2, l.invariant.3, rw e at l.invariant.4)
