-- Either arm raises the rows and then the columns, which leaves the rows; the array then spells the transform.
-- the requires, in the arm that was taken
use mathlib.Core.Bool.{Bool, true, false, cond}
use mathlib.Core.List.{List}
use mathlib.Core.Path.{◌≡◌, ap, ◌∙◌}
use Prim.Native.Nat.{ℕ, ◌<◌}
use native.Mathlib.Omega.{arith}
use lib.ListN.{length, get_or}
use Rattle.lists.specs.Sections.{Only}
use Rattle.lists.specs.SectionLaws.{only-before}
use Rattle.rules.specs.Turns.{apply}
use Rattle.shapes.specs.Outlines.{down_in, across_in, joint_count}
use Rattle.shapes.specs.RaiseLaws.{turned-raised, turned-spelled}
use Rattle.shapes.specs.Raising.{Raised, Turnable, lift_of, moved_by, raised, spelled, turn_of, xs_in, ys_in}
use Rattle.shapes.specs.Spots.{joint_spots}
use Rattle.shapes.proofs.turned.turn_joints.Goals.{Start, then-swap, else-swap}
use Rattle.shapes.proofs.turned.turn_joints.Goals as goal

chosen : (s : Start) {v : Bool} → s.args.swap ≡ v
    → Turnable v s.args.upward s.args.leftward s.args.y s.args.x (down_in s.args.outline.now)
    (across_in s.args.outline.now) (joint_count s.args.outline.now)
chosen s e = rw e at s.requires.0

pub lift_all-requires-2 : goal.lift_all-requires-2
lift_all-requires-2 c =
    let s = (goal.at.lift_all-requires-2 c).Start in
    let long = c.lift_all.ensures.0.long ∙ c.requires.1 in
    elim c.if-swap.branch [
      | then-swap w ↦
          let t = chosen s w.if-swap.true in
          rw w.rows-is (omega arith, omega arith, t.few, t.low.1, t.columns, long)
      | else-swap w ↦
          let t = chosen s w.if-swap.false in
          rw w.rows-is (omega arith, omega arith, t.few, t.low.1, t.columns, long)
    ]

-- the rows after the columns are written
still : {t u : List ℕ} {n : ℕ} {f : ℕ → ℕ} → Only 2048 4096 t u → ((i : ℕ) → i < n → get_or (ys_in t) i 0 ≡ f i)
    → (i : ℕ) → i < n → get_or (ys_in u) i 0 ≡ f i
still o e i h = ap (λ (l : List ℕ). get_or l i 0) (only-before o 0 2048 (omega arith)) ∙ e i h

-- the rows are written to t, and the columns then to u: either arm, by whether the coordinates change places
written : (s : Start) (v : Bool) → s.args.swap ≡ v → {t u : List ℕ} →
    let a = s.args in
    let o = a.outline.now in
    let n = joint_count o in
    Only 0 2048 a.turned.now t
    × ((i : ℕ) → i < n → get_or (ys_in t) i 0 ≡ lift_of a.upward a.y (get_or (cond v (across_in o) (down_in o)) i 0))
    → Only 2048 4096 t u
    × ((i : ℕ) → i < n → get_or (xs_in u) i 0 ≡ lift_of a.leftward a.x (get_or (cond v (down_in o) (across_in o)) i 0))
    → Raised u n
    × (spelled u n ≡ moved_by (apply (turn_of a.swap a.upward a.leftward)) (raised a.y a.x) (joint_spots o))
    × (length u ≡ 4096)
written s v e {u = u} y x =
    let t = chosen s e in
    let rows = still x.0 y.1 in
    (turned-raised t u rows x.1, rw e (turned-spelled t u rows x.1), x.0.long ∙ (y.0.long ∙ s.requires.1))

pub returns : goal.returns
returns c =
    let s = (goal.at.returns c).Start in
    elim c.if-swap.branch [
      | then-swap w ↦
          written s true w.if-swap.true (rw w.rows-is at c.lift_all.ensures) (rw w.rows-is at c.lift_all-2.ensures)
      | else-swap w ↦
          written s false w.if-swap.false (rw w.rows-is at c.lift_all.ensures) (rw w.rows-is at c.lift_all-2.ensures)
    ]
