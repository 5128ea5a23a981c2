-- The loop goes down, and its word has the borders from x on.
use mathlib.Core.Path.{◌≡◌, refl, ap₂, sym, ◌∙◌}
use mathlib.Core.Bool.{Bool}
use Prim.Native.Nat.{ℕ, ◌+◌, ◌-◌, ◌*◌}
use native.Mathlib.Omega.{arith}
use Rattle.planes.specs.Bits.{row_from}
use Rattle.planes.specs.RowLaws.{row-start, row-end, row_more, row_fits}
use Rattle.planes.specs.Planes.{clear_at, clear_row}
use Rattle.planes.proofs.clear_row.Goals.{Start}
use Rattle.planes.proofs.clear_row.Goals as goal

-- the test of border i
abbrev test : Start → ℕ → Bool
test s i =
    clear_at s.args.colours.now s.args.borders.now (s.args.cell + i) (s.args.cell + i + s.args.ahead)
    (s.args.border + i)

pub loop-x-init : goal.loop-x-init
loop-x-init c = (omega arith, row-start c.args.n (test c), omega arith)

pub loop-x-preserved : goal.loop-x-preserved
loop-x-preserved c =
    let n = c.args.n in
    let x = c.loop-x.x - 1 in
    let e : c.loop-x.acc * 2 + c.clear.result ≡ row_from (n - x) x (test (goal.at.loop-x-preserved c).Start) =
    ap₂ (λ (a b : ℕ). a * 2 + b) c.loop-x.invariant.1 c.clear.ensures
    ∙ sym (row_more n x c.loop-x.x (test (goal.at.loop-x-preserved c).Start) (omega arith) (omega arith) refl) in
    (omega arith, e, omega (arith, e, row_fits (n - x) x (test (goal.at.loop-x-preserved c).Start) (omega arith)))

pub returns : goal.returns
unfolding clear_row
returns c = c.loop-x.invariant.1 ∙ row-end c.args.n c.loop-x.x (test (goal.at.returns c).Start) (omega arith)
