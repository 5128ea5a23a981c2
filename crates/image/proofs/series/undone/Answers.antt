-- `undone` meets its contract: the count, how the test ends, and then the entry before it.
-- the image, and the count that it has
use mathlib.Core.Path.{◌≡◌, ◌∙◌, sym, ap}
use Rattle.board.specs.Cases.{refused-number}
use Rattle.std.specs.Prelude.{Err}
use Rattle.std.proofs.lemmas.Result.{err_from_is_err_and}
use mathlib.Core.Bool.{false}
use mathlib.Core.List.{List}
use Prim.Native.Nat.{ℕ, ◌+◌, ◌-◌, ◌*◌, ◌<◌}
use native.Mathlib.Omega.{arith}
use lib.ListN.{length}
use Rattle.board.specs.Board.{number_of}
use Rattle.image.specs.Image.{Bytes, pair, image_alien}
use Rattle.image.specs.SeriesLaws.{undo-not, undo-some, undo-low, undo-room, undo-tally, undo-step}
use Rattle.image.proofs.series.undone.Goals.{After-from-count, After-from-n, In_ok-undo_refusal}
use Rattle.image.proofs.series.undone.Goals as goal

abbrev image : After-from-count → List ℕ
image c = c.args.image.now

long : (c : After-from-count) → length (image c) ≡ 11082
long c = c.requires.0

known : (c : After-from-count) → image_alien (image c) ≡ false
known c = c.requires.1

bytes : (c : After-from-count) → Bytes (image c)
bytes c = λ i. omega (arith, c.slice_known-1.given i)

count : (c : After-from-count) → c.from-count.result ≡ pair (image c) 7106
count c = c.from-count.ensures ∙ c.two.ensures

done : (c : In_ok-undo_refusal) → number_of c.undo_refusal.result ≡ 0
done c = ap number_of c.in_ok-undo_refusal.was

-- the entry before it
entry : (c : After-from-n)
    → c.from-n.result
    ≡ pair (image (goal.at.After-from-n c).After-from-count) (7108 + 2 * (c.from-count.result - 1))
entry c = c.from-n.ensures ∙ c.two-2.ensures

low : (c : After-from-n) → c.from-n.result < 1984
low c =
    undo-room (image (goal.at.After-from-n c).After-from-count)
    (bytes (goal.at.After-from-n c).After-from-count) (known (goal.at.After-from-n c).After-from-count)
    c.from-count.result (count (goal.at.After-from-n c).After-from-count) _ c.undo_refusal.ensures
    (done (goal.at.After-from-n c).In_ok-undo_refusal) _
    (entry c)

pub returns-in_err-undo_refusal : goal.returns-in_err-undo_refusal
returns-in_err-undo_refusal c =
    let here = (goal.at.returns-in_err-undo_refusal c).After-from-count in
    let p = err_from_is_err_and c.from_residual.result c.from_residual.ensures.1 in
    rw (p.1, p.2)
    (undo-not (image here) (bytes here) (known here) c.from-count.result (count here) (Err _)
    (sym c.in_err-undo_refusal.was ∙ c.undo_refusal.ensures) (refused-number _))

pub overflow_sub-at : goal.overflow_sub-at
overflow_sub-at c =
    undo-some (image (goal.at.overflow_sub-at c).After-from-count)
    (bytes (goal.at.overflow_sub-at c).After-from-count) (known (goal.at.overflow_sub-at c).After-from-count)
    c.from-count.result (count (goal.at.overflow_sub-at c).After-from-count) _ c.undo_refusal.ensures (done c)

pub two-requires-2 : goal.two-requires-2
two-requires-2 c =
    let l = undo-low (image (goal.at.two-requires-2 c).After-from-count)
    (bytes (goal.at.two-requires-2 c).After-from-count) (known (goal.at.two-requires-2 c).After-from-count)
    c.from-count.result (count (goal.at.two-requires-2 c).After-from-count) _ c.undo_refusal.ensures
    (done c) in
    omega (arith, long (goal.at.two-requires-2 c).After-from-count, overflow_sub-at c)

pub bounds-image-n : goal.bounds-image-n
bounds-image-n c =
    omega (arith, low (goal.at.bounds-image-n c).After-from-n, long (goal.at.bounds-image-n c).After-from-count)

pub less-counted-requires : goal.less-counted-requires
less-counted-requires c =
    undo-tally (image (goal.at.less-counted-requires c).After-from-count)
    (bytes (goal.at.less-counted-requires c).After-from-count)
    (known (goal.at.less-counted-requires c).After-from-count) c.from-count.result
    (count (goal.at.less-counted-requires c).After-from-count) _ c.undo_refusal.ensures
    (done (goal.at.less-counted-requires c).In_ok-undo_refusal) _
    (entry (goal.at.less-counted-requires c).After-from-n) _ c.tally-t.ensures

pub rewrite-requires : goal.rewrite-requires
rewrite-requires c =
    let i = overflow_sub-at (goal.at.rewrite-requires c).In_ok-undo_refusal in
    let l = undo-low (image (goal.at.rewrite-requires c).After-from-count)
    (bytes (goal.at.rewrite-requires c).After-from-count)
    (known (goal.at.rewrite-requires c).After-from-count) c.from-count.result
    (count (goal.at.rewrite-requires c).After-from-count) _ c.undo_refusal.ensures
    (done (goal.at.rewrite-requires c).In_ok-undo_refusal) in
    (long (goal.at.rewrite-requires c).After-from-count, low (goal.at.rewrite-requires c).After-from-n, omega arith)

pub returns : goal.returns
returns c =
    undo-step (image (goal.at.returns c).After-from-count) (bytes (goal.at.returns c).After-from-count)
    (known (goal.at.returns c).After-from-count) c.from-count.result
    (count (goal.at.returns c).After-from-count) _ c.undo_refusal.ensures
    (done (goal.at.returns c).In_ok-undo_refusal) _
    (entry (goal.at.returns c).After-from-n) _ c.tally-t.ensures c.less-counted.ensures c.rewrite.ensures
