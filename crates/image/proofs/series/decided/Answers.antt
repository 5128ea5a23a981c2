-- `decided` meets its contract: how the tests end, and then what changes.
-- what the call is given
use mathlib.Core.Path.{◌≡◌, ◌∙◌, sym, ap}
use mathlib.Core.Bool.{false}
use mathlib.Core.List.{List}
use Prim.Native.Nat.{ℕ, ◌<◌, ◌≤◌}
use native.Mathlib.Omega.{arith}
use lib.ListN.{length}
use Rattle.board.specs.Board.{number_of}
use Rattle.image.specs.Image.{Bytes, image_alien}
use Rattle.image.specs.SeriesLaws.{series-part-length, few, decide-not, decide-room, decide-step}
use Rattle.board.specs.Cases.{refused-number}
use Rattle.std.specs.Prelude.{Err}
use Rattle.std.proofs.lemmas.Result.{err_from_is_err_and}
use Rattle.image.proofs.series.decided.Goals.{After-border_count, After-tally-t, In_ok-decide_refusal}
use Rattle.image.proofs.series.decided.Goals as goal

abbrev image : After-border_count → List ℕ
image c = c.args.image.now

abbrev border : After-border_count → ℕ
border c = c.args.border

abbrev side : After-border_count → ℕ
side c = c.args.side

long : (c : After-border_count) → length (image c) ≡ 11082
long c = c.requires.0

known : (c : After-border_count) → image_alien (image c) ≡ false
known c = c.requires.1

bytes : (c : After-border_count) → Bytes (image c)
bytes c = λ i. omega (arith, c.slice_known-1.given i)

-- where the tests are passed
done : (c : In_ok-decide_refusal) → number_of c.decide_refusal.result ≡ 0
done c = ap number_of c.in_ok-decide_refusal.was

pub decide_refusal-requires : goal.decide_refusal-requires
decide_refusal-requires c =
    let l = c.literal-l in
    let here = (goal.at.decide_refusal-requires c).After-border_count in
    omega (
      arith,
      series-part-length (image here) (bytes here) (known here),
      few (image here) (bytes here) (known here) (border here) (side here) l.result l.ensures c.border_count.result
          c.border_count.ensures,
    )

pub returns-in_err-decide_refusal : goal.returns-in_err-decide_refusal
returns-in_err-decide_refusal c =
    let l = c.literal-l in
    let here = (goal.at.returns-in_err-decide_refusal c).After-border_count in
    let p = err_from_is_err_and c.from_residual.result c.from_residual.ensures.1 in
    rw (p.1, p.2)
    (decide-not (image here) (bytes here) (known here) (border here) (side here) l.result l.ensures
    c.border_count.result c.border_count.ensures (Err _)
    (sym c.in_err-decide_refusal.was ∙ c.decide_refusal.ensures) (refused-number _))

-- the places of a decide that is not refused, and the tally that can count it
room : (c : After-tally-t)
    → let t = c.tally-t.result in
    (c.literal-l.result.border < 1984) × (c.from-at.result < 1984)
    × (0 < t.undecided) × (t.walls ≤ 1984) × (t.opens ≤ 1984)
room c =
    let l = c.literal-l in
    let here = (goal.at.After-tally-t c).After-border_count in
    decide-room (image here) (bytes here) (known here) (border here) (side here) l.result l.ensures
    c.border_count.result c.border_count.ensures _ c.decide_refusal.ensures
    (done (goal.at.After-tally-t c).In_ok-decide_refusal) _
    (c.from-at.ensures ∙ c.two.ensures) _ c.tally-t.ensures

pub more-requires : goal.more-requires
more-requires c = let r = room (goal.at.more-requires c).After-tally-t in (r.2, r.3, r.4)

pub rewrite-requires : goal.rewrite-requires
rewrite-requires c =
    let r = room (goal.at.rewrite-requires c).After-tally-t in
    (long (goal.at.rewrite-requires c).After-border_count, r.0, r.1)

pub returns : goal.returns
returns c =
    let l = c.literal-l in
    let here = (goal.at.returns c).After-border_count in
    decide-step (image here) (bytes here) (known here) (border here) (side here) l.result l.ensures
    c.border_count.result c.border_count.ensures _ c.decide_refusal.ensures
    (done (goal.at.returns c).In_ok-decide_refusal) _
    (c.from-at.ensures ∙ c.two.ensures) _ c.tally-t.ensures c.from-v.ensures
    c.more.ensures c.rewrite.ensures
