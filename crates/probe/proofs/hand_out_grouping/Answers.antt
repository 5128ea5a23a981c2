-- The four parts are stored one after the other.
use Rattle.std.proofs.Common.{rules, ◌≡◌, ◌∙◌, ap, sym, arith, ◌≤◌, length, ◌++◌, take, drop, length-take-le}
use Rattle.std.proofs.Math.Seq.{length-sets}
use Rattle.std.proofs.lemmas.List.Edits.{sets}
use Rattle.image.specs.ByteLaws.{part-stored}
use Rattle.probe.proofs.SetsLaws.{stored-front, four-parts, four-length}
use Rattle.probe.proofs.hand_out_grouping.Goals.{Start}
use Rattle.probe.proofs.hand_out_grouping.Goals as goal

front : (c : Start) → length (take 1024 c.args.memory.now) ≡ 1024
front c = length-take-le 1024 c.args.memory.now (omega (arith, c.requires))

pub slice_bounds-copy_from_slice-end-2 : goal.slice_bounds-copy_from_slice-end-2
slice_bounds-copy_from_slice-end-2 c = sym (front (goal.at.slice_bounds-copy_from_slice-end-2 c).Start)

pub copy_from_slice-requires : goal.copy_from_slice-requires
copy_from_slice-requires c =
    let n : length c.args.grouping.now.numbers ≡ 1024 = search rules in
    front (goal.at.copy_from_slice-requires c).Start ∙ sym n

pub returns : goal.returns
returns c =
    let m = c.args.memory.now in
    let g = c.args.grouping.now in
    let n : length g.numbers ≡ 1024 = search rules in
    let k : length g.cells ≡ 1024 = search rules in
    let o : length g.starts ≡ 1025 = search rules in
    let p = c.copy_from_slice.new.self in
    let q = c.copy_from_slice-2.new.self in
    let r = c.copy_from_slice-3.new.self in
    let room : 16384 ≤ length m = c.requires in
    let one : p ++ drop 1024 m ≡ sets m 0 g.numbers =
    ap (λ l. l ++ drop 1024 m) c.copy_from_slice.ensures.after
    ∙ rw n at (stored-front m g.numbers (omega (arith, n, room))) in
    let s = sets m 0 g.numbers in
    let long : length s ≡ length m = length-sets m 0 g.numbers in
    let two = part-stored 1024 1024 s q g.cells c.copy_from_slice-2.ensures.after k (omega (arith, long, room)) in
    let t = sets s 1024 g.cells in
    let more : length t ≡ length s = length-sets s 1024 g.cells in
    let three = part-stored 2048 1025 t r g.starts c.copy_from_slice-3.ensures.after o
    (omega (arith, more, long, room)) in
    record {
      memory = rw (one, two, three) (four-parts m g.numbers g.cells g.starts g.count n k o);
      count = four-length g.numbers g.cells g.starts g.count n k o;
    }
