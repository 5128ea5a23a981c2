-- Words that are not three are refused; three are the record of the call, and those of the record afterwards.
use mathlib.Core.Path.{ap, ap₂, ◌∙◌}
use lib.Seq.{sets}
use Rattle.rules.specs.declared.Call.{Call}
use Rattle.board.specs.declared.Board.{Board}
use Rattle.calls.specs.declared.Counted.{Counted}
use Rattle.calls.specs.Answers.{answer_number}
use Rattle.calls.specs.Counted.{counted_of, counted_memory}
use Rattle.image.specs.Image.{tally_counts}
use Rattle.probe.specs.ProbeRecords.{tally_from}
use Rattle.probe.specs.ProbeRecordsLaws.{counted-range, record-other, record-three}
use Rattle.probe.proofs.records.probe_counted.Goals as goal

pub returns-then-words-ne3 : goal.returns-then-words-ne3
returns-then-words-ne3 c =
    let a = c.args in
    let r = record-other _ _ a.words.now a.memory.now c.if-words-ne3.true in
    (c.number.ensures ∙ r.0, r.1, r.2)

pub number-requires-2 : goal.number-requires-2
number-requires-2 c = rw c.call_by_value-made.ensures.0 (counted-range _ _ _ _)

pub returns : goal.returns
returns c =
    let a = c.args in
    let ws = a.words.now in
    let m = a.memory.now in
    let g = record-three _ _ ws m c.if-words-ne3.false in
    let e = c.call_by_value-made.ensures in
    let d = e.0 ∙ ap₂ (λ (x : Board) (y : Call). counted_of x y (tally_from ws) m) c.board_from.ensures
    c.call_with.ensures in (
      c.number-2.ensures ∙ ap (λ (x : Counted). answer_number x.stepped.answer) d ∙ g.0,
      c.put_tally.ensures ∙ ap (λ (x : Counted). sets ws 0 (tally_counts x.tally)) d ∙ g.1,
      e.1
          ∙ ap₂ (λ (x : Board) (y : Call). counted_memory x y (tally_from ws) m) c.board_from.ensures
          c.call_with.ensures
          ∙ g.2,
    )
