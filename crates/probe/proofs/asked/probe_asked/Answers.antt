-- A refusal, memory that is too short, or the groups' words.
use Rattle.std.proofs.Common.{◌≡◌, ◌∙◌, ap, sym}
use Rattle.probe.specs.Probe.{kind_of, words_in}
use Rattle.probe.specs.ProbeAsked.{asked_in, told_words}
use Rattle.probe.specs.ProbeAskedLaws.{told-refusal, told-short, told-words}
use Rattle.probe.proofs.asked.probe_asked.Goals.{After-asked_in}
use Rattle.probe.proofs.asked.probe_asked.Goals as goal

answer : (c : After-asked_in) → let a = c.args in
    told_words c.asked_in.result ≡ told_words (asked_in a.s.now (kind_of a.kind))
answer c = ap told_words (c.asked_in.ensures ∙ ap (asked_in c.args.s.now) c.kind_of.ensures)

pub returns-in-Err : goal.returns-in-Err
returns-in-Err c =
    rw c.number.ensures
    (told-refusal c.in-Err.refusal
    (ap told_words (sym c.in-Err.is) ∙ answer (goal.at.returns-in-Err c).After-asked_in))

pub returns-then-memory-lt-ROOM : goal.returns-then-memory-lt-ROOM
returns-then-memory-lt-ROOM c =
    told-short (words_in c.in-Ok.grouping)
    (ap told_words (sym c.in-Ok.is) ∙ answer (goal.at.returns-then-memory-lt-ROOM c).After-asked_in)
    c.if-memory-lt-ROOM.true

pub returns-else-memory-lt-ROOM : goal.returns-else-memory-lt-ROOM
returns-else-memory-lt-ROOM c =
    told-words (words_in c.in-Ok.grouping)
    (ap told_words (sym c.in-Ok.is) ∙ answer (goal.at.returns-else-memory-lt-ROOM c).After-asked_in)
    c.if-memory-lt-ROOM.false c.hand_out_grouping.ensures
