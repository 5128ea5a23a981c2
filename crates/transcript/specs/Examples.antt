-- 01's sample page: what the page program prints for it.
use Rattle.std.specs.Prelude.{◌≡◌, List, [], ◌∷◌, map, ℕ, length, replicate}
use Rattle.std.proofs.Math.Path.{sym, ap}
use Rattle.std.proofs.Common.{◌∙◌}
use Rattle.std.proofs.lemmas.List.{length-replicate}
use Rattle.lists.specs.Lists.{flat_map}
use Rattle.lists.specs.Table.{table}
use Rattle.rules.specs.Page.{wall_at}
use Rattle.rules.specs.Check.{pass, conflict}
use Rattle.rules.specs.Book.{Asked, ask, Reply, done, answered, replies}
use Rattle.demand3.specs.Runs.{Lent, lend}
use Rattle.demand3.proofs.Demand3Laws.{demand3}
use Rattle.demand3.proofs.SmallRunLaws.{small-runs}
use Rattle.page.specs.Decimal.{decimal_in, decimal}
use Rattle.page.specs.Examples.{sample, sample_page}
use Rattle.page.proofs.JudgedLaws.{sample-accepted}
use Rattle.page.specs.Judge.{Judgement, colours_of, clue_on, clues_of}
use Rattle.page.specs.Many.{show_all}
use Rattle.print.specs.Answers.{show_literal, show_reply, show_answers}
use Rattle.print.specs.Examples.{sample_text}
use Rattle.transcript.specs.Transcript.{puzzle_on, page_replies, transcript}
use Rattle.transcript.specs.BoardLaws.{page-accepted}

-- the book's answers, those of the decides and of the undo among them
abbrev sample_replies : List Reply
sample_replies =
    answered (pass 1) ∷ done ∷ answered (conflict (wall_at 0 ∷ [])) ∷ done ∷ done ∷ answered (pass 0) ∷ []

module _ (m : List ℕ) (l : length m ≡ 1984) where
  abbrev asked : ℕ → List Asked
  asked n = map (ask n) sample_page.calls

  abbrev lent : List Lent
  lent = map (lend m) sample_page.calls

  -- the answers of a run on the page's board (crate demand3, SmallRuns) are the book's, by demand 3
  sample-book : replies (puzzle_on sample_page) (map (ask 1984) sample_page.calls) ≡ sample_replies
  unfolding colours_of clues_of flat_map table clue_on
  sample-book =
      ap (λ n. replies (puzzle_on sample_page) (asked n)) (sym l)
      ∙ sym (demand3 1 2 _ _ (page-accepted sample sample_page sample-accepted) lent).answers
      ∙ small-runs.page.answers m l

-- the page of document 01 prints what document 01 says
pub sample-text : transcript sample ≡ sample_text
unfolding transcript page_replies decimal_in decimal show_all show_literal show_reply show_answers
sample-text =
    ap (λ (v : Judgement). show_answers (page_replies v)) sample-accepted
    ∙ ap show_answers (sample-book (replicate 1984 0) (length-replicate {A = ℕ} 1984 0))
