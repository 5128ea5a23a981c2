-- The page program's output: what `next` puts, chunk after chunk, is the book's text.
--
--   lent_from b m cs    the calls cs from the board b on, each with the memory that the last one left
--   Chunks s q m t      the chunks that `next` puts from the run q on, until all is printed, are the text t
--   first-left          before the first chunk, what is left to print is the page's text
--   printed             the chunks from the first run on are the page's text
--   page-number         the numbers that a page's output can have after `refused`
use Rattle.std.specs.Prelude.{◌≡◌, refl, ℕ, length, take}
use Rattle.std.proofs.Common.{sym, ap₂, ◌∙◌, arith}
use Rattle.std.proofs.Math.Path.{ap}
use mathlib.Core.List.{List, [], ◌∷◌, ◌++◌, map, append_assoc, append-nil}
use mathlib.Core.List.Memᴰ
use Rattle.lists.specs.Lists.{◌∈◌}
use Rattle.rules.specs.declared.Call.{Call}
use Rattle.rules.specs.Book.{Asked, ask, Reply, refused, replies}
use Rattle.laws.specs.BookLaws.{replies-refused}
use Rattle.board.specs.declared.Board.{Board}
use Rattle.calls.specs.Answers.{told, call_of, call_memory}
use Rattle.calls.specs.AnswerLaws.{length-call}
use Rattle.demand3.specs.Runs.{Lent, lend, asked_by, told_by, run_from}
use Rattle.demand3.proofs.Demand3Laws.{demand3}
use Rattle.page.specs.Grammar.{Sheet, end_word}
use Rattle.page.specs.Judge.{Judgement, rejected, accepted, judgement_of, colours_of, clues_of}
use Rattle.page.proofs.JudgedLaws.{judgement-number}
use Rattle.page.specs.Many.{show_all}
use Rattle.print.specs.Answers.{answers_word, show_reply, show_answers}
use Rattle.transcript.specs.declared.Stage.{Stage}
use Rattle.transcript.specs.declared.Stage.TheVariants.{Over}
use Rattle.transcript.specs.declared.Run.{Run}
use Rattle.transcript.specs.Left.{start_board, calls_text, judged_text, first_run, left_at, left, Next}
use Rattle.transcript.specs.Transcript.{puzzle_on, page_replies, transcript}
use Rattle.transcript.specs.BoardLaws.{page-accepted}

unfoldable pub lent_from : Board → List ℕ → List Call → List Lent
lent_from b m [] = []
lent_from b m (c ∷ cs) = lend m c ∷ lent_from (call_of b c m).board (call_memory b c m) cs

asked-from : (b : Board) (m : List ℕ) (cs : List Call) → length m ≡ 1984
    → map asked_by (lent_from b m cs) ≡ map (ask 1984) cs
unfolding lent_from
asked-from b m [] l = refl
asked-from b m (c ∷ cs) l =
    ap₂ (λ (n : ℕ) (asked : List Asked). ask n c ∷ asked) l
    (asked-from (call_of b c m).board (call_memory b c m) cs (length-call b c m ∙ l))

-- the lines are those of the run's answers
calls-run : (b : Board) (m : List ℕ) (cs : List Call)
    → calls_text b m cs ≡ show_all show_reply (map told_by (run_from b (lent_from b m cs))) ++ end_word
unfolding calls_text lent_from run_from show_all
calls-run b m [] = refl
calls-run b m (c ∷ cs) =
    rw (calls-run (call_of b c m).board (call_memory b c m) cs)
    (sym (append_assoc (show_reply (told (call_of b c m).answer (call_memory b c m))) _ end_word))

module _ (s m : List ℕ) (l : length m ≡ 1984) where
  -- demand 3, for the page's puzzle and its calls
  calls-book : (p : Sheet) → judgement_of s ≡ accepted p
      → calls_text (start_board p) m p.calls
      ≡ show_all show_reply (replies (puzzle_on p) (map (ask 1984) p.calls)) ++ end_word
  unfolding start_board
  calls-book p e =
      calls-run (start_board p) m p.calls
      ∙ ap (λ (rs : List Reply). show_all show_reply rs ++ end_word)
      ((demand3 p.height p.width (colours_of p) (clues_of p) (page-accepted s p e)
      (lent_from (start_board p) m p.calls)).answers
      ∙ ap (replies (puzzle_on p)) (asked-from (start_board p) m p.calls l))

  judged-book : (v : Judgement) → judgement_of s ≡ v → judged_text m v ≡ show_all show_reply (page_replies v)
      ++ end_word
  unfolding judged_text page_replies show_all
  judged-book (rejected n) e = rw (append-nil (show_reply (refused n)))
  judged-book (accepted p) e = calls-book p e

  pub first-left : left s first_run m ≡ transcript s
  unfolding left_at transcript show_answers
  first-left = ap (λ (t : List ℕ). answers_word ++ t) (judged-book (judgement_of s) refl)

-- the run goes from chunk to chunk as `next` says, with the memory that it left, and each chunk has a buffer
pub data Chunks (s : List ℕ) : Run → List ℕ → List ℕ → Type 0 where
  over : {q : Run} {m : List ℕ} → q.stage ≡ Over → Chunks s q m []
  chunk : {q r : Run} {m before after out text : List ℕ} → Next s q m before r after out → Chunks s r after text
      → Chunks s q m (take r.count out ++ text)

chunks-left : {s : List ℕ} {q : Run} {m text : List ℕ} → Chunks s q m text → text ≡ left s q m
unfolding left_at
chunks-left {s} {q} {m} (over e) = ap (λ (g : Stage). left_at s g q.board q.at m) (sym e)
chunks-left (chunk {r = r} {out = out} n p) =
    ap (λ (t : List ℕ). take r.count out ++ t) (chunks-left p) ∙ n.prints

-- "It prints `(answers`, one line a check or refused call, `)`": what is written for the bytes s, with reason memory
-- for 1,984 literals, is the text of the book's answers to the page's calls; or its refusal alone
pub printed : (s m text : List ℕ) → length m ≡ 1984 → Chunks s first_run m text → text ≡ transcript s
printed s m text l p = chunks-left p ∙ first-left s m l

-- "a page gives 1 to 3, 10 .. then its calls 6 to 8"; "Number 11 is retired and not used again"
pub page-number : (s : List ℕ) (n : ℕ) → refused n ∈ page_replies (judgement_of s)
    → n ∈ (10 ∷ 1 ∷ 2 ∷ 3 ∷ 6 ∷ 7 ∷ 8 ∷ [])
unfolding page_replies
page-number s n i = go (judgement_of s) refl i
  where
    go : (v : Judgement) → judgement_of s ≡ v → refused n ∈ page_replies v → n ∈ (10 ∷ 1 ∷ 2 ∷ 3 ∷ 6 ∷ 7 ∷ 8 ∷ [])
    go (rejected k) e j =
        let q : refused n ≡ refused k = Memᴰ.eq_of_singleton j in
        let r : n ≡ k = cc in
        Memᴰ.append_left (6 ∷ 7 ∷ 8 ∷ []) (judgement-number s n (e ∙ ap rejected (sym r)))
    go (accepted p) e j =
        Memᴰ.append_right (10 ∷ 1 ∷ 2 ∷ 3 ∷ []) (replies-refused (puzzle_on p) 1984 n (omega arith) p.calls j)
