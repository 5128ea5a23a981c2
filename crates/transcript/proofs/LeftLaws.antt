-- Laws of what is left to print, one for each return of the code.
--
--   put-goes            a line was put
--   literals-more, literals-none  some literals of a reason, or none, are left
--   left-lines-none, left-lines-more  no call is left, or one is read
--   memory-none, memory-more  the memory then
--   line-left           the line of an answer and what is left after it
--   turn-less           a call takes a step
--   refused-left, accepted-left  what is left after the first line
--   reason-more, reason-end, turn_end, turn-goes  a chunk of a reason, its end, no call, a call
--   next-goes, next-over  a chunk, and no chunk, at a stage of the run
--   next-short          no chunk, where the buffer is too short
use Rattle.std.proofs.Math.Path.{◌≡◌, refl, sym, ap}
use Rattle.std.proofs.Common.{ap₂, ◌∙◌, lt-ltb, le-ltb, length-take, drop-cons, get_or-take}
use Rattle.std.specs.Prelude.{Bool, true, cond, ℕ, zero, suc, ◌+◌, ◌-◌, ◌*◌, ◌/◌, ◌%◌, ◌<◌, ◌≤◌, eqb, length, take}
use Rattle.std.specs.Prelude.{drop, get_or}
use Rattle.std.proofs.Math.Bool.{false}
use mathlib.Core.List.{List, [], ◌∷◌, ◌++◌, map, append_assoc}
use Rattle.std.proofs.Math.Option.{none, some}
use Rattle.std.proofs.Math.Decide.{dec_lt}
use native.Mathlib.Omega.{arith}
use Rattle.rules.specs.declared.Side.TheVariants.{Wall, Open}
use Rattle.rules.specs.declared.Call.{Call}
use Rattle.rules.specs.Book.{refused}
use Rattle.board.specs.declared.Board.{Board}
use Rattle.calls.specs.declared.Answer.{Answer}
use Rattle.calls.specs.declared.Stepped.{Stepped}
use Rattle.calls.specs.Answers.{literal_of, reason_in, told, call_of, call_memory}
use Rattle.calls.specs.NumberLaws.{InRange}
use Rattle.calls.proofs.RangeLaws.{call-range}
use Rattle.page.specs.declared.Parts.{Parts}
use Rattle.page.specs.FormLaws.{from-none, from_more}
use Rattle.page.specs.Grammar.{end_word, call}
use Rattle.page.specs.Judge.{rejected, accepted, judgement_of}
use Rattle.page.specs.Many.{show_all, passes}
use Rattle.page.specs.PageText.{counted, call-takes}
use Rattle.page.specs.Places.{sheet_at, all_from}
use Rattle.page.specs.Parsers.{rest}
use Rattle.page.specs.ParserLaws.{rest-past}
use Rattle.print.specs.declared.Line.{Line}
use Rattle.print.specs.declared.Chunk.{Chunk}
use Rattle.print.specs.Answers.{letter, show_literal, show_reply, code_text, text_of, conflict_word}
use Rattle.print.specs.Lines.{LineHolds, Written, written-length, written-front, written-rest, holds_text, holds-short}
use Rattle.print.specs.Chunks.{codes_from, Put, chunk-codes-none, chunk-codes-more, show-append, put-none}
use Rattle.transcript.specs.declared.Stage.{Stage}
use Rattle.transcript.specs.declared.Stage.TheVariants.{Calls, Reason, Last, Over}
use Rattle.transcript.specs.declared.Run.{Run}
use Rattle.transcript.specs.Left.{board_at, calls_text, judged_text, literals_text, line_of, stage_of, goes_on}
use Rattle.transcript.specs.Left.{lines_from, left_at, left, steps_at, steps, Goes, Next, first_memory, memory_at}
use Rattle.transcript.specs.Left.{memory_next}
use Rattle.transcript.specs.BoardLaws.{page-board}
use Rattle.calls.specs.declared.Answer.TheVariants as answer

pub put-goes : (s : List ℕ) (r : Run) {line : Line} {ds text m before out : List ℕ} {most : ℕ} → LineHolds line ds
    → Written before 0 (text_of line) out r.count → 32 ≤ length before → ds ++ left s r m ≡ text
    → steps s r < most → Goes s text most before r m out
put-goes s r {m = m} {before} h w l e k =
    let f : r.count ≤ length before = omega (arith, w.next, holds-short h) in
    record {
      fits = omega (arith, written-length w);
      prints = ap (λ (t : List ℕ). t ++ left s r m) (written-front w f ∙ holds_text h) ∙ e;
      kept = written-rest w f;
      less = k;
    }

-- ---- the literals of a reason
literals-split : (m : List ℕ) (a e n : ℕ) → a + n ≤ e → a + n ≤ length m
    → codes_from m a (a + n) ++ drop (a + n) (take e m) ≡ drop a (take e m)
literals-split m a e zero h l =
    let z : a + 0 ≡ a = omega arith in
    rw (z, chunk-codes-none m a)
literals-split m a e (suc n) h l =
    let z : a + suc n ≡ a + n + 1 = omega arith in
    let y : a + suc n ≡ suc (a + n) = omega arith in
    let c : codes_from m a (a + suc n) ≡ codes_from m a (a + n) ++ (get_or m (a + n) 0 ∷ []) =
    ap (codes_from m a) z ∙ chunk-codes-more m a (a + n) (omega arith) in
    let d : drop (a + n) (take e m) ≡ get_or m (a + n) 0 ∷ drop (a + suc n) (take e m) =
    drop-cons (take e m) (a + n) 0 (simp length-take (omega arith))
    ∙ rw (get_or-take e m (a + n) 0 (omega arith), y) in
    rw c
    (append_assoc (codes_from m a (a + n)) (get_or m (a + n) 0 ∷ []) (drop (a + suc n) (take e m))
    ∙ rw (← d) (literals-split m a e n (omega arith) (omega arith)))

pub literals-more : (m : List ℕ) (a p e : ℕ) → a ≤ p → p ≤ e → p ≤ length m
    → show_all code_text (codes_from m a p) ++ literals_text m p e ≡ literals_text m a e
unfolding literals_text
literals-more m a p e h k l =
    let z : a + (p - a) ≡ p = omega arith in
    let q : codes_from m a p ++ drop p (take e m) ≡ drop a (take e m) =
    rw z at (literals-split m a e (p - a) (omega arith) (omega arith)) in
    sym (show-append code_text (codes_from m a p) (drop p (take e m))) ∙ ap (show_all code_text) q

pub literals-none : (m : List ℕ) (a e : ℕ) → (a < e → a < length m → ⊥) → literals_text m a e ≡ []
unfolding literals_text show_all rest
literals-none m a e h =
    ap (show_all code_text) (rest-past (take e m) a (go (dec_lt a e) (dec_lt a (length m))))
  where
    go : Dec (a < e) → Dec (a < length m) → length (take e m) ≤ a
    go (yes x) (yes y) = absurd (h x y)
    go (no x) d = simp length-take (omega arith)
    go (yes x) (no y) = simp length-take (omega arith)

-- the numbers of the memory print the literals that they stand for
code-literal : (k : ℕ) → show_literal (literal_of k) ≡ code_text k
unfolding show_literal literal_of code_text
code-literal k = go (eqb (k % 2) 1)
  where
    go : (x : Bool) → 32 ∷ counted (k / 2) (letter (cond x Wall Open)) ≡ 32 ∷ counted (k / 2) (cond x 119 111)
    go true = refl
    go false = refl

codes-literals : (ks : List ℕ) → show_all show_literal (map literal_of ks) ≡ show_all code_text ks
unfolding show_all
codes-literals [] = refl
codes-literals (k ∷ ks) = rw (code-literal k, codes-literals ks)

-- ---- a call
module _ (s : List ℕ) (b : Board) (at : ℕ) (m : List ℕ) where
  pub left-lines-none : call (rest s at) ≡ none → lines_from s b at m ≡ end_word
  unfolding lines_from calls_text
  left-lines-none e = rw (from-none call-takes s at e)

  pub left-lines-more : (c : Call) (next : ℕ) → call (rest s at) ≡ some (c, rest s next)
      → lines_from s b at m ≡ show_reply (told (call_of b c m).answer (call_memory b c m))
      ++ lines_from s (call_of b c m).board next (call_memory b c m)
  unfolding lines_from calls_text
  left-lines-more c next e = rw (from_more call-takes s at c next e)

  pub memory-none : call (rest s at) ≡ none → m ≡ first_memory b m (all_from call s at)
  unfolding first_memory
  memory-none e = rw (from-none call-takes s at e)

  pub memory-more : (c : Call) (next : ℕ) → call (rest s at) ≡ some (c, rest s next)
      → call_memory b c m ≡ first_memory b m (all_from call s at)
  unfolding first_memory
  memory-more c next e = rw (from_more call-takes s at c next e)

  pub line-left : (a : Answer)
      → line_of a ++ left_at s (stage_of a) b at m ≡ show_reply (told a m) ++ lines_from s b at m
  unfolding line_of stage_of left_at show_reply literals_text reason_in
  line-left answer.Done = refl
  line-left (answer.Pass n) = refl
  line-left (answer.Refused r) = refl
  line-left (answer.Conflict n) =
      rw (codes-literals (take n m))
      (ap (λ (t : List ℕ). conflict_word ++ t)
      (sym (append_assoc (show_all code_text (take n m)) end_word (lines_from s b at m))))

-- a reason is short
few-less : (s : List ℕ) (a : Answer) (at next : ℕ) → InRange a → length s - next < length s - at
    → steps_at s (stage_of a) next < (length s - at) * 2000 + 2
unfolding stage_of steps_at
few-less s answer.Done at next f h = omega arith
few-less s (answer.Pass n) at next f h = omega arith
few-less s (answer.Conflict n) at next f h = omega arith
few-less s (answer.Refused r) at next f h = omega arith

pub turn-less : (s : List ℕ) (b : Board) (c : Call) (m : List ℕ) (at next : ℕ) → length s - next < length s - at
    → steps_at s (stage_of (call_of b c m).answer) next < (length s - at) * 2000 + 2
turn-less s b c m at next h = few-less s (call_of b c m).answer at next (call-range b c m) h

-- ---- the page
module _ (s m : List ℕ) where
  pub refused-left : (n : ℕ) → judgement_of s ≡ rejected n
      → show_reply (refused n) ++ end_word ≡ judged_text m (judgement_of s)
  unfolding judged_text
  refused-left n e = rw e

  pub accepted-left : (p : Parts) (b : Board) → judgement_of s ≡ accepted (sheet_at s p) → b ≡ board_at (sheet_at s p)
      → lines_from s b p.calls m ≡ judged_text m (judgement_of s)
  unfolding judged_text lines_from sheet_at
  accepted-left p b e q =
      ap (λ (d : Board). calls_text d m (sheet_at s p).calls) (q ∙ page-board s (sheet_at s p) e)
      ∙ ap (judged_text m) (sym e)

-- ---- chunks of a reason
module _ (s : List ℕ) (b : Board) (at : ℕ) (m : List ℕ) (from to : ℕ) where
  module _ (p : Chunk) (before out : List ℕ) (P : Put m from to before out p) where
    pub reason-more : from < p.next
        → Goes s (literals_text m from to ++ (end_word ++ lines_from s b at m))
        ((length s - at) * 2000 + 3 + (to - from))
        before (record { board = b; at = at; stage = Reason p.next to; count = p.count }) m out
    unfolding left_at steps_at
    reason-more h =
        let Q = P.putting in
        let w = Q.within h in
        let rest = end_word ++ lines_from s b at m in
        record {
          fits = omega (arith, Q.fits, written-length Q.written);
          prints =
              sym (append_assoc (take p.count out) (literals_text m p.next to) rest)
              ∙ ap (λ (t : List ℕ). t ++ rest)
              (ap (λ (t : List ℕ). t ++ literals_text m p.next to) (written-front Q.written Q.fits)
              ∙ literals-more m from p.next to Q.from w.0 w.1);
          kept = written-rest Q.written Q.fits;
          less = omega arith;
        }

    pub reason-end : {line : Line} {after : List ℕ} {n : ℕ} → p.next ≤ from → LineHolds line end_word
        → Written out 0 (text_of line) after n → 32 ≤ length before
        → Goes s (literals_text m from to ++ (end_word ++ lines_from s b at m))
        ((length s - at) * 2000 + 3 + (to - from))
        before (record { board = b; at = at; stage = Calls; count = n }) m after
    unfolding left_at steps_at
    reason-end {n = n} h k w l =
        put-goes s (record { board = b; at = at; stage = Calls; count = n }) k (rw (put-none P h) at w) l
        (rw (literals-none m from to (λ x y. let z = P.moves x y l in omega arith))) (omega arith)

-- ---- calls
module _ (s : List ℕ) (b : Board) (at : ℕ) (m : List ℕ) where
  pub turn_end : (out : List ℕ) → call (rest s at) ≡ none
      → Goes s (lines_from s b at m) ((length s - at) * 2000 + 2) out
      (record { board = b; at = at; stage = Last; count = 0 }) m out
      × (m ≡ first_memory b m (all_from call s at))
  unfolding left_at steps_at
  turn_end out e = (
    record { fits = omega arith; prints = sym (left-lines-none s b at m e); kept = refl; less = omega arith },
    memory-none s b at m e,
  )

  pub turn-goes : (c : Call) (next : ℕ) {t : Stepped} {after : List ℕ} {g : Stage} {line : Line} {before out : List ℕ}
      {n : ℕ} → call (rest s at) ≡ some (c, rest s next) → (t ≡ call_of b c m) × (after ≡ call_memory b c m)
      → g ≡ stage_of t.answer → LineHolds line (line_of t.answer) → Written before 0 (text_of line) out n
      → 32 ≤ length before
      → Goes s (lines_from s b at m) ((length s - at) * 2000 + 2) before
      (record { board = t.board; at = next; stage = g; count = n }) after out
      × (after ≡ first_memory b m (all_from call s at))
  turn-goes c next {t} {after} {g} {n = n} e p q h w l =
      let z : steps_at s g next ≡ steps_at s (stage_of (call_of b c m).answer) next =
      ap (λ (k : Stage). steps_at s k next) (q ∙ ap (λ (u : Stepped). stage_of u.answer) p.0) in (
        put-goes s (record { board = t.board; at = next; stage = g; count = n }) h w l
            (ap (λ (k : Stage). line_of t.answer ++ left_at s k t.board next after) q
            ∙ line-left s t.board next after t.answer
            ∙ ap₂ (λ (u : Stepped) (k : List ℕ). show_reply (told u.answer k) ++ lines_from s u.board next k)
            p.0 p.1
            ∙ sym (left-lines-more s b at m c next e))
            (omega (arith, turn-less s b c m at next (passes call-takes s at next c e))),
        p.1 ∙ memory-more s b at m c next e,
      )

-- ---- a run at a stage
module _ (s : List ℕ) (q : Run) (m before : List ℕ) where
  memory-short : length before < 32 → m ≡ memory_next s q (length before) m
  unfolding memory_next
  memory-short h = rw (lt-ltb (length before) 32 h)

  memory-stage : (g : Stage) {after : List ℕ} → q.stage ≡ g → 32 ≤ length before
      → after ≡ memory_at s g q.board q.at m → after ≡ memory_next s q (length before) m
  unfolding memory_next
  memory-stage g e h a = rw (le-ltb (length before) 32 h, e) a

  pub next-goes : (g : Stage) {r : Run} {after out : List ℕ} → q.stage ≡ g → 32 ≤ length before
      → after ≡ memory_at s g q.board q.at m
      → Goes s (left_at s g q.board q.at m) (steps_at s g q.at) before r after out
      → Next s q m before r after out
  next-goes g e l a G =
      record {
        fits = G.fits;
        prints = G.prints ∙ ap (λ (k : Stage). left_at s k q.board q.at m) (sym e);
        kept = G.kept;
        memory = memory-stage g e l a;
        less = λ h o. let z = ap (λ (k : Stage). steps_at s k q.at) e in omega (arith, G.less);
      }

  -- a buffer that is too short
  pub next-short : length before < 32
      → Next s q m before (record { board = q.board; at = q.at; stage = q.stage; count = 0 }) m before
  next-short h =
      record {
        fits = omega arith;
        prints = refl;
        kept = refl;
        memory = memory-short h;
        less = λ l o. absurd (omega arith);
      }

  pub next-over : q.stage ≡ Over → 32 ≤ length before
      → Next s q m before (record { board = q.board; at = q.at; stage = q.stage; count = 0 }) m before
  unfolding memory_at
  next-over e l =
      record {
        fits = omega arith;
        prints = refl;
        kept = refl;
        memory = memory-stage Over e l refl;
        less =
            λ h o.
            let y : goes_on q.stage ≡ false = ap goes_on e in
            let z : ◌≡◌ {A = ℕ} 0 1 = cc in
            absurd (omega arith);
      }
