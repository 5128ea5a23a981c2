-- The two sides of the page's grammar and of its judgement.
--
--   Spells s p          the bytes s are the text of the page p, and all that 01 asks of form holds
--   page-sound, page-complete  `page_of s ≡ some p` exactly where s spells p
--   PagePuzzle s p      the bytes s are accepted as the page p: what its arrays hold
use Rattle.std.specs.Prelude.{◌≡◌, refl, Bool, true, false, cond, List, [], ◌∷◌, ℕ, ◌*◌, ◌≤◌, leb, length, take}
use Rattle.std.proofs.Common.{sym, ap, ◌∙◌, subst, append-nil, arith, le-leb, leb-true}
use Rattle.std.proofs.Math.Option.{Option, none, some}
use Rattle.laws.specs.FlatLaws.{counts}
use Rattle.board.specs.ConditionLaws.{size_is}
use Rattle.page.specs.Grammar.{Sheet, clues_fit, sheet, whole, page_of}
use Rattle.page.specs.PageText.{show_sheet, SheetFit, sheet-prints}
use Rattle.page.specs.Judge.{accepted, judge_read, judgement_of, colours_of, clues_of}
use Rattle.page.specs.Judge.{colour_array, clue_array}
use Rattle.page.specs.JudgeLaws.{right, formed}
use Rattle.page.specs.PuzzleLaws.{Makes, makes, colours-length, colours-front, clues-length, clues-front}

pub record Spells (s : List ℕ) (p : Sheet) : Type 0 where
  pub short : length s ≤ 65536
  pub text : s ≡ show_sheet p
  pub fit : SheetFit p
  pub clues : clues_fit p.height p.width p.clues ≡ true

pub page-complete : (s : List ℕ) (p : Sheet) → Spells s p → page_of s ≡ some p
unfolding page_of whole
page-complete s p k =
    let e : sheet s ≡ some (p, []) =
    ap sheet (k.text ∙ sym (append-nil (show_sheet p))) ∙ sheet-prints.complete p [] k.fit in
    rw (le-leb (length s) 65536 k.short, e, k.clues)

pub page-sound : (s : List ℕ) (p : Sheet) → page_of s ≡ some p → Spells s p
unfolding page_of whole
page-sound s p e = go (leb (length s) 65536) refl e
  where
    fitting : (q : Sheet) (b : Bool) → clues_fit q.height q.width q.clues ≡ b → cond b (some q) none ≡ some p
        → (q ≡ p) × (clues_fit p.height p.width p.clues ≡ true)
    fitting q true h k =
        let j : q ≡ p = cc in
        (j, ap (λ (r : Sheet). clues_fit r.height r.width r.clues) (sym j) ∙ h)
    fitting q false h k = let z : ◌≡◌ {A = ℕ} 0 1 = cc in absurd (omega arith)

    on : (o : Option (Sheet × List ℕ)) → sheet s ≡ o → whole o ≡ some p → length s ≤ 65536 → Spells s p
    on none h k l = let z : ◌≡◌ {A = ℕ} 0 1 = cc in absurd (omega arith)
    on (some (q, [])) h k l =
        let f = fitting q (clues_fit q.height q.width q.clues) refl k in
        let j : sheet s ≡ some (p, []) = h ∙ ap (λ (r : Sheet). some (r, [])) f.0 in
        let t = sheet-prints.sound s p [] j in
        record { short = l; text = t.0 ∙ append-nil (show_sheet p); fit = t.1; clues = f.1 }
    on (some (q, b ∷ t)) h k l = let z : ◌≡◌ {A = ℕ} 0 1 = cc in absurd (omega arith)

    go : (b : Bool) → leb (length s) 65536 ≡ b → cond b (whole (sheet s)) none ≡ some p → Spells s p
    go true h k = on (sheet s) refl k (leb-true (length s) 65536 h)
    go false h k = let z : ◌≡◌ {A = ℕ} 0 1 = cc in absurd (omega arith)

pub record PagePuzzle (s : List ℕ) (p : Sheet) : Type 0 where
  pub spells : Spells s p
  pub makes : Makes p
  pub cells : p.height * p.width ≤ 1024
  pub colours_length : length (colours_of p) ≡ p.height * p.width
  pub clues_length : length (clues_of p) ≡ p.height * p.width
  pub colours : take (p.height * p.width) (colour_array p.rows) ≡ colours_of p
  pub clues : take (p.height * p.width) (clue_array p.width p.clues) ≡ clues_of p
