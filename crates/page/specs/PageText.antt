-- A page as text. `page_of` reads exactly the texts of pages whose numbers, rows and clues fit.
--
--   counted n stop      the text of a number and the byte stop
--   Count n             n is at most 2147483647
--   show_size, show_row, show_clue, show_call  the text of a line
--   show_side side      the end of a decide's line, from its side on
--   ClueFit, CallFit    the numbers of the line are at most 2147483647; a page has no preview
--   show_sheet p        the text of a page
--   SheetFit p          so are those of the page, and each row has digits only, and one at least
use Rattle.std.specs.Prelude.{◌≡◌, refl, ◌⊎◌, List, [], ◌∷◌, ◌++◌, ℕ, ◌≤◌, length}
use Rattle.std.proofs.Common.{inl, inr, ⊎_elim, arith}
use Rattle.std.proofs.Math.Option.{none}
use Rattle.lists.specs.Lists.{or_else}
use Rattle.rules.specs.declared.Side.{Side}
use Rattle.rules.specs.declared.Side.TheVariants.{Wall, Open}
use Rattle.rules.specs.declared.Call.{Call}
use Rattle.rules.specs.declared.Call.TheVariants.{Decide, Undo, Check, Preview}
use Rattle.page.specs.declared.Clue.{Clue}
use Rattle.page.specs.Parsers.{also, onto, lead, either, map_r, give, strip, number}
use Rattle.page.specs.Grammar.{Sheet, clue_from, decide_from, sheet_from, space, bracket, newline}
use Rattle.page.specs.Grammar.{page_word, size_word, row_word, clue_word, decide_word, undo_word, check_word}
use Rattle.page.specs.Grammar.{wall_word, open_word, end_word, size, row, clue, side, decide_call, call, close, sheet}
use Rattle.page.specs.Decimal.{decimal}
use Rattle.page.specs.Printed.{Prints, Takes, takes-printed, reshow, refit, give-prints, lead-prints}
use Rattle.page.specs.Printed.{followed-prints, either-prints, both-prints, map-prints}
use Rattle.page.specs.NumberText.{RowFit, digit_bytes, number-prints, digits-prints}
use Rattle.page.specs.Many.{show_all, AllFit, rep-prints}

-- a number, and the byte after it
abbrev pub counted : ℕ → ℕ → List ℕ
counted n stop = decimal n ++ (stop ∷ [])

abbrev pub Count : ℕ → Type 0
Count n = n ≤ 2147483647

unfoldable pub show_size : ℕ × ℕ → List ℕ
show_size c = size_word ++ (counted c.0 space ++ (counted c.1 bracket ++ newline))

unfoldable pub show_row : List ℕ → List ℕ
show_row ds = row_word ++ ((digit_bytes ds ++ (bracket ∷ [])) ++ newline)

unfoldable pub show_clue : Clue → List ℕ
show_clue c = clue_word ++ (counted c.y space ++ (counted c.x space ++ (counted c.n bracket ++ newline)))

unfoldable pub show_side : Side → List ℕ
show_side Wall = wall_word
show_side Open = open_word

-- "Image and page program gain no preview": it has no text
unfoldable pub show_call : Call → List ℕ
show_call (Decide l) = decide_word ++ (counted l.border space ++ show_side l.side)
show_call Undo = undo_word
show_call Check = check_word
show_call (Preview l) = []

abbrev pub ClueFit : Clue → Type 0
ClueFit c = Count c.y × (Count c.x × Count c.n)

unfoldable pub CallFit : Call → Type 0
CallFit (Decide l) = Count l.border
CallFit Undo = Unit {0}
CallFit Check = Unit {0}
CallFit (Preview l) = ⊥

spaced : Prints (number space) (λ n. counted n space) Count
spaced = number-prints space (inr (omega arith))

closed : Prints (number bracket) (λ n. counted n bracket) Count
closed = number-prints bracket (inr (omega arith))

pub size-prints : Prints size show_size (λ c. Count c.0 × Count c.1)
unfolding size show_size
size-prints = lead-prints size_word (both-prints spaced (followed-prints newline closed))

pub row-prints : Prints row show_row RowFit
unfolding row show_row
row-prints = lead-prints row_word (followed-prints newline (digits-prints bracket (inr (omega arith))))

pub clue-prints : Prints clue show_clue ClueFit
unfolding clue show_clue
clue-prints =
    map-prints clue_from show_clue ClueFit
    (lead-prints clue_word (both-prints spaced (both-prints spaced (followed-prints newline closed))))
    (λ a f. (refl, f)) (λ c f. ((c.y, (c.x, c.n)), (f, refl)))

side-prints : Prints side show_side (λ _. Unit {0})
unfolding side show_side lead onto strip
side-prints =
    refit (λ _. Unit {0})
    (either-prints
    (reshow show_side (lead-prints wall_word (give-prints Wall)) (λ a e. rw (← e)))
    (reshow show_side (lead-prints open_word (give-prints Open)) (λ a e. rw (← e)))
    (λ a t e. rw (← e)))
    (λ a f. tt) sides
  where
    sides : (a : Side) → Unit {0} → (Wall ≡ a) ⊎ (Open ≡ a)
    sides Wall f = inl refl
    sides Open f = inr refl

-- a decide's line, of decides alone
unfoldable DecideFit : Call → Type 0
DecideFit (Decide l) = Count l.border
DecideFit Undo = ⊥
DecideFit Check = ⊥
DecideFit (Preview l) = ⊥

decide-prints : Prints decide_call show_call DecideFit
unfolding decide_call show_call DecideFit
decide-prints =
    map-prints decide_from show_call DecideFit (lead-prints decide_word (both-prints spaced side-prints))
    (λ a f. (refl, f.0)) from
  where
    from : (b : Call) → DecideFit b → (a : ℕ × Side) × ((Count a.0 × Unit {0}) × (decide_from a ≡ b))
    from (Decide l) f = ((l.border, l.side), ((f, tt), refl))
    from Undo f = absurd f
    from Check f = absurd f
    from (Preview l) f = absurd f

pub call-prints : Prints call show_call CallFit
unfolding call show_call lead onto strip CallFit DecideFit
call-prints =
    refit CallFit
    (either-prints
    (reshow show_call (lead-prints undo_word (give-prints Undo)) (λ a e. rw (← e)))
    (either-prints
    (reshow show_call (lead-prints check_word (give-prints Check)) (λ a e. rw (← e)))
    decide-prints decide-check)
    (λ a t. ⊎_elim (λ e. rw (← e)) (decide-undo a t)))
    to from
  where
    decide-check : (a : Call) (t : List ℕ) → DecideFit a → lead check_word (give Check) (show_call a ++ t) ≡ none
    decide-check (Decide l) t f = refl
    decide-check Undo t f = absurd f
    decide-check Check t f = absurd f
    decide-check (Preview l) t f = absurd f

    decide-undo : (a : Call) (t : List ℕ) → DecideFit a → lead undo_word (give Undo) (show_call a ++ t) ≡ none
    decide-undo (Decide l) t f = refl
    decide-undo Undo t f = absurd f
    decide-undo Check t f = absurd f
    decide-undo (Preview l) t f = absurd f

    to : (a : Call) → (Undo ≡ a) ⊎ ((Check ≡ a) ⊎ DecideFit a) → CallFit a
    to (Decide l) (inl e) = let z : ◌≡◌ {A = ℕ} 0 1 = cc in absurd (omega arith)
    to (Decide l) (inr (inl e)) = let z : ◌≡◌ {A = ℕ} 0 1 = cc in absurd (omega arith)
    to (Decide l) (inr (inr f)) = f
    to Undo f = tt
    to Check f = tt
    to (Preview l) (inl e) = let z : ◌≡◌ {A = ℕ} 0 1 = cc in absurd (omega arith)
    to (Preview l) (inr (inl e)) = let z : ◌≡◌ {A = ℕ} 0 1 = cc in absurd (omega arith)
    to (Preview l) (inr (inr f)) = f

    from : (a : Call) → CallFit a → (Undo ≡ a) ⊎ ((Check ≡ a) ⊎ DecideFit a)
    from (Decide l) f = inr (inr f)
    from Undo f = inl refl
    from Check f = inr (inl refl)
    from (Preview l) f = absurd f

-- each line takes a byte at least
pub row-takes : Takes 1 row
unfolding show_row
row-takes = takes-printed row show_row RowFit 1 row-prints (λ ds f. omega arith)

pub clue-takes : Takes 1 clue
unfolding show_clue
clue-takes = takes-printed clue show_clue ClueFit 1 clue-prints (λ c f. omega arith)

pub call-takes : Takes 1 call
unfolding show_call CallFit
call-takes = takes-printed call show_call CallFit 1 call-prints long
  where
    long : (a : Call) → CallFit a → 1 ≤ length (show_call a)
    long (Decide l) f = omega arith
    long Undo f = omega arith
    long Check f = omega arith
    long (Preview l) f = absurd f

-- a line is not read where one of a later kind stands
call-not : (t : List ℕ) → call (bracket ∷ t) ≡ none
unfolding call decide_call either or_else map_r also lead onto strip
call-not t = refl

clue-not : (ks : List Call) (u t : List ℕ) → AllFit CallFit ks
    → clue ((show_all show_call ks ++ (bracket ∷ u)) ++ t) ≡ none
unfolding clue map_r also lead onto strip show_all show_call AllFit CallFit
clue-not [] u t f = refl
clue-not (Decide l ∷ ks) u t f = refl
clue-not (Undo ∷ ks) u t f = refl
clue-not (Check ∷ ks) u t f = refl
clue-not (Preview l ∷ ks) u t f = absurd f.0

row-not : (cs : List Clue) (ks : List Call) (u t : List ℕ) → AllFit CallFit ks
    → row ((show_all show_clue cs ++ (show_all show_call ks ++ (bracket ∷ u))) ++ t) ≡ none
unfolding row lead onto strip show_all show_call show_clue AllFit CallFit
row-not [] [] u t f = refl
row-not [] (Decide l ∷ ks) u t f = refl
row-not [] (Undo ∷ ks) u t f = refl
row-not [] (Check ∷ ks) u t f = refl
row-not [] (Preview l ∷ ks) u t f = absurd f.0
row-not (c ∷ cs) ks u t f = refl

unfoldable pub show_sheet : Sheet → List ℕ
show_sheet p =
    page_word ++ (show_size (p.height, p.width) ++
    (show_all show_row p.rows ++ (show_all show_clue p.clues ++ (show_all show_call p.calls ++ end_word))))

pub record SheetFit (p : Sheet) : Type 0 where
  pub height : Count p.height
  pub width : Count p.width
  pub rows : AllFit RowFit p.rows
  pub clues : AllFit ClueFit p.clues
  pub calls : AllFit CallFit p.calls

-- the grammar reads exactly the texts of pages
pub sheet-prints : Prints sheet show_sheet SheetFit
unfolding sheet show_sheet close
sheet-prints =
    map-prints sheet_from show_sheet SheetFit
    (lead-prints page_word
    (both-prints size-prints
    (rep-prints row-prints
    (rep-prints clue-prints
    (rep-prints call-prints (lead-prints end_word (give-prints (tt {0}))) call-takes (λ b t f. call-not (10 ∷ t)))
    clue-takes (λ c t f. clue-not c.0 (10 ∷ []) t f.0))
    row-takes (λ c t f. row-not c.0 c.1.0 (10 ∷ []) t f.1.0))))
    (λ a f. (
      refl,
      record {
        height = f.0.0;
        width = f.0.1;
        rows = f.1.0;
        clues = f.1.1.0;
        calls = f.1.1.1.0;
      },
    ))
    (λ p f. (
      ((p.height, p.width), (p.rows, (p.clues, (p.calls, tt)))),
      (((f.height, f.width), (f.rows, (f.clues, (f.calls, refl)))), refl),
    ))
