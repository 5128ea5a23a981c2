-- A board's sequence of literals: a decide puts its literal last.
use Rattle.std.specs.Prelude.{◌≡◌, ℕ, ◌<◌, get_or, set, Ok}
use Rattle.std.proofs.Common.{ap, sym, ◌∙◌, arith, get_or-set_same, get_or-set_other}
use Rattle.std.proofs.Math.Path.{ap₂}
use Rattle.std.proofs.lemmas.Bool.{false≢true}
use mathlib.Core.List.{List, [], ◌∷◌, ◌++◌}
use Rattle.std.proofs.Math.ListN.{length}
use Rattle.lists.specs.TableLaws.{table-cong, table_more}
use Rattle.rules.specs.declared.Literal.{Literal}
use Rattle.rules.specs.Codes.{code_of, side_in}
use Rattle.rules.specs.Book.{with_last}
use Rattle.laws.specs.CodeLaws.{side-in}
use Rattle.board.specs.declared.Board.{Board}
use Rattle.board.specs.Alien.{stacked, border_count_of}
use Rattle.board.specs.Board.{returned, pushed, decide_of, Typed}
use Rattle.board.specs.View.{literal_in, literals_of}
use Rattle.board.specs.NativeLaws.{Native, native-has, borders-fit, free-unstacked}
use Rattle.board.proofs.DecideLaws.{decided-is, new-entry, old-entry}
use Rattle.board.proofs.ViewLaws.{stacked-at}

-- a literal is the same where its border and its code are
literal-same : (bs cs : List ℕ) (m n : ℕ) → m ≡ n → get_or bs n 0 ≡ get_or cs n 0 → literal_in bs m ≡ literal_in cs n
literal-same bs cs m n e p =
    ap (literal_in bs) e ∙ (λ i. record { border = n; side = ap side_in p i })

-- the board after a decide
module _ (b : Board) (N : Native b) (T : Typed b) (l : Literal) (k : l.border < border_count_of b)
    (p : get_or b.borders l.border 0 ≡ 0) where
  abbrev pub v : ℕ
  v = code_of l.side

  -- an entry is not the new border
  other : (i : ℕ) → i < b.count → get_or b.stack i 0 ≡ l.border → ⊥
  other i h e =
      false≢true
      (sym (ap (λ x. stacked b.stack b.count x) e ∙ free-unstacked b N l.border k p)
      ∙ stacked-at b.stack b.count i h)

  pub pushed-literals : literals_of (pushed b l.border v) ≡ with_last (literals_of b) l
  unfolding literals_of
  pushed-literals =
      table_more b.count _
      ∙ ap₂ (λ (ls : List Literal) (r : Literal). ls ++ (r ∷ []))
      (table-cong b.count _ _
      (λ i h.
      literal-same (set b.borders l.border v) b.borders _ _
      (old-entry b N T.borders T.stack l.border v k p i (λ z. let q : i ≡ b.count = z in omega arith))
      (get_or-set_other b.borders l.border (get_or b.stack i 0) v 0 (other i h))))
      last
    where
      index : l.border < length b.borders
      index = omega (arith, borders-fit b N, T.borders)

      last : literal_in (set b.borders l.border v) (get_or (set b.stack b.count l.border) b.count 0) ≡ l
      last =
          ap (literal_in (set b.borders l.border v)) (new-entry b N T.borders T.stack l.border v k p)
          ∙ (λ i.
          record {
            border = l.border;
            side = (ap side_in (get_or-set_same b.borders l.border v 0 index) ∙ side-in l.side) i;
          })

pub literals-decided : (b : Board) (l : Literal) {d : Board} → Typed b → decide_of b l ≡ returned (Ok tt) d
    → literals_of d ≡ with_last (literals_of b) l
literals-decided b l T e =
    let f = decided-is e in
    ap literals_of f.is ∙ pushed-literals b (native-has b f.known) T l f.below f.free
