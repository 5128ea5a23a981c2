-- The alien test is exact: a board is not alien exactly if making a board, decides and undos that are done lead to it.
use Rattle.std.specs.Prelude.{◌≡◌, refl, Bool, false, not, List, [], ◌∷◌, ◌++◌, ◌↔◌, ℕ, zero, suc, ◌+◌, ◌<◌, ◌≤◌, ℤ}
use Rattle.std.specs.Prelude.{pos, length, take, Ok}
use Rattle.std.proofs.Math.Path.{ap, sym}
use Rattle.std.proofs.Common.{◌∙◌, arith, le-leb, eqb-true, get_or-set_same, set-set, get_or-take}
use Rattle.std.proofs.Math.Bool.{true}
use Rattle.std.proofs.lemmas.Bool.{false≢true}
use Rattle.std.proofs.Math.Decide.{dec_lt}
use Rattle.std.proofs.Math.Dec.{leb}
use Rattle.std.specs.Int.Signed.{le_z}
use Rattle.std.proofs.Math.ListN.{get_or, set, get_or-eq_default}
use Rattle.std.proofs.Math.Seq.{set-get_or, length-take-le}
use Rattle.lists.specs.TestLaws.{all-every}
use Rattle.lists.specs.PaddedLaws.{padded-take, replicate-is}
use Rattle.rules.specs.declared.Literal.{Literal}
use Rattle.rules.specs.Codes.{code_of, side_in}
use Rattle.rules.specs.Book.{tally_of}
use Rattle.laws.specs.CodeLaws.{side-of}
use Rattle.board.specs.declared.Board.{Board}
use Rattle.board.specs.Alien.{colours_right, clue_right, clues_right, stacked, tally_in, cell_count_of, border_count_of}
use Rattle.board.specs.Alien.{board_of, board_with, is_alien}
use Rattle.board.specs.Board.{fresh_board, returned, tally_more, tally_less, pushed, fresh_of, decide_of, SmallClues}
use Rattle.board.specs.Board.{Typed}
use Rattle.board.specs.ConditionLaws.{size_is, stacked-none}
use Rattle.board.specs.Cases.{fresh-done, decide-done}
use Rattle.board.specs.NativeLaws.{Native, native-has, native-of, cells_fit, borders-fit}
use Rattle.board.specs.TallyLaws.{tally-fresh}
use Rattle.board.proofs.DecideLaws.{popped_at, tally-again, popped-native, popped-typed, decide-keeps, undo-keeps}
use Rattle.board.proofs.DecideLaws.{decided-typed, undone-typed}
use Rattle.board.proofs.FreshLaws.{made-is, made-keeps, made-typed}
use Rattle.board.proofs.ViewLaws.{entry-held, code-small}
use Rattle.reach.specs.Produced.{Produced, made, after_decide, after_undo, Move, decide, undo, move_of, Leads, stop}
use Rattle.reach.specs.Produced.{next, Reached}

-- ---- what is produced is not alien
pub produced-known : (b : Board) → Produced b → (is_alien b ≡ false) × Typed b
produced-known b (made h w cs ks _ s e) = (made-keeps (made-is e), made-typed (made-is e) s)
produced-known b (after_decide c l _ p e) =
    let r = produced-known c p in (decide-keeps c l r.1.borders r.1.stack e, decided-typed c l r.1 e)
produced-known b (after_undo c _ p e) =
    let r = produced-known c p in (undo-keeps c r.1 e, undone-typed c r.1 e)

-- ---- a board with an empty stack is a fresh one
module _ (b : Board) (N : Native b) (T : Typed b) (e : b.count ≡ 0) where
  cells : ℕ
  cells = cell_count_of b

  cs : List ℕ
  cs = take cells b.colours

  ks : List ℤ
  ks = take cells b.clues

  few : cells ≤ 1024
  unfolding cells
  few = cells_fit b N

  cs-long : length cs ≡ cells
  unfolding cs
  cs-long = let f = few in let t = T.colours in length-take-le cells b.colours (omega arith)

  ks-long : length ks ≡ cells
  unfolding ks
  ks-long = let f = few in let t = T.clues in length-take-le cells b.clues (omega arith)

  ks-small : SmallClues ks
  unfolding ks
  ks-small i = go (dec_lt i cells)
    where
      go : Dec (i < cells) → le_z (get_or (take cells b.clues) i (pos 0)) (pos 2147483647) ≡ true
      go (yes h) = rw (get_or-take cells b.clues i (pos 0) h) (T.small i)
      go (no h) = let l = ks-long in rw (get_or-eq_default (take cells b.clues) (pos 0) {n = i} (omega arith))

  border-zero : (x : ℕ) → get_or b.borders x 0 ≡ 0
  border-zero x = go (dec_lt x (border_count_of b))
    where
      go : Dec (x < border_count_of b) → get_or b.borders x 0 ≡ 0
      go (yes h) =
          eqb-true (get_or b.borders x 0) 0
          (N.held x h
          ∙ ap not (ap (λ j. stacked b.stack j x) e ∙ stacked-none b.stack x))
      go (no h) = N.no_border x (omega arith)

  tally-fresh-is : tally_of (border_count_of b) 0 0 ≡ b.tally
  tally-fresh-is =
      sym
      (N.tally
      ∙ ap (λ (bs : List ℕ). tally_in bs (border_count_of b))
      (replicate-is 0 1984 b.borders T.borders (λ x h. border-zero x))
      ∙ tally-fresh 1984 (border_count_of b))

  fresh-is : fresh_board b.height b.width cs ks ≡ b
  unfolding cs ks cells
  fresh-is =
      let f = few in
      λ i.
      board_of b.height b.width (padded-take 0 1024 cells b.colours T.colours f N.no_colour i)
      (padded-take (pos 0) 1024 cells b.clues T.clues f N.no_clue i)
      (sym (replicate-is 0 1984 b.borders T.borders (λ x h. border-zero x)) i)
      (sym (replicate-is 0 1984 b.stack T.stack (λ j h. N.no_entry j (omega arith))) i) (sym e i)
      (tally-fresh-is i)

  accepted : fresh_of b.height b.width cs ks ≡ returned (Ok tt) b
  unfolding cs ks cells colours_right clues_right
  accepted =
      let f = few in
      sym
      (fresh-done b.height b.width cs ks (size_is N.size) cs-long ks-long
      (all-every cells (λ i. leb (get_or cs i 0) 1)
      (λ i l. rw (get_or-take cells b.colours i 0 l) (le-leb (get_or b.colours i 0) 1 (N.colour i l))))
      (all-every cells (λ i. clue_right (get_or ks i (pos 0)))
      (λ i l. rw (get_or-take cells b.clues i (pos 0) l) (N.clue i l))))
      ∙ ap (returned (Ok tt)) fresh-is

  bare : Produced b
  bare = made b.height b.width cs ks b ks-small accepted

-- ---- a board with a stack is a decide of its last literal
module _ (b : Board) (N : Native b) (T : Typed b) (k : ℕ) (e : b.count ≡ k + 1) where
  last : ℕ
  last = get_or b.stack k 0

  literal : Literal
  literal = record { border = last; side = side_in (get_or b.borders last 0) }

  repushed : pushed (popped_at b k) last (code_of (side_in (get_or b.borders last 0))) ≡ b
  unfolding last
  repushed =
      let v = get_or b.borders last 0 in
      let p = side-of v (code-small b N last) (entry-held b N k (omega arith)) in
      λ i.
      board_with b
      ((set-set b.borders last 0 (code_of (side_in v))
      ∙ ap (λ y. set b.borders last y) p
      ∙ set-get_or b.borders last 0) i)
      ((set-set b.stack k 0 last ∙ set-get_or b.stack k 0) i) (sym e i)
      ((ap (λ y. tally_more (tally_less b.tally (side_in v)) (side_in y)) p
      ∙ tally-again b N T.borders T.stack k e) i)

  redecided : decide_of (popped_at b k) literal ≡ returned (Ok tt) b
  unfolding last literal
  redecided =
      let g = T.borders in
      let m = borders-fit b N in
      let l = N.entry k (omega arith) in
      sym
      (decide-done (popped_at b k) literal (native-of (popped_at b k) (popped-native b N T.borders T.stack k e)) l
      (get_or-set_same b.borders last 0 0 (omega arith)))
      ∙ ap (returned (Ok tt)) repushed

produced-at : (k : ℕ) (b : Board) → b.count ≡ k → is_alien b ≡ false → Typed b → Produced b
produced-at zero b e t T = bare b (native-has b t) T e
produced-at (suc k) b e t T =
    let f : b.count ≡ k + 1 = omega arith in
    let N = native-has b t in
    after_decide (popped_at b k) (literal b N T k f) b
    (produced-at k (popped_at b k) refl (native-of (popped_at b k) (popped-native b N T.borders T.stack k f))
    (popped-typed b N T.borders T.stack k f T))
    (redecided b N T k f)

-- ---- what is not alien is produced
pub known-produced : (b : Board) → Typed b → is_alien b ≡ false → Produced b
known-produced b T t = produced-at b.count b refl t T

-- 5 for "a board .. that decides and undos cannot produce from a fresh board", exactly
pub alien-exactly : (b : Board) → Typed b → (is_alien b ≡ true) ↔ (Produced b → ⊥)
alien-exactly b T =
    (λ a p. false≢true (sym (produced-known b p).0 ∙ a), λ n. go (is_alien b) refl n)
  where
    go : (t : Bool) → is_alien b ≡ t → (Produced b → ⊥) → is_alien b ≡ true
    go true q n = q
    go false q n = absurd (n (known-produced b T q))

pub known-exactly : (b : Board) → Typed b → (is_alien b ≡ false) ↔ Produced b
known-exactly b T = (known-produced b T, λ p. (produced-known b p).0)

-- ---- the same by an accepted puzzle and one list of moves
run-last : {a b d : Board} {ms : List Move} (m : Move) → Leads a ms b → move_of b m ≡ returned (Ok tt) d
    → Leads a (ms ++ (m ∷ [])) d
run-last m stop e = next e stop
run-last m (next f r) e = next f (run-last m r e)

reached-more : {b d : Board} (m : Move) → Reached b → move_of b m ≡ returned (Ok tt) d → Reached d
reached-more m r e =
    record {
      height = r.height;
      width = r.width;
      colours = r.colours;
      clues = r.clues;
      small = r.small;
      start = r.start;
      accepted = r.accepted;
      moves = r.moves ++ (m ∷ []);
      run = run-last m r.run e;
    }

pub produced-reached : (b : Board) → Produced b → Reached b
produced-reached b (made h w cs ks _ s e) =
    record {
      height = h;
      width = w;
      colours = cs;
      clues = ks;
      small = s;
      start = b;
      accepted = e;
      moves = [];
      run = stop;
    }
produced-reached b (after_decide c l _ p e) = reached-more (decide l) (produced-reached c p) e
produced-reached b (after_undo c _ p e) = reached-more undo (produced-reached c p) e

run-produced : {a b : Board} {ms : List Move} → Produced a → Leads a ms b → Produced b
run-produced p stop = p
run-produced p (next {m = decide l} e r) = run-produced (after_decide _ l _ p e) r
run-produced p (next {m = undo} e r) = run-produced (after_undo _ _ p e) r

pub reached-produced : (b : Board) → Reached b → Produced b
reached-produced b r = run-produced (made _ _ _ _ _ r.small r.accepted) r.run
