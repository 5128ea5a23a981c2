-- The definitions by cases: what `is_alien`, `fresh_of`, `decide_of` and `undo_of` give where their tests are known.
-- And the number that no outcome has.
use Rattle.std.specs.Prelude.{◌≡◌, Bool, not, cond, ◌&&◌, List, ℕ, ◌*◌, ◌<◌, ◌≤◌, ℤ, length, get_or, Ok, Err}
use Rattle.std.proofs.Math.Path.{refl, ap}
use Rattle.std.proofs.Common.{◌∙◌, arith}
use Rattle.std.proofs.Math.Bool.{true, false}
use Rattle.std.proofs.Math.Decide.{ℕ_discrete}
use borrow.Author.Tests.{lt-ltb, le-ltb, ltb-true, le-leb, lt-leb, eq-eqb, ne_eqb, eqb-true}
use Rattle.std.proofs.Math.Dec.{ltb, eqb}
use Rattle.lists.specs.TestLaws.{all-cong}
use Rattle.rules.specs.declared.Literal.{Literal}
use Rattle.rules.specs.declared.Tally.{Tally}
use Rattle.rules.specs.Codes.{code_of}
use Rattle.rules.specs.Book.{same_tally}
use Rattle.board.specs.declared.Board.{Board}
use Rattle.board.specs.declared.Refusal.{Refusal}
use Rattle.board.specs.declared.Refusal.TheVariants.{Size, Ragged, Colour, Clue}
use Rattle.board.specs.declared.Refusal.TheVariants.{Alien, Border, Taken, Bare, Short}
use Rattle.board.specs.Alien.{size_right, colours_right, clues_right, entries_right, once_each, border_right}
use Rattle.board.specs.Alien.{borders_right, borders_by, Flags, zeros_from, zero_clues_from, puzzle_right}
use Rattle.board.specs.Alien.{decisions_in, tally_in, decided_in, unused_in, cell_count_of, border_count_of, is_alien}
use Rattle.board.specs.Board.{Outcome, refusal_number, number_of, zero_board, fresh_board, returned}
use Rattle.board.specs.Board.{puzzle_refusal, fresh_of, pushed, popped}
use Rattle.board.specs.Board.{decide_refusal, decide_of, undo_refusal, undo_of}

-- a puzzle whose board can be made, where the page has n cells
pub record PuzzleFit (n : ℕ) (cs : List ℕ) (ks : List ℤ) : Type 0 where
  pub colours : length cs ≡ n
  pub clues : length ks ≡ n
  pub colour : colours_right cs n ≡ true
  pub clue : clues_right ks n ≡ true

-- ---- the alien test
module _ (n : ℕ) (cs : List ℕ) (ks : List ℤ) where
  pub cells-colours : colours_right cs n ≡ false → false ≡ puzzle_right n cs ks
  unfolding puzzle_right
  cells-colours r = rw r

  pub cells-clues : (a : Bool) → colours_right cs n ≡ true → a ≡ clues_right ks n → a ≡ puzzle_right n cs ks
  unfolding puzzle_right
  cells-clues a r s = rw r s

module _ (m : ℕ) (bs st : List ℕ) (count : ℕ) where
  -- flags that a run over the stack found stand for the stack
  pub flagged-borders : (vs : List Bool) (once : Bool) → m ≤ 1984 → Flags st count once vs
      → borders_by bs vs m ≡ borders_right bs st count m
  unfolding borders_by borders_right
  flagged-borders vs once l u =
      all-cong m _ _ (λ x k. ap (λ (v : Bool). border_right (get_or bs x 0) v) (u.flagged x (omega arith)))

  -- where there are not too many entries and they are borders
  pub decisions-are : count ≤ m → entries_right st m count ≡ true
      → decisions_in m bs st count ≡ once_each st count && borders_right bs st count m
  unfolding decisions_in
  decisions-are t r = rw (le-leb count m t, r)

  module _ (n : ℕ) (cs : List ℕ) (ks : List ℤ) where
    pub unused-colours : zeros_from cs n ≡ false → false ≡ unused_in n m cs ks bs st count
    unfolding unused_in
    unused-colours r = rw r

    pub unused-clues : zeros_from cs n ≡ true → zero_clues_from ks n ≡ false → false ≡ unused_in n m cs ks bs st count
    unfolding unused_in
    unused-clues r s = rw (r, s)

    pub unused-borders : zeros_from cs n ≡ true → zero_clues_from ks n ≡ true → zeros_from bs m ≡ false
        → false ≡ unused_in n m cs ks bs st count
    unfolding unused_in
    unused-borders r s t = rw (r, s, t)

    pub unused-stack : (a : Bool) → zeros_from cs n ≡ true → zero_clues_from ks n ≡ true → zeros_from bs m ≡ true
        → a ≡ zeros_from st count → a ≡ unused_in n m cs ks bs st count
    unfolding unused_in
    unused-stack a r s t u = rw (r, s, t) u

  module _ (y : Tally) where
    pub decisions-many : m < count → false ≡ decided_in m bs st count y
    unfolding decided_in decisions_in
    decisions-many t = rw (lt-leb count m t)

    pub decisions-entries : count ≤ m → entries_right st m count ≡ false → false ≡ decided_in m bs st count y
    unfolding decided_in decisions_in
    decisions-entries t u = rw (le-leb count m t, u)

    pub decisions-twice : count ≤ m → entries_right st m count ≡ true → once_each st count ≡ false
        → false ≡ decided_in m bs st count y
    unfolding decided_in decisions_in
    decisions-twice t u v = rw (le-leb count m t, u, v)

    pub decisions-wrong : decisions_in m bs st count ≡ false → false ≡ decided_in m bs st count y
    unfolding decided_in
    decisions-wrong e = rw e

    pub decisions-tally : (a : Bool) → decisions_in m bs st count ≡ true → a ≡ same_tally y (tally_in bs m)
        → a ≡ decided_in m bs st count y
    unfolding decided_in
    decisions-tally a e f = rw e f

  pub decisions-borders : (vs : List Bool) (a : Bool) → count ≤ m → m ≤ 1984 → entries_right st m count ≡ true
      → Flags st count true vs → a ≡ borders_by bs vs m → a ≡ decisions_in m bs st count
  unfolding decisions_in borders_by borders_right
  decisions-borders vs a t l r u e =
      e
      ∙ all-cong m _ _ (λ x k. ap (λ (v : Bool). border_right (get_or bs x 0) v) (u.flagged x (omega arith)))
      ∙ rw (le-leb count m t, r, ← u.tells)

module _ (b : Board) where
  pub alien-size : size_right b.height b.width ≡ false → true ≡ is_alien b
  unfolding is_alien
  alien-size p = rw p

  -- where its page has n cells and m borders
  pub alien-tests : (n m : ℕ) (a : Bool) → size_right b.height b.width ≡ true → n ≡ cell_count_of b
      → m ≡ border_count_of b
      → a ≡ puzzle_right n b.colours b.clues && decided_in m b.borders b.stack b.count b.tally
      && unused_in n m b.colours b.clues b.borders b.stack b.count
      → not a ≡ is_alien b
  unfolding is_alien
  alien-tests n m a p q r e = rw (p, ← q, ← r, e)

  -- the same, test by test
  module _ (p : size_right b.height b.width ≡ true) (n m : ℕ) (q : n ≡ cell_count_of b)
      (r : m ≡ border_count_of b) where
    pub alien-cells : puzzle_right n b.colours b.clues ≡ false → true ≡ is_alien b
    unfolding is_alien
    alien-cells s = rw (p, ← q, s)

    module _ (s : puzzle_right n b.colours b.clues ≡ true) where
      pub alien-decisions : decided_in m b.borders b.stack b.count b.tally ≡ false → true ≡ is_alien b
      unfolding is_alien
      alien-decisions t = rw (p, ← q, s, ← r, t)

      pub alien-unused : (a : Bool) → decided_in m b.borders b.stack b.count b.tally ≡ true
          → a ≡ unused_in n m b.colours b.clues b.borders b.stack b.count → not a ≡ is_alien b
      unfolding is_alien
      alien-unused a t u = rw (p, ← q, s, ← r, t, u)

-- ---- how a call ended
pub refused-number : (e : Refusal) → refusal_number e ≡ 0 → ⊥
refused-number Size e = omega arith
refused-number Ragged e = omega arith
refused-number Colour e = omega arith
refused-number Clue e = omega arith
refused-number Alien e = omega arith
refused-number Border e = omega arith
refused-number Taken e = omega arith
refused-number Bare e = omega arith
refused-number Short e = omega arith

-- a call whose number is 0 is done
pub done-is : (o : Outcome) → number_of o ≡ 0 → o ≡ Ok tt
done-is (Ok u) z = refl
done-is (Err e) z = absurd (refused-number e z)

-- ---- decide
module _ (m : ℕ) (bs : List ℕ) (n : ℕ) where
  pub refusal-border : m ≤ n → Err Border ≡ decide_refusal m bs n
  unfolding decide_refusal
  refusal-border h = rw (le-ltb n m h)

  pub refusal-taken : n < m → (get_or bs n 0 ≡ 0 → ⊥) → Err Taken ≡ decide_refusal m bs n
  unfolding decide_refusal
  refusal-taken h f = rw (lt-ltb n m h, ne_eqb (get_or bs n 0) 0 f)

  pub refusal-none : n < m → get_or bs n 0 ≡ 0 → Ok tt ≡ decide_refusal m bs n
  unfolding decide_refusal
  refusal-none h f = rw (lt-ltb n m h, eq-eqb (get_or bs n 0) 0 f)

  -- a decide that is not refused
  pub refusal-free : decide_refusal m bs n ≡ Ok tt → (n < m) × (get_or bs n 0 ≡ 0)
  unfolding decide_refusal
  refusal-free = go (ltb n m) (eqb (get_or bs n 0) 0) refl refl
    where
      go : (x y : Bool) → ltb n m ≡ x → eqb (get_or bs n 0) 0 ≡ y
          → (let o : Outcome = cond x (cond y (Ok tt) (Err Taken)) (Err Border) in o ≡ Ok tt)
          → (n < m) × (get_or bs n 0 ≡ 0)
      go true true p q e = (ltb-true n m p, eqb-true (get_or bs n 0) 0 q)
      go true false p q e = absurd (cc)
      go false y p q e = absurd (cc)

module _ (b : Board) (l : Literal) where
  pub decide-alien : is_alien b ≡ true → returned (Err Alien) b ≡ decide_of b l
  unfolding decide_of
  decide-alien p = rw p

  module _ (p : is_alien b ≡ false) where
    pub decide-ends : decide_refusal (border_count_of b) b.borders l.border ≡ (decide_of b l).outcome
    unfolding decide_of
    decide-ends = rw p

    -- by how its tests end
    pub decide-refused : (e : Refusal) → Err e ≡ decide_refusal (border_count_of b) b.borders l.border
        → returned (Err e) b ≡ decide_of b l
    unfolding decide_of
    decide-refused e q = rw (p, ← q)

    pub decide-free : Ok tt ≡ decide_refusal (border_count_of b) b.borders l.border
        → returned (Ok tt) (pushed b l.border (code_of l.side)) ≡ decide_of b l
    unfolding decide_of
    decide-free q = rw (p, ← q)

    pub decide-done : l.border < border_count_of b → get_or b.borders l.border 0 ≡ 0
        → returned (Ok tt) (pushed b l.border (code_of l.side)) ≡ decide_of b l
    decide-done r s = decide-free (refusal-none (border_count_of b) b.borders l.border r s)

-- ---- undo
module _ (b : Board) where
  pub undo-alien : is_alien b ≡ true → returned (Err Alien) b ≡ undo_of b
  unfolding undo_of
  undo-alien p = rw p

  pub undo-ends : is_alien b ≡ false → undo_refusal b.count ≡ (undo_of b).outcome
  unfolding undo_of
  undo-ends p = rw p

  module _ (p : is_alien b ≡ false) where
    pub undo-refused : (e : Refusal) → Err e ≡ undo_refusal b.count → returned (Err e) b ≡ undo_of b
    unfolding undo_of
    undo-refused e q = rw (p, ← q)

    pub undo-free : Ok tt ≡ undo_refusal b.count → returned (Ok tt) (popped b) ≡ undo_of b
    unfolding undo_of
    undo-free q = rw (p, ← q)

  pub undo-bare : is_alien b ≡ false → b.count ≡ 0 → returned (Err Bare) b ≡ undo_of b
  unfolding undo_of undo_refusal
  undo-bare p q = rw (p, eq-eqb b.count 0 q)

  pub undo-done : is_alien b ≡ false → (b.count ≡ 0 → ⊥) → returned (Ok tt) (popped b) ≡ undo_of b
  unfolding undo_of undo_refusal
  undo-done p q = rw (p, ne_eqb b.count 0 q)

-- an undo that is not refused
pub refusal-some : (n : ℕ) → undo_refusal n ≡ Ok tt → n ≡ 0 → ⊥
unfolding undo_refusal
refusal-some n e z = let x = rw (eq-eqb n 0 z) at e in cc

-- ---- making a board
module _ (n : ℕ) (cs : List ℕ) (ks : List ℤ) where
  pub puzzle-colours : (length cs ≡ n → ⊥) → Err Ragged ≡ puzzle_refusal n cs ks
  unfolding puzzle_refusal
  puzzle-colours r = rw (ne_eqb (length cs) n r)

  module _ (r : length cs ≡ n) where
    pub puzzle-clues : (length ks ≡ n → ⊥) → Err Ragged ≡ puzzle_refusal n cs ks
    unfolding puzzle_refusal
    puzzle-clues s = rw (eq-eqb (length cs) n r, ne_eqb (length ks) n s)

    module _ (s : length ks ≡ n) where
      pub puzzle-colour : colours_right cs n ≡ false → Err Colour ≡ puzzle_refusal n cs ks
      unfolding puzzle_refusal
      puzzle-colour t = rw (eq-eqb (length cs) n r, eq-eqb (length ks) n s, t)

      module _ (t : colours_right cs n ≡ true) where
        pub puzzle-clue : clues_right ks n ≡ false → Err Clue ≡ puzzle_refusal n cs ks
        unfolding puzzle_refusal
        puzzle-clue u = rw (eq-eqb (length cs) n r, eq-eqb (length ks) n s, t, u)

        pub puzzle-none : clues_right ks n ≡ true → Ok tt ≡ puzzle_refusal n cs ks
        unfolding puzzle_refusal
        puzzle-none u = rw (eq-eqb (length cs) n r, eq-eqb (length ks) n s, t, u)

  -- a puzzle that is not refused
  pub puzzle-free : puzzle_refusal n cs ks ≡ Ok tt → PuzzleFit n cs ks
  unfolding puzzle_refusal
  puzzle-free =
      go (ℕ_discrete (length cs) n) (ℕ_discrete (length ks) n) (colours_right cs n) (clues_right ks n) refl refl
    where
      go : Dec (length cs ≡ n) → Dec (length ks ≡ n) → (c k : Bool) → colours_right cs n ≡ c → clues_right ks n ≡ k
          → puzzle_refusal n cs ks ≡ Ok tt → PuzzleFit n cs ks
      go (no y) z c k p q e = absurd (let v = puzzle-colours y ∙ e in cc)
      go (yes y) (no z) c k p q e = absurd (let v = puzzle-clues y z ∙ e in cc)
      go (yes y) (yes z) false k p q e = absurd (let v = puzzle-colour y z p ∙ e in cc)
      go (yes y) (yes z) true false p q e = absurd (let v = puzzle-clue y z p q ∙ e in cc)
      go (yes y) (yes z) true true p q e = record { colours = y; clues = z; colour = p; clue = q }

module _ (h w : ℕ) (cs : List ℕ) (ks : List ℤ) where
  pub fresh-size : size_right h w ≡ false → returned (Err Size) zero_board ≡ fresh_of h w cs ks
  unfolding fresh_of
  fresh-size p = rw p

  module _ (p : size_right h w ≡ true) where
    pub fresh-refused : (e : Refusal) → Err e ≡ puzzle_refusal (h * w) cs ks
        → returned (Err e) zero_board ≡ fresh_of h w cs ks
    unfolding fresh_of
    fresh-refused e q = rw (p, ← q)

    pub fresh-free : Ok tt ≡ puzzle_refusal (h * w) cs ks
        → returned (Ok tt) (fresh_board h w cs ks) ≡ fresh_of h w cs ks
    unfolding fresh_of
    fresh-free q = rw (p, ← q)

  pub fresh-done : size_right h w ≡ true → length cs ≡ h * w → length ks ≡ h * w → colours_right cs (h * w) ≡ true
      → clues_right ks (h * w) ≡ true → returned (Ok tt) (fresh_board h w cs ks) ≡ fresh_of h w cs ks
  fresh-done p r s t u = fresh-free p (puzzle-none (h * w) cs ks r s t u)

-- ---- "Number 11 is retired and not used again"
pub outcome-never-eleven : (o : Outcome) → number_of o ≡ 11 → ⊥
outcome-never-eleven (Ok u) e = omega arith
outcome-never-eleven (Err Size) e = omega arith
outcome-never-eleven (Err Ragged) e = omega arith
outcome-never-eleven (Err Colour) e = omega arith
outcome-never-eleven (Err Clue) e = omega arith
outcome-never-eleven (Err Alien) e = omega arith
outcome-never-eleven (Err Border) e = omega arith
outcome-never-eleven (Err Taken) e = omega arith
outcome-never-eleven (Err Bare) e = omega arith
outcome-never-eleven (Err Short) e = omega arith
