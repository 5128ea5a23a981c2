-- Boards that are not alien: what they have, in plain facts, how many borders are on their stack, and their tally.
--
--   Native b            what a board that is not alien has
--   Decisions m bs s k  what right decisions have: k entries of the stack s beside m borders
--   zeros-at, zeros_of, zero-clues-at, zero-clues-of  places that are 0
--   has-decisions       right decisions have that
--   walls-few, walls-tell  the walls tell the tally
--   native-has, native-of  a board is not alien exactly if it has what Native says
--   cells_fit, borders-fit, tally-fits  its counts are at most those of the largest page
--   tally-bare          with an empty stack every border is undecided
--   free-unstacked, stack-room, free-left  an undecided border is not on the stack, leaves room there, and is counted
--   free-places         what a decide that is not refused may rely on
use Rattle.std.specs.Prelude.{◌≡◌, refl, true, false, ◌&&◌, ◌||◌, List, ℕ, zero, suc, ◌-◌, ◌<◌, ◌≤◌, ℤ, pos, negsuc}
use Rattle.std.specs.Prelude.{length, get_or, Ok}
use Rattle.std.proofs.Common.{ap, sym, ◌∙◌, add-one}
use Rattle.std.proofs.Math.Bool.{Bool, not}
use Rattle.std.specs.Bool.{beq}
use Rattle.std.proofs.lemmas.Bool.{false≢true}
use Rattle.std.proofs.Math.Decide.{dec_lt}
use native.Mathlib.Omega.{arith}
use borrow.Author.Tests.{leb-true, le-leb, ltb-true, lt-ltb, eq-eqb, eqb-true, not-true, not-false}
use Rattle.std.proofs.Math.Dec.{leb, ltb, eqb}
use Rattle.std.proofs.Math.ListN.{get_or-eq_default}
use Rattle.lists.specs.Count.{count_below}
use Rattle.lists.specs.Booleans.{and_left, and_right, beq-eq, eq-beq, T_true}
use Rattle.lists.specs.TestLaws.{all-at, all-every, between-at, between-every}
use Rattle.lists.specs.CountLaws.{count-cong, count_none, count-lt, count-more, count-not}
use Rattle.rules.specs.Flat.{Sized}
use Rattle.rules.specs.Book.{tally_of, same_tally}
use Rattle.laws.specs.FlatLaws.{counts, borders-le}
use Rattle.board.specs.declared.Board.{Board}
use Rattle.board.specs.Alien.{size_right, colours_right, clue_right, clues_right, stacked, entries_right, once_each}
use Rattle.board.specs.Alien.{border_right, borders_right, zeros_from, clue_zero, zero_clues_from, puzzle_right}
use Rattle.board.specs.Alien.{decisions_in, unused_in, cell_count_of, border_count_of, cells_right, decisions_right}
use Rattle.board.specs.Alien.{code_count, tally_in, decided_in, unused_zero, is_alien}
use Rattle.board.specs.Board.{decide_refusal}
use Rattle.board.specs.ConditionLaws.{sized, size_is, stacked-none, stacked-more}
use Rattle.board.specs.Cases.{refusal-free}
use Rattle.board.specs.TallyLaws.{same-is, is_same, codes-three, codes-some}

pub record Native (b : Board) : Type 0 where
  pub size : Sized b.height b.width
  pub colour : (i : ℕ) → i < cell_count_of b → get_or b.colours i 0 ≤ 1
  pub clue : (i : ℕ) → i < cell_count_of b → clue_right (get_or b.clues i (pos 0)) ≡ true
  pub few : b.count ≤ border_count_of b
  -- each entry of the stack is a border, and no earlier entry
  pub entry : (i : ℕ) → i < b.count → get_or b.stack i 0 < border_count_of b
  pub once : (i : ℕ) → i < b.count → stacked b.stack i (get_or b.stack i 0) ≡ false
  -- a border is undecided, wall or open, and undecided exactly where it is not on the stack
  pub code : (x : ℕ) → x < border_count_of b → get_or b.borders x 0 ≤ 2
  pub held : (x : ℕ) → x < border_count_of b
      → eqb (get_or b.borders x 0) 0 ≡ not (stacked b.stack b.count x)
  -- the borders counted
  pub tally : b.tally ≡ tally_in b.borders (border_count_of b)
  -- unused places, and what is read past the end
  pub no_colour : (i : ℕ) → cell_count_of b ≤ i → get_or b.colours i 0 ≡ 0
  pub no_clue : (i : ℕ) → cell_count_of b ≤ i → get_or b.clues i (pos 0) ≡ pos 0
  pub no_border : (x : ℕ) → border_count_of b ≤ x → get_or b.borders x 0 ≡ 0
  pub no_entry : (i : ℕ) → b.count ≤ i → get_or b.stack i 0 ≡ 0

-- ---- places that are 0
pub zeros-at : (l : List ℕ) (from i : ℕ) → zeros_from l from ≡ true → from ≤ i → get_or l i 0 ≡ 0
unfolding zeros_from
zeros-at l from i e h = go (dec_lt i (length l))
  where
    go : Dec (i < length l) → get_or l i 0 ≡ 0
    go (yes k) = eqb-true (get_or l i 0) 0 (between-at from (length l) (λ j. eqb (get_or l j 0) 0) i e h k)
    go (no k) = get_or-eq_default l 0 (omega arith)

pub zeros_of : (l : List ℕ) (from : ℕ) → ((i : ℕ) → from ≤ i → get_or l i 0 ≡ 0) → zeros_from l from ≡ true
unfolding zeros_from
zeros_of l from f = between-every from (length l) _ (λ i h k. eq-eqb (get_or l i 0) 0 (f i h))

clue-zero : (k : ℤ) → clue_zero k ≡ true → k ≡ pos 0
clue-zero (pos n) e = ap pos (let h : n ≤ 0 = leb-true n 0 (and_right (leb 0 n) (leb n 0) e) in omega arith)
clue-zero (negsuc n) e = absurd (false≢true e)

pub zero-clues-at : (l : List ℤ) (from i : ℕ) → zero_clues_from l from ≡ true → from ≤ i → get_or l i (pos 0) ≡ pos 0
unfolding zero_clues_from
zero-clues-at l from i e h = go (dec_lt i (length l))
  where
    go : Dec (i < length l) → get_or l i (pos 0) ≡ pos 0
    go (yes k) =
        clue-zero (get_or l i (pos 0)) (between-at from (length l) (λ j. clue_zero (get_or l j (pos 0))) i e h k)
    go (no k) = get_or-eq_default l (pos 0) (omega arith)

pub zero-clues-of : (l : List ℤ) (from : ℕ) → ((i : ℕ) → from ≤ i → get_or l i (pos 0) ≡ pos 0)
    → zero_clues_from l from ≡ true
unfolding zero_clues_from
zero-clues-of l from f = between-every from (length l) _ (λ i h k. rw (f i h))

-- ---- the decisions: k entries of the stack s beside m borders
pub record Decisions (m : ℕ) (bs s : List ℕ) (k : ℕ) : Type 0 where
  pub few : k ≤ m
  pub entry : (i : ℕ) → i < k → get_or s i 0 < m
  pub once : (i : ℕ) → i < k → stacked s i (get_or s i 0) ≡ false
  pub code : (x : ℕ) → x < m → get_or bs x 0 ≤ 2
  pub held : (x : ℕ) → x < m → eqb (get_or bs x 0) 0 ≡ not (stacked s k x)

pub has-decisions : (m : ℕ) (bs s : List ℕ) (k : ℕ) → decisions_in m bs s k ≡ true → Decisions m bs s k
unfolding decisions_in entries_right once_each borders_right
has-decisions m bs s k d =
    let few : Bool = leb k m in
    let entries : Bool = entries_right s m k in
    let once : Bool = once_each s k in
    let borders : Bool = borders_right bs s k m in
    let d₃ = and_left (few && entries && once) borders d in
    let d₂ = and_left (few && entries) once d₃ in
    let border : (x : ℕ) → x < m → leb (get_or bs x 0) 2 && beq (eqb (get_or bs x 0) 0) (not (stacked s k x)) ≡ true =
    λ x h. all-at m (λ y. border_right (get_or bs y 0) (stacked s k y)) x
    (and_right (few && entries && once) borders d) h in
    record {
      few = leb-true k m (and_left few entries d₂);
      entry =
          λ i h. ltb-true (get_or s i 0) m (all-at k (λ j. ltb (get_or s j 0) m) i (and_right few entries d₂) h);
      once =
          λ i h. not-true (stacked s i (get_or s i 0))
          (all-at k (λ j. not (stacked s j (get_or s j 0))) i (and_right (few && entries) once d₃) h);
      code = λ x h. leb-true (get_or bs x 0) 2 (and_left _ _ (border x h));
      held =
          λ x h. beq-eq (eqb (get_or bs x 0) 0) (not (stacked s k x))
          (rw (and_right (leb (get_or bs x 0) 2) _ (border x h)) tt);
    }

module _ (m : ℕ) (bs s : List ℕ) (k : ℕ) (D : Decisions m bs s k) where
  -- so many borders are among the first j entries
  stack-counts : (j : ℕ) → j ≤ k → count_below m (λ x. stacked s j x) ≡ j
  stack-counts zero h = count_none _ _ (λ i q. stacked-none s i)
  stack-counts (suc j) h =
      let a : count_below m (λ x. stacked s j x) ≡ j = stack-counts j (omega arith) in
      let e : count_below m (λ x. stacked s (suc j) x) ≡ count_below m (λ x. stacked s j x || eqb (get_or s j 0) x) =
      count-cong m (λ x. stacked s (suc j) x) (λ x. stacked s j x || eqb (get_or s j 0) x)
      (λ i q. rw (← add-one) (stacked-more s j i)) in
      let d =
      count-more m (λ x. stacked s j x) (get_or s j 0) (D.entry j (omega arith)) (D.once j (omega arith)) in
      omega arith

  -- the undecided borders are those that are not on the stack
  free-count : code_count bs m 0 ≡ m - k
  unfolding code_count
  free-count =
      let a = count-cong m (λ x. eqb (get_or bs x 0) 0) (λ x. not (stacked s k x)) D.held in
      let d = count-not m (λ x. stacked s k x) in
      let e = stack-counts k (omega arith) in
      omega arith

  -- so the walls tell the tally
  pub walls-few : code_count bs m 1 ≤ k
  walls-few =
      let a = codes-three bs m D.code in
      let d = free-count in
      omega (arith, D.few)

  pub walls-tell : tally_in bs m ≡ tally_of (m - k) (code_count bs m 1) (k - code_count bs m 1)
  walls-tell =
      let a = codes-three bs m D.code in
      let d = free-count in
      let o : code_count bs m 2 ≡ k - code_count bs m 1 = omega (arith, D.few) in
      λ i. tally_of (d i) (code_count bs m 1) (o i)

-- ---- the test's two directions
module _ (b : Board) where
  cells : ℕ
  cells = cell_count_of b

  m : ℕ
  m = border_count_of b

  has_cells : size_right b.height b.width ≡ true → cells_right b ≡ true → decisions_right b ≡ true
      → unused_zero b ≡ true → Native b
  unfolding puzzle_right decided_in unused_in colours_right clues_right cells m
  has_cells s c d u =
      let right : Bool = decisions_in m b.borders b.stack b.count in
      let t : Bool = same_tally b.tally (tally_in b.borders m) in
      let D = has-decisions m b.borders b.stack b.count (and_left right t d) in
      let zc : Bool = zeros_from b.colours cells in
      let zk : Bool = zero_clues_from b.clues cells in
      let zb : Bool = zeros_from b.borders m in
      let zs : Bool = zeros_from b.stack b.count in
      let u₃ = and_left (zc && zk && zb) zs u in
      let u₂ = and_left (zc && zk) zb u₃ in
      record {
        size = sized s;
        colour =
            λ i h. leb-true (get_or b.colours i 0) 1
            (all-at cells (λ j. leb (get_or b.colours j 0) 1) i
            (and_left (colours_right b.colours cells) (clues_right b.clues cells) c) h);
        clue =
            λ i h. all-at cells (λ j. clue_right (get_or b.clues j (pos 0))) i
            (and_right (colours_right b.colours cells) (clues_right b.clues cells) c) h;
        few = D.few;
        entry = D.entry;
        once = D.once;
        code = D.code;
        held = D.held;
        tally = same-is b.tally (tally_in b.borders m) (and_right right t d);
        no_colour = λ i h. zeros-at b.colours cells i (and_left zc zk u₂) h;
        no_clue = λ i h. zero-clues-at b.clues cells i (and_right zc zk u₂) h;
        no_border = λ x h. zeros-at b.borders m x (and_right (zc && zk) zb u₃) h;
        no_entry = λ i h. zeros-at b.stack b.count i (and_right (zc && zk && zb) zs u) h;
      }

  pub native-has : is_alien b ≡ false → Native b
  unfolding is_alien
  native-has e =
      let s : Bool = size_right b.height b.width in
      let c : Bool = cells_right b in
      let d : Bool = decisions_right b in
      let t = not-false (s && c && d && unused_zero b) e in
      let t₃ = and_left (s && c && d) (unused_zero b) t in
      let t₂ = and_left (s && c) d t₃ in
      has_cells (and_left s c t₂) (and_right s c t₂) (and_right (s && c) d t₃)
      (and_right (s && c && d) (unused_zero b) t)

  module _ (N : Native b) where
    cells-hold : cells_right b ≡ true
    unfolding puzzle_right colours_right clues_right
    cells-hold =
        rw (
          all-every (cell_count_of b) (λ i. leb (get_or b.colours i 0) 1)
              (λ i h. le-leb (get_or b.colours i 0) 1 (N.colour i h)),
          all-every (cell_count_of b) (λ i. clue_right (get_or b.clues i (pos 0))) N.clue,
        )

    decisions-hold : decisions_right b ≡ true
    unfolding decided_in decisions_in entries_right once_each borders_right m
    decisions-hold =
        rw (
          is_same b.tally (tally_in b.borders m) N.tally,
          le-leb b.count m N.few,
          all-every b.count (λ i. ltb (get_or b.stack i 0) m)
              (λ i h. lt-ltb (get_or b.stack i 0) m (N.entry i h)),
          all-every b.count (λ i. not (stacked b.stack i (get_or b.stack i 0))) (λ i h. rw (N.once i h)),
          all-every m (λ x. border_right (get_or b.borders x 0) (stacked b.stack b.count x))
              (λ x h.
              rw (le-leb (get_or b.borders x 0) 2 (N.code x h), N.held x h)
              (T_true _ (eq-beq (not (stacked b.stack b.count x)) _ refl))),
        )

    unused-hold : unused_zero b ≡ true
    unfolding unused_in
    unused-hold =
        rw (
          zeros_of b.colours (cell_count_of b) N.no_colour,
          zero-clues-of b.clues (cell_count_of b) N.no_clue,
          zeros_of b.borders (border_count_of b) N.no_border,
          zeros_of b.stack b.count N.no_entry,
        )

    pub native-of : is_alien b ≡ false
    unfolding is_alien
    native-of = rw (size_is N.size, cells-hold, decisions-hold, unused-hold)

-- ---- how many borders are on the stack
module _ (b : Board) (N : Native b) where
  pub cells_fit : cell_count_of b ≤ 1024
  cells_fit = (counts N.size).cells

  pub borders-fit : border_count_of b ≤ 1984
  borders-fit = borders-le N.size

  decisions : Decisions (border_count_of b) b.borders b.stack b.count
  decisions = record { few = N.few; entry = N.entry; once = N.once; code = N.code; held = N.held }

  -- the tally's counts are at most as many as there are borders
  pub tally-fits : (b.tally.undecided ≤ 1984) × (b.tally.walls ≤ 1984) × (b.tally.opens ≤ 1984)
  tally-fits =
      let a = codes-three b.borders (border_count_of b) N.code in
      let f = borders-fit in
      rw N.tally (omega arith, omega arith, omega arith)

  -- with an empty stack every border is undecided
  pub tally-bare : b.count ≡ 0 → b.tally ≡ tally_of (border_count_of b) 0 0
  tally-bare e =
      let m = border_count_of b in
      let c = codes-three b.borders m N.code in
      let u = free-count _ _ _ _ decisions in
      let p : code_count b.borders m 0 ≡ m = omega arith in
      let q : code_count b.borders m 1 ≡ 0 = omega arith in
      let r : code_count b.borders m 2 ≡ 0 = omega arith in
      N.tally ∙ (λ i. tally_of (p i) (q i) (r i))

  -- an undecided border is not on the stack
  pub free-unstacked : (x : ℕ) → x < border_count_of b → get_or b.borders x 0 ≡ 0
      → stacked b.stack b.count x ≡ false
  free-unstacked x h p =
      not-true (stacked b.stack b.count x) (sym (N.held x h) ∙ eq-eqb (get_or b.borders x 0) 0 p)

  -- and leaves room for one more entry
  pub stack-room : (x : ℕ) → x < border_count_of b → get_or b.borders x 0 ≡ 0
      → b.count < border_count_of b
  stack-room x h p =
      omega (
        arith,
        stack-counts _ _ _ _ decisions b.count (omega arith),
        count-lt (border_count_of b) (λ y. stacked b.stack b.count y) x h (free-unstacked x h p),
      )

  -- and is counted
  pub free-left : (n : ℕ) → n < border_count_of b → get_or b.borders n 0 ≡ 0 → 0 < b.tally.undecided
  free-left n k p = rw N.tally (codes-some b.borders (border_count_of b) n 0 k p)

  -- a decide that is not refused has its places in both arrays, and a tally that can count it
  pub free-places : (n : ℕ) → decide_refusal (border_count_of b) b.borders n ≡ Ok tt
      → (n < 1984) × (b.count < 1984) × (0 < b.tally.undecided) × (b.tally.walls ≤ 1984)
      × (b.tally.opens ≤ 1984)
  free-places n e =
      let f = refusal-free (border_count_of b) b.borders n e in
      let k = borders-fit in (
        omega (arith, f.0),
        omega (arith, stack-room n f.0 f.1),
        free-left n f.0 f.1,
        tally-fits.1,
        tally-fits.2,
      )
