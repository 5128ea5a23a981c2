-- Decide and undo that are done: what they say of the board, that they keep a board from being alien, and that an undo
-- after a decide gives the board back.
use Rattle.std.specs.Prelude.{◌≡◌, refl, Bool, true, false, ◌||◌, List, eqb, length, get_or, set, Ok, Err}
use Rattle.std.proofs.Math.Path.{ap, sym}
use Rattle.std.proofs.Common.{ap₂, ◌∙◌, length-set, get_or-set_same, set-set}
use Rattle.std.proofs.Math.Bool.{not, or-true, or-false, false≢true}
use Prim.Native.Nat.{ℕ, ◌+◌, ◌-◌, ◌<◌, ◌≤◌}
use Rattle.std.proofs.Math.Decide.{ℕ_discrete}
use native.Mathlib.Omega.{arith}
use borrow.Author.Tests.{eq-eqb, ne_eqb}
use Rattle.std.proofs.Math.Seq.{get_or-set_other}
use Rattle.std.proofs.lemmas.List.{set-get_or}
use Rattle.lists.specs.TestLaws.{any-cong}
use Rattle.rules.specs.declared.Side.{Side}
use Rattle.rules.specs.declared.Side.TheVariants.{Wall, Open}
use Rattle.rules.specs.declared.Literal.{Literal}
use Rattle.rules.specs.declared.Tally.{Tally}
use Rattle.rules.specs.Codes.{code_of, side_in}
use Rattle.board.specs.declared.Board.{Board}
use Rattle.board.specs.declared.Returned.{Returned}
use Rattle.board.specs.Alien.{stacked, tally_in, border_count_of, board_with, is_alien}
use Rattle.board.specs.Board.{Outcome, number_of, returned, side_count, tally_more, tally_less}
use Rattle.board.specs.Board.{pushed, popped, decide_refusal}
use Rattle.board.specs.Board.{decide_of, undo_of, Typed}
use Rattle.board.specs.ConditionLaws.{stacked-more}
use Rattle.board.specs.Cases.{refused-number, done-is, refusal-free, decide-alien, decide-refused, decide-done}
use Rattle.board.specs.Cases.{undo-alien, undo-bare, undo-done}
use Rattle.board.specs.TallyLaws.{tally-set, less-more, codes-some}
use Rattle.board.specs.NativeLaws.{Native, native-has, native-of, borders-fit, free-unstacked, stack-room}
use Rattle.board.specs.NativeLaws.{free-left}

pub side-code : (d : Side) → (1 ≤ code_of d) × (code_of d ≤ 2)
side-code Wall = (omega arith, omega arith)
side-code Open = (omega arith, omega arith)

-- ---- what a call that is done says
-- a decide of l took b to d
pub record Decided (b : Board) (l : Literal) (d : Board) : Type 0 where
  pub known : is_alien b ≡ false
  pub below : l.border < border_count_of b
  pub free : get_or b.borders l.border 0 ≡ 0
  pub is : d ≡ pushed b l.border (code_of l.side)

-- an undo took b to d
pub record Undone (b d : Board) : Type 0 where
  pub known : is_alien b ≡ false
  pub some : 0 < b.count
  pub is : d ≡ popped b

pub done-returned : (r : Returned) → number_of r.outcome ≡ 0 → r ≡ returned (Ok tt) r.board
done-returned r e = let p = done-is r.outcome e in λ i. record { outcome = p i; board = r.board }

-- two returns that are equal have one number
pub one_number : {o p : Outcome} {b d : Board} → returned o b ≡ returned p d → number_of o ≡ number_of p
one_number e = ap (λ (r : Returned). number_of r.outcome) e

pub decided-is : {b : Board} {l : Literal} {d : Board} → decide_of b l ≡ returned (Ok tt) d → Decided b l d
decided-is {b} {l} {d} e = go (is_alien b) refl (decide_refusal (border_count_of b) b.borders l.border) refl
  where
    go : (x : Bool) → is_alien b ≡ x → (o : Outcome) → decide_refusal (border_count_of b) b.borders l.border ≡ o
        → Decided b l d
    go true p o q = absurd (let h : 5 ≡ 0 = one_number (decide-alien b l p ∙ e) in omega arith)
    go false p (Err r) q = absurd (refused-number r (one_number (decide-refused b l p r (sym q) ∙ e)))
    go false p (Ok u) q =
        let f = refusal-free (border_count_of b) b.borders l.border q in
        record {
          known = p;
          below = f.0;
          free = f.1;
          is = ap (λ (r : Returned). r.board) (sym e ∙ sym (decide-done b l p f.0 f.1));
        }

pub undone-is : {b d : Board} → undo_of b ≡ returned (Ok tt) d → Undone b d
undone-is {b} {d} e = go (is_alien b) (ℕ_discrete b.count 0) refl
  where
    go : (x : Bool) → Dec (b.count ≡ 0) → is_alien b ≡ x → Undone b d
    go true z p = absurd (let h : 5 ≡ 0 = one_number (undo-alien b p ∙ e) in omega arith)
    go false (yes z) p = absurd (let h : 8 ≡ 0 = one_number (undo-bare b p z ∙ e) in omega arith)
    go false (no z) p =
        record {
          known = p;
          some = omega arith;
          is = ap (λ (y : Returned). y.board) (sym e ∙ sym (undo-done b p z));
        }

-- ---- the stack with one place stored
-- entries below the place are as they were
pub stacked-before : (s : List ℕ) (c n k x : ℕ) → k ≤ c → stacked (set s c n) k x ≡ stacked s k x
unfolding stacked
stacked-before s c n k x h =
    any-cong k (λ j. eqb (get_or (set s c n) j 0) x) (λ j. eqb (get_or s j 0) x)
    (λ j l. ap (λ y. eqb y x) (get_or-set_other s c j n 0 (λ z. let q : j ≡ c = z in omega arith)))

stacked-set : (s : List ℕ) (c n x : ℕ) → c < length s → stacked (set s c n) (c + 1) x ≡ stacked s c x || eqb n x
stacked-set s c n x h =
    stacked-more (set s c n) c x
    ∙ ap₂ (λ (u v : Bool). u || v) (stacked-before s c n c x (omega arith))
    (ap (λ y. eqb y x) (get_or-set_same s c n 0 h))

-- ---- a decide
module _ (b : Board) (N : Native b) (B : length b.borders ≡ 1984) (S : length b.stack ≡ 1984) (n v : ℕ)
    (k : n < border_count_of b) (p : get_or b.borders n 0 ≡ 0) where
  abbrev s : List ℕ
  s = set b.stack b.count n

  place : b.count < length b.stack
  place = omega (arith, stack-room b N n k p, borders-fit b N, S)

  index : n < length b.borders
  index = omega (arith, borders-fit b N, B)

  pub new-entry : get_or s b.count 0 ≡ n
  new-entry = get_or-set_same b.stack b.count n 0 place

  pub old-entry : (i : ℕ) → (i ≡ b.count → ⊥) → get_or s i 0 ≡ get_or b.stack i 0
  old-entry i d = get_or-set_other b.stack b.count i n 0 d

  before : (i x : ℕ) → i ≤ b.count → stacked s i x ≡ stacked b.stack i x
  before i x h = stacked-before b.stack b.count n i x h

  pub pushed-native : 1 ≤ v → v ≤ 2 → Native (pushed b n v)
  pushed-native w z =
      record {
        size = N.size;
        colour = N.colour;
        clue = N.clue;
        few = omega (arith, stack-room b N n k p);
        entry = λ i h. entry i h (ℕ_discrete i b.count);
        once = λ i h. once i h (ℕ_discrete i b.count);
        code = λ x h. code x h (ℕ_discrete x n);
        held = λ x h. held x h (ℕ_discrete x n);
        tally =
            ap (λ (t : Tally). tally_more t (side_in v)) N.tally
            ∙ sym (tally-set b.borders (border_count_of b) n v k index p w z);
        no_colour = N.no_colour;
        no_clue = N.no_clue;
        no_border = λ x h. get_or-set_other b.borders n x v 0 (λ q. let e : x ≡ n = q in omega arith) ∙ N.no_border x h;
        no_entry = λ i h. old-entry i (λ q. let e : i ≡ b.count = q in omega arith) ∙ N.no_entry i (omega arith);
      }
    where
      m : ℕ
      m = border_count_of b

      entry : (i : ℕ) → i < b.count + 1 → Dec (i ≡ b.count) → get_or s i 0 < m
      entry i h (yes d) = let e : get_or s i 0 ≡ n = ap (λ j. get_or s j 0) d ∙ new-entry in omega arith
      entry i h (no d) = let e = old-entry i d in omega (arith, N.entry i (omega arith))

      once : (i : ℕ) → i < b.count + 1 → Dec (i ≡ b.count) → stacked s i (get_or s i 0) ≡ false
      once i h (yes d) =
          ap (λ j. stacked s j (get_or s j 0)) d
          ∙ ap (λ y. stacked s b.count y) new-entry
          ∙ before b.count n (omega arith)
          ∙ free-unstacked b N n k p
      once i h (no d) =
          ap (λ y. stacked s i y) (old-entry i d)
          ∙ before i (get_or b.stack i 0) (omega arith)
          ∙ N.once i (omega arith)

      code : (x : ℕ) → x < m → Dec (x ≡ n) → get_or (set b.borders n v) x 0 ≤ 2
      code x h (yes d) = rw (d, get_or-set_same b.borders n v 0 index) z
      code x h (no d) = rw (get_or-set_other b.borders n x v 0 d) (N.code x h)

      held : (x : ℕ) → x < m → Dec (x ≡ n)
          → eqb (get_or (set b.borders n v) x 0) 0 ≡ not (stacked s (b.count + 1) x)
      held x h (yes d) =
          rw (
            d,
            get_or-set_same b.borders n v 0 index,
            stacked-set b.stack b.count n n place,
            eq-eqb n n refl,
            or-true (stacked b.stack b.count n),
            ne_eqb v 0 (λ q. let e : v ≡ 0 = q in omega arith),
          )
      held x h (no d) =
          rw (
            get_or-set_other b.borders n x v 0 d,
            stacked-set b.stack b.count n x place,
            ne_eqb n x (λ q. d (sym q)),
            or-false (stacked b.stack b.count x),
          )
          (N.held x h)

  pub pushed-typed : Typed b → Typed (pushed b n v)
  pushed-typed T =
      record {
        colours = T.colours;
        clues = T.clues;
        borders = length-set b.borders n v ∙ T.borders;
        stack = length-set b.stack b.count n ∙ T.stack;
        small = T.small;
      }

  pub popped-pushed : popped (pushed b n v) ≡ b
  popped-pushed =
      let ec : b.count + 1 - 1 ≡ b.count = omega arith in
      let eb : set (set b.borders n v) (get_or s (b.count + 1 - 1) 0) 0 ≡ b.borders =
      ap (λ y. set (set b.borders n v) y 0) (ap (λ q. get_or s q 0) ec ∙ new-entry)
      ∙ set-set b.borders n v 0
      ∙ ap (λ y. set b.borders n y) (sym p)
      ∙ set-get_or b.borders n 0 in
      let es : set s (b.count + 1 - 1) 0 ≡ b.stack =
      ap (λ y. set s y 0) ec
      ∙ set-set b.stack b.count n 0
      ∙ ap (λ y. set b.stack b.count y) (sym (N.no_entry b.count (omega arith)))
      ∙ set-get_or b.stack b.count 0 in
      let et : tally_less (tally_more b.tally (side_in v))
      (side_in (get_or (set b.borders n v) (get_or s (b.count + 1 - 1) 0) 0)) ≡ b.tally =
      ap (λ y. tally_less (tally_more b.tally (side_in v)) (side_in (get_or (set b.borders n v) y 0)))
      (ap (λ q. get_or s q 0) ec ∙ new-entry)
      ∙ ap (λ y. tally_less (tally_more b.tally (side_in v)) (side_in y)) (get_or-set_same b.borders n v 0 index)
      ∙ less-more b.tally (side_in v) (free-left b N n k p) in
      λ i. board_with b (eb i) (es i) (ec i) (et i)

-- ---- an undo
-- the board with its entry k taken off
abbrev pub popped_at : Board → ℕ → Board
popped_at b k =
    let n = get_or b.stack k 0 in
    board_with b (set b.borders n 0) (set b.stack k 0) k (tally_less b.tally (side_in (get_or b.borders n 0)))

module _ (b : Board) (N : Native b) (B : length b.borders ≡ 1984) (S : length b.stack ≡ 1984) (k : ℕ)
    (e : b.count ≡ k + 1) where
  last : ℕ
  last = get_or b.stack k 0

  last-below : last < border_count_of b
  unfolding last
  last-below = N.entry k (omega arith)

  -- its border is decided
  last-held : get_or b.borders last 0 ≡ 0 → ⊥
  unfolding last
  last-held z =
      false≢true
      (sym
      (ap not
      (ap (λ j. stacked b.stack j last) e
      ∙ stacked-more b.stack k last
      ∙ ap (λ (t : Bool). stacked b.stack k last || t) (eq-eqb last last refl)
      ∙ or-true (stacked b.stack k last)))
      ∙ sym (N.held last last-below)
      ∙ eq-eqb (get_or b.borders last 0) 0 z)

  last-index : last < length b.borders
  last-index = omega (arith, last-below, borders-fit b N, B)

  -- the side of that border, and the tally without it
  abbrev side : Side
  side = side_in (get_or b.borders last 0)

  abbrev rest : Tally
  rest = tally_in (set b.borders last 0) (border_count_of b)

  rest_some : 0 < rest.undecided
  rest_some =
      codes-some (set b.borders last 0) (border_count_of b) last 0 last-below
      (get_or-set_same b.borders last 0 0 last-index)

  rest_more : b.tally ≡ tally_more rest side
  rest_more =
      let v = get_or b.borders last 0 in
      let c = N.code last last-below in
      N.tally
      ∙ ap (λ (bs : List ℕ). tally_in bs (border_count_of b))
      (sym (set-set b.borders last 0 v ∙ set-get_or b.borders last 0))
      ∙ tally-set (set b.borders last 0) (border_count_of b) last v last-below
      (let q = length-set b.borders last 0 in let r = last-index in omega arith)
      (get_or-set_same b.borders last 0 0 last-index) (one_up v last-held) c
    where
      one_up : (v : ℕ) → (v ≡ 0 → ⊥) → 1 ≤ v
      one_up v f = omega arith

  rest-is : tally_less b.tally side ≡ rest
  rest-is = ap (λ (t : Tally). tally_less t side) rest_more ∙ less-more rest side rest_some

  -- the last decision made again
  pub tally-again : tally_more (tally_less b.tally (side_in (get_or b.borders (get_or b.stack k 0) 0)))
      (side_in (get_or b.borders (get_or b.stack k 0) 0)) ≡ b.tally
  unfolding last
  tally-again = ap (λ (t : Tally). tally_more t side) rest-is ∙ sym rest_more

  -- its side is counted
  pub side-counted : 0 < side_count b.tally (side_in (get_or b.borders (get_or b.stack k 0) 0))
  unfolding last
  side-counted = rw rest_more (more-some rest side)
    where
      more-some : (t : Tally) (d : Side) → 0 < side_count (tally_more t d) d
      more-some t Wall = omega arith
      more-some t Open = omega arith

  pub popped-native : Native (popped_at b k)
  unfolding last
  popped-native =
      record {
        size = N.size;
        colour = N.colour;
        clue = N.clue;
        few = omega (arith, N.few);
        entry = λ i h. let q = old i (λ z. let r : i ≡ k = z in omega arith) in omega (arith, N.entry i (omega arith));
        once =
            λ i h.
            ap (λ y. stacked (set b.stack k 0) i y) (old i (λ z. let r : i ≡ k = z in omega arith))
            ∙ stacked-before b.stack k 0 i (get_or b.stack i 0) (omega arith)
            ∙ N.once i (omega arith);
        code = λ x h. code x h (ℕ_discrete x last);
        held = λ x h. held x h (ℕ_discrete x last);
        tally = rest-is;
        no_colour = N.no_colour;
        no_clue = N.no_clue;
        no_border =
            λ x h.
            let l = last-below in
            get_or-set_other b.borders last x 0 0 (λ q. let r : x ≡ last = q in omega arith) ∙ N.no_border x h;
        no_entry = λ i h. no_entry i h (ℕ_discrete i k);
      }
    where
      m : ℕ
      m = border_count_of b

      old : (i : ℕ) → (i ≡ k → ⊥) → get_or (set b.stack k 0) i 0 ≡ get_or b.stack i 0
      old i d = get_or-set_other b.stack k i 0 0 d

      code : (x : ℕ) → x < m → Dec (x ≡ last) → get_or (set b.borders last 0) x 0 ≤ 2
      code x h (yes d) = rw (d, get_or-set_same b.borders last 0 0 last-index) (omega arith)
      code x h (no d) = rw (get_or-set_other b.borders last x 0 0 d) (N.code x h)

      held : (x : ℕ) → x < m → Dec (x ≡ last)
          → eqb (get_or (set b.borders last 0) x 0) 0 ≡ not (stacked (set b.stack k 0) k x)
      held x h (yes d) =
          rw (
            d,
            get_or-set_same b.borders last 0 0 last-index,
            stacked-before b.stack k 0 k last (omega arith),
            N.once k (omega arith),
          )
      held x h (no d) =
          rw (get_or-set_other b.borders last x 0 0 d, stacked-before b.stack k 0 k x (omega arith))
          (N.held x h
          ∙ ap not
          (ap (λ j. stacked b.stack j x) e
          ∙ stacked-more b.stack k x
          ∙ ap (λ (t : Bool). stacked b.stack k x || t) (ne_eqb last x (λ q. d (sym q)))
          ∙ or-false (stacked b.stack k x)))

      no_entry : (i : ℕ) → k ≤ i → Dec (i ≡ k) → get_or (set b.stack k 0) i 0 ≡ 0
      no_entry i h (yes d) =
          let g = S in
          rw d (get_or-set_same b.stack k 0 0 (omega (arith, borders-fit b N, N.few)))
      no_entry i h (no d) = old i d ∙ N.no_entry i (omega arith)

  pub popped-typed : Typed b → Typed (popped_at b k)
  popped-typed T =
      record {
        colours = T.colours;
        clues = T.clues;
        borders = length-set b.borders (get_or b.stack k 0) 0 ∙ T.borders;
        stack = length-set b.stack k 0 ∙ T.stack;
        small = T.small;
      }

-- ---- the calls
pub decide-keeps : (b : Board) (l : Literal) {d : Board} → length b.borders ≡ 1984 → length b.stack ≡ 1984
    → decide_of b l ≡ returned (Ok tt) d → is_alien d ≡ false
decide-keeps b l B S e =
    let f = decided-is e in
    let c = side-code l.side in
    ap is_alien f.is
    ∙ native-of _ (pushed-native b (native-has b f.known) B S _ _ f.below f.free c.0 c.1)

pub decided-typed : (b : Board) (l : Literal) {d : Board} → Typed b → decide_of b l ≡ returned (Ok tt) d → Typed d
decided-typed b l T e =
    let f = decided-is e in
    rw f.is (pushed-typed b (native-has b f.known) T.borders T.stack _ _ f.below f.free T)

pub undone-typed : (b : Board) {d : Board} → Typed b → undo_of b ≡ returned (Ok tt) d → Typed d
undone-typed b T e =
    let f = undone-is e in
    let c : b.count ≡ b.count - 1 + 1 = omega arith in
    rw f.is (popped-typed b (native-has b f.known) T.borders T.stack (b.count - 1) c T)

pub undo-keeps : (b : Board) {d : Board} → Typed b → undo_of b ≡ returned (Ok tt) d → is_alien d ≡ false
undo-keeps b T e =
    let f = undone-is e in
    let N = native-has b f.known in
    let c : b.count ≡ b.count - 1 + 1 = omega arith in
    ap is_alien f.is ∙ native-of _ (popped-native b N T.borders T.stack (b.count - 1) c)

-- after a decide that was done, an undo is done and gives back the board that the decide was given
pub undo-decide : (b : Board) (l : Literal) {d : Board} → Typed b → decide_of b l ≡ returned (Ok tt) d
    → undo_of d ≡ returned (Ok tt) b
undo-decide b l {d} T e =
    let f = decided-is e in
    let N = native-has b f.known in
    sym
    (undo-done d (decide-keeps b l T.borders T.stack e)
    (λ q. let z : b.count + 1 ≡ 0 = sym (ap (λ (y : Board). y.count) f.is) ∙ q in omega arith))
    ∙ ap (returned (Ok tt))
    (ap popped f.is
    ∙ popped-pushed b N T.borders T.stack l.border (code_of l.side) f.below f.free)
