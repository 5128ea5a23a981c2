-- Laws of placements: what a raised place reads, case by case, and the two cells of the border there.
use Rattle.std.specs.Prelude.{◌≡◌, List, ℕ, ◌+◌, ◌-◌, ◌*◌, ◌/◌, ◌%◌, ◌<◌, ◌≤◌, eqb, get_or}
use Rattle.std.proofs.Common.{◌∙◌}
use Rattle.std.specs.Bool.{beq}
use Rattle.std.proofs.Math.Option.{Option, some, none}
use native.Mathlib.Omega.{arith}
use Rattle.lists.specs.Arithmetic.{le-or-lt}
use borrow.Author.Tests.{lt-ltb, le-ltb, le-leb, lt-leb, eq-eqb, ne_eqb}
use Rattle.std.proofs.Math.Arith.{digits_lt, digits_div, digits_mod}
use Rattle.rules.specs.Page.{Puzzle, State}
use Rattle.rules.specs.Rules.{one_colour}
use Rattle.rules.specs.Codes.{colours_in, states_in, unclued}
use Rattle.std.proofs.Math.Logic.{◌⊎◌, ⊎_elim}
use Rattle.rules.specs.Flat.{Sized, flat, flat_reads, flat_reads_at, right_of, below_of, flat_first, flat_second}
use Rattle.rules.specs.Flat.{cell_at}
use Rattle.laws.specs.CodeLaws.{wall-state, bit-same}
use Rattle.planes.specs.declared.Reading.TheVariants.{Ends, Clear, Walled}
use Rattle.planes.specs.Placing.{read_raised, reading_of, between}

-- what the border between two cells does
module _ (cs bs : List ℕ) (from to b : ℕ) (two : (c : ℕ) → get_or cs c 0 ≤ 1) where
  two-colours : beq (colours_in cs from) (colours_in cs to) ≡ eqb (get_or cs from 0) (get_or cs to 0)
  unfolding colours_in
  two-colours = bit-same (get_or cs from 0) (get_or cs to 0) (two from) (two to)

  pub between_ends : (get_or cs from 0 ≡ get_or cs to 0 → ⊥) → Ends ≡ between (colours_in cs) (states_in bs) from to b
  unfolding between
  between_ends e = rw (two-colours, ne_eqb (get_or cs from 0) (get_or cs to 0) e)

  pub between-wall : get_or cs from 0 ≡ get_or cs to 0 → get_or bs b 0 ≡ 1
      → Walled b ≡ between (colours_in cs) (states_in bs) from to b
  unfolding between states_in
  between-wall e v = rw (two-colours, eq-eqb (get_or cs from 0) (get_or cs to 0) e, v)

  pub between-clear : get_or cs from 0 ≡ get_or cs to 0 → (get_or bs b 0 ≡ 1 → ⊥)
      → Clear ≡ between (colours_in cs) (states_in bs) from to b
  unfolding between states_in
  between-clear e v =
      rw (
        two-colours,
        eq-eqb (get_or cs from 0) (get_or cs to 0) e,
        wall-state (get_or bs b 0),
        ne_eqb (get_or bs b 0) 1 v,
      )

-- the numbers of two cells side by side, and of one below the other
pub record Across (h w y x : ℕ) : Type 0 where
  pub border : y * (w - 1) + x < h * (w - 1)
  pub row : (y * (w - 1) + x) / (w - 1) ≡ y
  pub column : (y * (w - 1) + x) % (w - 1) ≡ x

pub right-border : (h w y x : ℕ) → y < h → x < w - 1 → Across h w y x
right-border h w y x p q = record { border = digits_lt p q; row = digits_div y q; column = digits_mod y q }

module _ (h w y x : ℕ) (cs : List ℕ) (s : ℕ → State) where
  -- the border right of a cell
  pub right-reading : y < h → x < w - 1
      → reading_of (unclued h w cs) s (some (right_of h w y x))
      ≡ between (colours_in cs) s (y * w + x) (y * w + x + 1) (y * (w - 1) + x)
  unfolding reading_of one_colour flat flat_first flat_second cell_at right_of between
  right-reading p q =
      let b = right-border h w y x p q in
      let e : y * w + x + 1 ≡ y * w + (x + 1) = omega arith in
      rw (lt-ltb (y * (w - 1) + x) (h * (w - 1)) b.border, b.row, b.column, e)

  -- the border below it
  pub below-reading : reading_of (unclued h w cs) s (some (below_of h w y x))
      ≡ between (colours_in cs) s (y * w + x) (y * w + x + w) (h * (w - 1) + (y * w + x))
  unfolding reading_of one_colour flat flat_first flat_second below_of between
  below-reading =
      let e : h * (w - 1) + (y * w + x) - h * (w - 1) ≡ y * w + x = omega arith in
      rw (le-ltb (h * (w - 1) + (y * w + x)) (h * (w - 1)) (omega arith), e)

pub off-ends : (Z : Puzzle) (s : ℕ → State) {o : Option ℕ} → o ≡ none → Ends ≡ reading_of Z s o
unfolding reading_of
off-ends Z s e = rw e

-- what a raised place reads
module _ (h w y x : ℕ) where
  pub off-above : y < 64 → read_raised h w y x ≡ none
  unfolding read_raised flat_reads
  off-above p = rw (lt-ltb y 64 p)

  pub off-left : 64 ≤ y → x < 64 → read_raised h w y x ≡ none
  unfolding read_raised flat_reads
  off-left p q = rw (le-ltb y 64 p, lt-ltb x 64 q)

  module _ (p : 64 ≤ y) (q : 64 ≤ x) where
    in-plane : read_raised h w y x ≡ flat_reads_at h w (y - 64) (x - 64)
    unfolding read_raised flat_reads
    in-plane = rw (le-ltb y 64 p, le-ltb x 64 q)

    pub off-below : 2 * (h - 1) < y - 64 → read_raised h w y x ≡ none
    unfolding flat_reads_at
    off-below o = in-plane ∙ rw (lt-leb (y - 64) (2 * (h - 1)) o)

    pub off-right : y - 64 ≤ 2 * (h - 1) → 2 * (w - 1) < x - 64 → read_raised h w y x ≡ none
    unfolding flat_reads_at
    off-right m o = in-plane ∙ rw (le-leb (y - 64) (2 * (h - 1)) m, lt-leb (x - 64) (2 * (w - 1)) o)

    module _ (m : y - 64 ≤ 2 * (h - 1)) (n : x - 64 ≤ 2 * (w - 1)) where
      pub reads-below : (y - 64) % 2 ≡ 1 → read_raised h w y x ≡ some (below_of h w ((y - 64) / 2) ((x - 64) / 2))
      unfolding flat_reads_at
      reads-below o =
          in-plane
          ∙ rw (le-leb (y - 64) (2 * (h - 1)) m, le-leb (x - 64) (2 * (w - 1)) n, o)

      pub reads-right : ((y - 64) % 2 ≡ 1 → ⊥)
          → read_raised h w y x ≡ some (right_of h w ((y - 64) / 2) ((x - 64) / 2))
      unfolding flat_reads_at
      reads-right o =
          in-plane
          ∙ rw (le-leb (y - 64) (2 * (h - 1)) m, le-leb (x - 64) (2 * (w - 1)) n, ne_eqb ((y - 64) % 2) 1 o)

-- the same by the doubled coordinates that the raised ones stand for, each of which is on the page or not
module _ (h w : ℕ) (d : Sized h w) where
  pub off-rows : (y x : ℕ) → (y < 64) ⊎ (64 + (2 * h - 1) ≤ y) → read_raised h w y x ≡ none
  off-rows y x e =
      ⊎_elim
      (λ (a : y < 64). off-above h w y x a)
      (λ (a : 64 + (2 * h - 1) ≤ y).
      ⊎_elim
      (λ (b : 64 ≤ x). off-below h w y x (omega arith) b (omega (arith, d.rows)))
      (λ (b : x < 64). off-left h w y x (omega arith) b)
      (le-or-lt 64 x))
      e

  pub off-columns : (y x : ℕ) → (x < 64) ⊎ (64 + (2 * w - 1) ≤ x) → read_raised h w y x ≡ none
  off-columns y x e =
      ⊎_elim
      (λ (a : 64 ≤ y).
      ⊎_elim
      (λ (b : x < 64). off-left h w y x a b)
      (λ (b : 64 + (2 * w - 1) ≤ x).
      ⊎_elim
      (λ (m : y - 64 ≤ 2 * (h - 1)). off-right h w y x a (omega arith) m (omega (arith, d.columns)))
      (λ (m : 2 * (h - 1) < y - 64). off-below h w y x a (omega arith) m)
      (le-or-lt (y - 64) (2 * (h - 1))))
      e)
      (λ (a : y < 64). off-above h w y x a)
      (le-or-lt 64 y)

  module _ (y x : ℕ) (p : y < 2 * h - 1) (q : x < 2 * w - 1) where
    pub lies-below : y % 2 ≡ 1 → read_raised h w (64 + y) (64 + x) ≡ some (below_of h w (y / 2) (x / 2))
    lies-below o =
        let a : 64 + y - 64 ≡ y = omega arith in
        let b : 64 + x - 64 ≡ x = omega arith in
        let n : (64 + y - 64) % 2 ≡ 1 = rw a o in
        rw (a, b) at (reads-below h w (64 + y) (64 + x) (omega arith) (omega arith) (omega arith) (omega arith) n)

    pub lies-right : (y % 2 ≡ 1 → ⊥) → read_raised h w (64 + y) (64 + x) ≡ some (right_of h w (y / 2) (x / 2))
    lies-right o =
        let a : 64 + y - 64 ≡ y = omega arith in
        let b : 64 + x - 64 ≡ x = omega arith in
        let n : (64 + y - 64) % 2 ≡ 1 → ⊥ = rw a o in
        rw (a, b) at (reads-right h w (64 + y) (64 + x) (omega arith) (omega arith) (omega arith) (omega arith) n)
