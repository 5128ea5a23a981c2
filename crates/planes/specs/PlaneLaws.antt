-- Laws of planes: a bit_at says whether the connection that lies there is clear; and the loop that draws them.
use Rattle.std.specs.Prelude.{◌≡◌, refl, Bool, not, ◌&&◌, cond, List, ◌≢◌, ℕ, ◌+◌, ◌-◌, ◌*◌, ◌/◌, ◌%◌, ◌^◌, ◌<◌, ◌≤◌}
use Rattle.std.specs.Prelude.{eqb, leb, get_or}
use Rattle.std.proofs.Math.Path.{ap, ap₂, sym}
use Rattle.std.proofs.Common.{◌∙◌}
use Rattle.std.proofs.Math.Bool.{true, false}
use Rattle.std.proofs.Math.Option.{none}
use Rattle.std.proofs.Math.Logic.{⊎_elim}
use native.Mathlib.Omega.{arith}
use borrow.Author.Tests.{lt-ltb, le-ltb, le-leb, lt-leb, ne_eqb}
use Rattle.std.proofs.Math.Dec.{ltb}
use Rattle.lists.specs.Arithmetic.{le-or-lt, eq-or-not}
use Rattle.rules.specs.Codes.{colours_in, states_in, unclued}
use Rattle.laws.specs.CodeLaws.{wall-state, bit-same}
use Rattle.groups.specs.Pages.{Drawn}
use Rattle.planes.specs.declared.Reading.TheVariants.{Ends, Clear, Walled}
use Rattle.planes.specs.Placing.{read_raised, reading_of, between, is_clear}
use Rattle.planes.specs.PlacingLaws.{right-reading, below-reading, off-ends, off-above, off-left, off-below}
use Rattle.planes.specs.PlacingLaws.{off-right, reads-below, reads-right}
use Rattle.planes.specs.Bits.{bit_at}
use Rattle.planes.specs.BitLaws.{bit-zero, bit-shl, bit-low}
use Rattle.planes.specs.RowLaws.{row-bit}
use Rattle.planes.specs.Planes.{clear_at, clear_row, line_word, plane_row, plane_word}

clear-between : (cs bs : List ℕ) (f t b : ℕ) → ((c : ℕ) → get_or cs c 0 ≤ 1)
    → is_clear (between (colours_in cs) (states_in bs) f t b) ≡ clear_at cs bs f t b
unfolding between colours_in states_in clear_at
clear-between cs bs f t b two =
    rw (bit-same (get_or cs f 0) (get_or cs t 0) (two f) (two t), wall-state (get_or bs b 0))
    (go (eqb (get_or cs f 0) (get_or cs t 0)) (eqb (get_or bs b 0) 1))
  where
    go : (p q : Bool) → is_clear (cond p (cond q (Walled b) Clear) Ends) ≡ p && not q
    go true true = refl
    go true false = refl
    go false q = refl

row_at : (cs bs : List ℕ) (c a b n x : ℕ) → x < n
    → bit_at (clear_row cs bs c a b n) x ≡ clear_at cs bs (c + x) (c + x + a) (b + x)
unfolding clear_row
row_at cs bs c a b n x l =
    row-bit n 0 (λ i. clear_at cs bs (c + i) (c + i + a) (b + i)) x
    ∙ rw (lt-ltb x n l) (ap (λ i. clear_at cs bs (c + i) (c + i + a) (b + i)) (omega arith))

row-past : (cs bs : List ℕ) (c a b n x : ℕ) → n ≤ x → bit_at (clear_row cs bs c a b n) x ≡ false
unfolding clear_row
row-past cs bs c a b n x l =
    row-bit n 0 (λ i. clear_at cs bs (c + i) (c + i + a) (b + i)) x ∙ rw (le-ltb x n l)

module _ (h w : ℕ) (cs bs : List ℕ) where
  -- off the page
  plane-above : (n r : ℕ) → r < 64 → plane_row h w cs bs n r ≡ 0
  unfolding plane_row
  plane-above n r l = rw (lt-leb 64 r l)

  plane-below : (n r : ℕ) → 64 + n ≤ r → plane_row h w cs bs n r ≡ 0
  unfolding plane_row
  plane-below n r l = rw (le-leb 64 r (omega arith), le-ltb r (64 + n) l)

  plane-on : (n r : ℕ) → 64 ≤ r → r < 64 + n → plane_row h w cs bs n r ≡ line_word h w cs bs (r - 64) * 2 ^ 32
  unfolding plane_row
  plane-on n r l m = rw (le-leb 64 r l, lt-ltb r (64 + n) m)

  plane-left : (n r x : ℕ) → x < 32 → bit_at (plane_row h w cs bs n r) x ≡ false
  unfolding plane_row
  plane-left n r x l = go (leb 64 r && ltb r (64 + n))
    where
      go : (b : Bool) → bit_at (cond b (line_word h w cs bs (r - 64) * 2 ^ 32) 0) x ≡ false
      go true = bit-low (line_word h w cs bs (r - 64)) 32 x l
      go false = bit-zero x

  -- a doubled row of the page
  pub line-odd : (r : ℕ) → r % 2 ≡ 1
      → line_word h w cs bs r ≡ clear_row cs bs (r / 2 * w) w (h * (w - 1) + r / 2 * w) w
  unfolding line_word
  line-odd r e = rw e

  pub line-even : (r : ℕ) → (r % 2 ≡ 1 → ⊥)
      → line_word h w cs bs r ≡ clear_row cs bs (r / 2 * w) 1 (r / 2 * (w - 1)) (w - 1)
  unfolding line_word
  line-even r e = rw (ne_eqb (r % 2) 1 e)

  module _ (d : Drawn h w cs) (r c : ℕ) where
    abbrev reading : Bool
    reading = is_clear (reading_of (unclued h w cs) (states_in bs) (read_raised h w r c))

    off : read_raised h w r c ≡ none → reading ≡ false
    off e = ap is_clear (sym (off-ends (unclued h w cs) (states_in bs) e))

    -- rows and columns on the page
    module _ (lr : 64 ≤ r) (lc : 64 ≤ c) (mr : r - 64 ≤ 2 * (h - 1)) where
      abbrev y : ℕ
      y = (r - 64) / 2

      abbrev x : ℕ
      x = (c - 64) / 2

      word : bit_at (plane_word h w cs bs r) (c / 2) ≡ bit_at (line_word h w cs bs (r - 64)) x
      unfolding plane_word
      word =
          let s = d.sized.rows in
          let e : c / 2 ≡ 32 + x = omega arith in
          ap₂ bit_at (plane-on (2 * h - 1) r lr (omega arith)) e
          ∙ bit-shl (line_word h w cs bs (r - 64)) 32 x

      odd-row : (r - 64) % 2 ≡ 1 → c % 2 ≡ 0 → bit_at (line_word h w cs bs (r - 64)) x ≡ reading
      odd-row o z =
          ap (λ v. bit_at v x) (line-odd (r - 64) o)
          ∙ ⊎_elim
          (λ (l : w ≤ x).
          row-past cs bs (y * w) w (h * (w - 1) + y * w) w x l
          ∙ sym (off (off-right h w r c lr lc mr (omega arith))))
          (λ (l : x < w).
          row_at cs bs (y * w) w (h * (w - 1) + y * w) w x l
          ∙ (ap (clear_at cs bs (y * w + x) (y * w + x + w)) (omega arith)
          ∙ (sym (clear-between cs bs (y * w + x) (y * w + x + w) (h * (w - 1) + (y * w + x)) d.two)
          ∙ ap is_clear
          (sym (ap (reading_of (unclued h w cs) (states_in bs)) (reads-below h w r c lr lc mr (omega arith) o)
          ∙ below-reading h w y x cs (states_in bs))))))
          (le-or-lt w x)

      even-row : ((r - 64) % 2 ≡ 1 → ⊥) → c % 2 ≡ 1 → bit_at (line_word h w cs bs (r - 64)) x ≡ reading
      even-row o z =
          ap (λ v. bit_at v x) (line-even (r - 64) o)
          ∙ ⊎_elim
          (λ (l : w - 1 ≤ x).
          row-past cs bs (y * w) 1 (y * (w - 1)) (w - 1) x l
          ∙ sym (off (off-right h w r c lr lc mr (omega arith))))
          (λ (l : x < w - 1).
          row_at cs bs (y * w) 1 (y * (w - 1)) (w - 1) x l
          ∙ (sym (clear-between cs bs (y * w + x) (y * w + x + 1) (y * (w - 1) + x) d.two)
          ∙ ap is_clear
          (sym (ap (reading_of (unclued h w cs) (states_in bs)) (reads-right h w r c lr lc mr (omega arith) o)
          ∙ right-reading h w y x cs (states_in bs) (omega (arith, d.sized.rows)) l))))
          (le-or-lt (w - 1) x)

      on-page : r % 2 + c % 2 ≡ 1 → bit_at (plane_word h w cs bs r) (c / 2) ≡ reading
      on-page o =
          word
          ∙ ⊎_elim
          (λ (e : (r - 64) % 2 ≡ 1). odd-row e (omega arith))
          (λ (e : (r - 64) % 2 ≢ 1). even-row e (omega arith))
          (eq-or-not ((r - 64) % 2) 1)

    -- "off the page .. or joining two colours", or wall: no bit; otherwise the bit_at is set
    pub plane-clear : r % 2 + c % 2 ≡ 1 → bit_at (plane_word h w cs bs r) (c / 2) ≡ reading
    unfolding plane_word
    plane-clear o =
        ⊎_elim
        (λ (lr : 64 ≤ r).
        ⊎_elim
        (λ (lc : 64 ≤ c).
        ⊎_elim
        (λ (mr : r - 64 ≤ 2 * (h - 1)). on-page lr lc mr o)
        (λ (m : 2 * (h - 1) < r - 64).
        ap (λ v. bit_at v (c / 2)) (plane-below (2 * h - 1) r (omega arith))
        ∙ (bit-zero (c / 2) ∙ sym (off (off-below h w r c lr lc m))))
        (le-or-lt (r - 64) (2 * (h - 1))))
        (λ (l : c < 64).
        plane-left (2 * h - 1) r (c / 2) (omega arith) ∙ sym (off (off-left h w r c lr l)))
        (le-or-lt 64 c))
        (λ (l : r < 64).
        ap (λ v. bit_at v (c / 2)) (plane-above (2 * h - 1) r l)
        ∙ (bit-zero (c / 2) ∙ sym (off (off-above h w r c l))))
        (le-or-lt 64 r)
