-- Laws of the loop that draws the planes.
--
--   Line h w y               the cells and the borders of row y, and those below them, are within their arrays
--   Drawing h w cs bs n p    the first n doubled rows are drawn in p
use Rattle.std.specs.Prelude.{◌≡◌, Bool, List, ◌≢◌, ℕ, zero, ◌+◌, ◌-◌, ◌*◌, ◌/◌, ◌%◌, ◌<◌, ◌≤◌, eqb, length, get_or}
use Rattle.std.specs.Prelude.{set, replicate}
use Rattle.std.proofs.Common.{ap, sym, ◌∙◌, mod-eq_of_lt, length-set, get_or-set_same, get_or-set_other}
use Rattle.std.proofs.Math.Bool.{true, false, cond}
use Rattle.std.proofs.Math.Logic.{⊎_elim}
use native.Mathlib.Omega.{arith}
use borrow.Author.Tests.{lt-ltb, le-ltb, le-leb, lt-leb}
use Rattle.std.proofs.lemmas.List.{length-replicate}
use Rattle.lists.specs.PaddedLaws.{zeros}
use Rattle.lists.specs.TableLaws.{table_is, length-table}
use Rattle.lists.specs.Arithmetic.{le-or-lt, eq-or-not}
use Rattle.rules.specs.Flat.{Sized}
use Rattle.laws.specs.FlatLaws.{counts, spot}
use Rattle.planes.specs.RowLaws.{row_fits}
use Rattle.planes.specs.Planes.{clear_at, clear_row, line_word, plane_row, plane_word, planes_of}

-- the bounds of a doubled row's cells and borders
pub record Line (h w y : ℕ) : Type 0 where
  pub right : y * w + w ≤ 1024
  pub across : y * (w - 1) + (w - 1) ≤ 1984
  pub below : y + 1 < h → y * w + w + w ≤ 1024
  pub down : y + 1 < h → h * (w - 1) + y * w + w ≤ 1984

pub line-in : {h w : ℕ} (y : ℕ) → Sized h w → y < h → Line h w y
line-in {h} {w} y s l =
    let c = counts s in
    let p = spot h w y 0 l (omega (arith, s.columns)) in
    let q = spot h w y (w - 1) l (omega (arith, s.columns)) in
    record {
      right = omega (arith, q.cell, c.cells, s.columns);
      across = omega (arith, p.line, c.across);
      below = λ m. omega (arith, q.lower m, q.next, c.cells, s.columns);
      down = λ m. omega (arith, q.under m, c.down, c.across, s.columns);
    }

module _ (h w : ℕ) (cs bs : List ℕ) where
  row_low : (c a b n : ℕ) → n ≤ 32 → clear_row cs bs c a b n < 4294967296
  unfolding clear_row
  row_low c a b n l = row_fits n 0 (λ x. clear_at cs bs (c + x) (c + x + a) (b + x)) l

  line_low : (r : ℕ) → w ≤ 32 → line_word h w cs bs r < 4294967296
  unfolding line_word
  line_low r l = go (eqb (r % 2) 1)
    where
      go : (b : Bool) → cond b (clear_row cs bs (r / 2 * w) w (h * (w - 1) + r / 2 * w) w)
          (clear_row cs bs (r / 2 * w) 1 (r / 2 * (w - 1)) (w - 1)) < 4294967296
      go true = row_low (r / 2 * w) w (h * (w - 1) + r / 2 * w) w l
      go false = row_low (r / 2 * w) 1 (r / 2 * (w - 1)) (w - 1) (omega arith)

  pub record Drawing (n : ℕ) (p : List ℕ) : Type 0 where
    pub size : length p ≡ 192
    pub rows : (r : ℕ) → get_or p r 0 ≡ plane_row h w cs bs n r

  row-none : (r : ℕ) → plane_row h w cs bs 0 r ≡ 0
  unfolding plane_row
  row-none r =
      ⊎_elim
      (λ (l : 64 ≤ r). rw (le-leb 64 r l, le-ltb r (64 + 0) (omega arith)))
      (λ (l : r < 64). rw (lt-leb 64 r l))
      (le-or-lt 64 r)

  row_here : (n : ℕ) → plane_row h w cs bs (n + 1) (64 + n) ≡ line_word h w cs bs n * 4294967296
  unfolding plane_row
  row_here n =
      let e : 64 + n - 64 ≡ n = omega arith in
      rw (le-leb 64 (64 + n) (omega arith), lt-ltb (64 + n) (64 + (n + 1)) (omega arith), e)

  row_other : (n r : ℕ) → r ≢ 64 + n → plane_row h w cs bs n r ≡ plane_row h w cs bs (n + 1) r
  unfolding plane_row
  row_other n r o =
      ⊎_elim
      (λ (l : 64 + n ≤ r). rw (le-ltb r (64 + n) l, le-ltb r (64 + (n + 1)) (omega arith)))
      (λ (l : r < 64 + n). rw (lt-ltb r (64 + n) l, lt-ltb r (64 + (n + 1)) (omega arith)))
      (le-or-lt (64 + n) r)

  pub draw-start : {p : List ℕ} → p ≡ replicate 192 0 → Drawing 0 p
  draw-start e =
      rw e (record { size = length-replicate 192 zero; rows = λ r. zeros 192 r ∙ sym (row-none r) })

  pub draw-more : (n : ℕ) {p : List ℕ} (v : ℕ) → n < 63 → w ≤ 32 → v ≡ line_word h w cs bs n → Drawing n p
      → Drawing (n + 1) (set p (64 + n) ((v * 4294967296) % 18446744073709551616))
  draw-more n {p} v l m e d =
      let g : (v * 4294967296) % 18446744073709551616 ≡ v * 4294967296 =
      mod-eq_of_lt (omega (arith, line_low n m)) in
      rw g
      (record {
        size = length-set p (64 + n) (v * 4294967296) ∙ d.size;
        rows =
            λ r.
            ⊎_elim
            (λ (q : r ≡ 64 + n).
            rw q
            (get_or-set_same p (64 + n) (v * 4294967296) 0 (omega (arith, d.size))
            ∙ (ap (λ (k : ℕ). k * 4294967296) e ∙ sym (row_here n))))
            (λ (q : r ≢ 64 + n).
            get_or-set_other p (64 + n) r (v * 4294967296) 0 q ∙ (d.rows r ∙ row_other n r q))
            (eq-or-not r (64 + n));
      })

  pub draw-end : (n : ℕ) {p : List ℕ} → n ≤ 2 * h - 1 → 2 * h - 1 ≤ n → Drawing n p → p ≡ planes_of h w cs bs
  unfolding planes_of plane_word
  draw-end n {p} l m d =
      let e : n ≡ 2 * h - 1 = omega arith in
      table_is 192 (plane_word h w cs bs) 0 p d.size (λ r k. d.rows r ∙ rw e)

pub planes-long : (h w : ℕ) (cs bs : List ℕ) {p : List ℕ} → p ≡ planes_of h w cs bs → length p ≡ 192
unfolding planes_of
planes-long h w cs bs e = ap length e ∙ length-table 192 (plane_word h w cs bs)
