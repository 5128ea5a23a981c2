-- Laws of the flat page: its counts and the numbers at a cell, which are products of variables that `omega` does not
-- find by itself.
use Rattle.std.specs.Prelude.{◌≡◌, ℕ, zero, suc, ◌+◌, ◌-◌, ◌*◌, ◌/◌, ◌%◌, ◌<◌, ◌≤◌}
use Rattle.std.proofs.Common.{sym, ◌∙◌, mul-le-mul_left, mul-le-mul_right, add-mul, le_trans, mul-zero, mod-lt}
use Rattle.std.proofs.Common.{div-add-mod', div-lt_iff_lt-mul, arith}
use Rattle.std.proofs.Math.Arith.{digits_lt, digits_div, digits_mod}
use Rattle.rules.specs.Flat.{Sized, border_count}

-- the page's counts
pub record Counts (h w : ℕ) : Type 0 where
  pub cells : h * w ≤ 1024
  pub across : h * (w - 1) ≤ 992
  pub down : (h - 1) * w ≤ 992
  pub fewer : h * (w - 1) ≤ h * w
  pub some : 1 ≤ h * w

pub counts : {h w : ℕ} → Sized h w → Counts h w
counts {h} {w} s =
    let slim : w - 1 ≤ 31 = omega arith in
    let less : h - 1 ≤ 31 = omega arith in
    record {
      cells = le_trans (mul-le-mul_left h s.broad) (mul-le-mul_right 32 s.tall);
      across = le_trans (mul-le-mul_left h slim) (mul-le-mul_right 31 s.tall);
      down = le_trans (mul-le-mul_left (h - 1) s.broad) (mul-le-mul_right 32 less);
      fewer = mul-le-mul_left h (omega arith);
      some = le_trans s.rows (omega (arith, mul-le-mul_left h s.columns));
    }

pub borders-le : {h w : ℕ} → Sized h w → border_count h w ≤ 1984
unfolding border_count
borders-le s = omega (arith, counts s)

-- the numbers at a cell (y, x)
pub record Spot (h w y x : ℕ) : Type 0 where
  pub cell : y * w + x < h * w
  pub row : (y * w + x) / w ≡ y
  pub column : (y * w + x) % w ≡ x
  pub line : y * (w - 1) + (w - 1) ≤ h * (w - 1)
  pub up : 0 < y → y * w ≡ (y - 1) * w + w
  pub upper : 0 < y → (y - 1) * w + x < (h - 1) * w
  pub under : y + 1 < h → y * w + x < (h - 1) * w
  pub next : (y + 1) * w ≡ y * w + w
  pub lower : y + 1 < h → (y + 1) * w + x < h * w
  pub beside : x + 1 < w → y * w + (x + 1) < h * w

pub spot : (h w y x : ℕ) → y < h → x < w → Spot h w y x
spot h w y x hy hx =
    let rows : (y + 1) * (w - 1) ≡ y * (w - 1) + (w - 1) = add-mul y 1 (w - 1) ∙ omega arith in
    let most : (y + 1) * (w - 1) ≤ h * (w - 1) = mul-le-mul_right (w - 1) (omega arith) in
    record {
      cell = digits_lt hy hx;
      row = digits_div y hx;
      column = digits_mod y hx;
      line = omega arith;
      up =
          λ p.
          let e : y - 1 + 1 ≡ y = omega arith in
          let m : (y - 1 + 1) * w ≡ (y - 1) * w + w = add-mul (y - 1) 1 w ∙ omega arith in
          rw e at m;
      upper = λ p. digits_lt {q = y - 1} {m = h - 1} {r = x} {c = w} (omega arith) hx;
      under = λ p. digits_lt {q = y} {m = h - 1} {r = x} {c = w} (omega arith) hx;
      next = add-mul y 1 w ∙ omega arith;
      lower = λ p. digits_lt {q = y + 1} {m = h} {r = x} {c = w} p hx;
      beside = λ p. digits_lt hy p;
    }

-- the row and the column of a cell c
pub record OnPage (h w c : ℕ) : Type 0 where
  pub broad : 0 < w
  pub row : c / w < h
  pub column : c % w < w
  pub same : c ≡ c / w * w + c % w

pub row_of_lem : (h w c : ℕ) → c < h * w → OnPage h w c
row_of_lem h zero c q = absurd (omega (arith, mul-zero h))
row_of_lem h (suc w) c q =
    record {
      broad = omega arith;
      row = (div-lt_iff_lt-mul {k = suc w} {x = c} {y = h} (omega arith)).1 q;
      column = mod-lt c (omega arith);
      same = sym (div-add-mod' c (suc w));
    }
