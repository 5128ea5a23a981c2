-- Laws of a row of tests as a word: its bits, and the loop that makes it.
use Rattle.std.specs.Prelude.{◌≡◌, Bool, ◌&&◌, ℕ, zero, suc, ◌+◌, ◌-◌, ◌*◌, ◌^◌, ◌<◌, ◌≤◌, ltb}
use Rattle.std.proofs.Common.{ap, ap₂, sym, ◌∙◌, pow-suc, arith, lt-ltb, le-ltb, pow_mono}
use Rattle.std.proofs.Math.Arith.{digits_lt}
use Rattle.std.proofs.Math.Dec.{leb-suc-suc}
use Rattle.lists.specs.Count.{bit}
use Rattle.lists.specs.CountLaws.{bit-under}
use Rattle.planes.specs.Bits.{bit_at, row_from}
use Rattle.planes.specs.BitLaws.{bit-zero, bit-first, bit-next}

pub row-start : (n : ℕ) (f : ℕ → Bool) → 0 ≡ row_from (n - n) n f
unfolding row_from
row-start n f = let e : n - n ≡ 0 = omega arith in rw e

pub row-end : (n x : ℕ) (f : ℕ → Bool) → x ≤ 0 → row_from (n - x) x f ≡ row_from n 0 f
row-end n x f h =
    let e : x ≡ 0 = omega arith in
    let d : n - x ≡ n = omega arith in
    rw (d, e)

-- one turn of the loop, which goes down from z to x
pub row_more : (n x z : ℕ) (f : ℕ → Bool) → 0 < z → z ≤ n → x ≡ z - 1
    → row_from (n - x) x f ≡ row_from (n - z) z f * 2 + bit (f x)
unfolding row_from
row_more n x z f p l e =
    let a : n - x ≡ suc (n - z) = omega arith in
    let b : z ≡ suc x = omega arith in
    rw (a, b)

row_lt : (k x : ℕ) (f : ℕ → Bool) → row_from k x f < 2 ^ k
unfolding row_from
row_lt zero x f = omega arith
row_lt (suc k) x f = rw pow-suc (digits_lt (row_lt k (suc x) f) (bit-under (f x)))

pub row_fits : (k x : ℕ) (f : ℕ → Bool) → k ≤ 32 → row_from k x f < 4294967296
row_fits k x f l = let h : 2 ^ k ≤ 2 ^ 32 = pow_mono l in omega (arith, row_lt k x f)

pub row-bit : (k x : ℕ) (f : ℕ → Bool) (i : ℕ) → bit_at (row_from k x f) i ≡ ltb i k && f (x + i)
unfolding row_from
row-bit zero x f i = rw (bit-zero, le-ltb i 0 (omega arith))
row-bit (suc k) x f zero =
    bit-first (row_from k (suc x) f) (f x) ∙ sym (rw (lt-ltb 0 (suc k) (omega arith)) (ap f (omega arith)))
row-bit (suc k) x f (suc i) =
    bit-next (row_from k (suc x) f) (f x) i
    ∙ (row-bit k (suc x) f i
    ∙ ap₂ (λ (a : Bool) (n : ℕ). a && f n) (sym (leb-suc-suc (suc i) k)) (omega arith))
