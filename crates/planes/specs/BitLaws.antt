-- Laws of bits: of 0, of shifted words, of a word and a word, of a word or a word; a word is not 0 exactly if it has a
-- bit.
use Rattle.std.specs.Prelude.{◌≡◌, refl, Bool, false, not, ◌&&◌, ◌||◌, ◌⊎◌, ℕ, zero, suc, ◌+◌, ◌*◌, ◌/◌, ◌%◌, ◌^◌, ◌<◌}
use Rattle.std.specs.Prelude.{◌≤◌, min, max, eqb}
use Rattle.std.proofs.Common.{ap, ap₂, sym, ◌∙◌, inl, inr, ⊎_elim, not-suc-le-zero, mod-lt, add_comm, lt_of_lt_of_le}
use Rattle.std.proofs.Common.{zero-lt-suc, div-one, mod-eq_of_lt, add-one, arith, ne_eqb, pow_mono, shr-shr, shr_lt}
use Rattle.std.proofs.Math.Nat.{div-eq_of_lt, zero-div}
use Rattle.std.proofs.Math.Dec.{eqb-zero-suc, eqb-suc-zero, eqb-suc-suc}
use Rattle.std.proofs.Math.Arith.{digits_div, digits_mod, lt-one}
use Rattle.std.proofs.Math.Pow.{pow-lt}
use Rattle.std.proofs.lemmas.Nat.{shl-shr, and_shr, or_shr}
use Rattle.std.specs.Int.Bits.{bit_and, bit_or, and_step, or_step, shifted_even, shifted_half}
use Rattle.lists.specs.Tests.{any_below}
use Rattle.lists.specs.TestLaws.{any-cong, any-first}
use Rattle.lists.specs.Count.{bit}
use Rattle.lists.specs.CountLaws.{bit-under, bit_is}
use Rattle.planes.specs.Bits.{bit_at}

two : (n : ℕ) → (n % 2 ≡ 0) ⊎ (n % 2 ≡ 1)
two n = digit (n % 2) (mod-lt n (zero-lt-suc 1))
  where
    digit : (d : ℕ) → d < 2 → (d ≡ 0) ⊎ (d ≡ 1)
    digit zero h = inl refl
    digit (suc zero) h = inr refl
    digit (suc (suc d)) h = absurd (omega arith)

-- the digits of two words, case by case
both : (P : ℕ → ℕ → Type 0) → P 0 0 → P 0 1 → P 1 0 → P 1 1 → (a b : ℕ) → P (a % 2) (b % 2)
both P p q r s a b =
    ⊎_elim
    (λ (e : a % 2 ≡ 0). ⊎_elim (λ (d : b % 2 ≡ 0). rw (e, d) p) (λ (d : b % 2 ≡ 1). rw (e, d) q) (two b))
    (λ (e : a % 2 ≡ 1). ⊎_elim (λ (d : b % 2 ≡ 0). rw (e, d) r) (λ (d : b % 2 ≡ 1). rw (e, d) s) (two b))
    (two a)

min-bits : (a b : ℕ) → eqb (min (a % 2) (b % 2)) 1 ≡ eqb (a % 2) 1 && eqb (b % 2) 1
min-bits = both (λ m n. eqb (min m n) 1 ≡ eqb m 1 && eqb n 1) refl refl refl refl

min-lt : (a b : ℕ) → min (a % 2) (b % 2) < 2
min-lt = both (λ m n. min m n < 2) (omega arith) (omega arith) (omega arith) (omega arith)

max-bits : (a b : ℕ) → eqb (max (a % 2) (b % 2)) 1 ≡ eqb (a % 2) 1 || eqb (b % 2) 1
max-bits = both (λ m n. eqb (max m n) 1 ≡ eqb m 1 || eqb n 1) refl refl refl refl

max-lt : (a b : ℕ) → max (a % 2) (b % 2) < 2
max-lt = both (λ m n. max m n < 2) (omega arith) (omega arith) (omega arith) (omega arith)

pub bit-and : (a b x : ℕ) → bit_at (bit_and a b) x ≡ bit_at a x && bit_at b x
unfolding bit_at
bit-and a b x =
    let c = a / 2 ^ x in
    let d = b / 2 ^ x in
    ap (λ (n : ℕ). eqb (n % 2) 1) (and_shr a b x)
    ∙ (ap (λ (n : ℕ). eqb n 1)
    (ap (λ (n : ℕ). n % 2) (and_step c d) ∙ digits_mod (bit_and (c / 2) (d / 2)) (min-lt c d))
    ∙ min-bits c d)

pub bit-or : (a b x : ℕ) → bit_at (bit_or a b) x ≡ bit_at a x || bit_at b x
unfolding bit_at
bit-or a b x =
    let c = a / 2 ^ x in
    let d = b / 2 ^ x in
    ap (λ (n : ℕ). eqb (n % 2) 1) (or_shr a b x)
    ∙ (ap (λ (n : ℕ). eqb n 1)
    (ap (λ (n : ℕ). n % 2) (or_step c d) ∙ digits_mod (bit_or (c / 2) (d / 2)) (max-lt c d))
    ∙ max-bits c d)

pub bit-zero : (x : ℕ) → bit_at 0 x ≡ false
unfolding bit_at
bit-zero x = ap (λ (n : ℕ). eqb (n % 2) 1) (zero-div (2 ^ x))

-- shifted to the right by s
pub bit-shr : (w s x : ℕ) → bit_at (w / 2 ^ s) x ≡ bit_at w (s + x)
unfolding bit_at
bit-shr w s x = ap (λ (n : ℕ). eqb (n % 2) 1) (shr-shr w s x)

pub bit_high : (w k x : ℕ) → w < 2 ^ k → k ≤ x → bit_at w x ≡ false
unfolding bit_at
bit_high w k x h l = ap (λ (n : ℕ). eqb (n % 2) 1) (div-eq_of_lt (lt_of_lt_of_le h (pow_mono l)))

-- shifted to the left by s
pub bit-shl : (w s x : ℕ) → bit_at (w * 2 ^ s) (s + x) ≡ bit_at w x
bit-shl w s x = sym (bit-shr (w * 2 ^ s) s x) ∙ ap (λ (n : ℕ). bit_at n x) (shl-shr w s)

first-odd : (w : ℕ) → bit_at w 0 ≡ eqb (w % 2) 1
unfolding bit_at
first-odd w = ap (λ (n : ℕ). eqb (n % 2) 1) (div-one w)

half-bit : (w x : ℕ) → bit_at w (suc x) ≡ bit_at (w / 2) x
half-bit w x = sym (bit-shr w 1 x ∙ ap (bit_at w) (add_comm 1 x ∙ add-one x))

even-bit : (w s : ℕ) → bit_at (w * 2 ^ suc s) 0 ≡ false
even-bit w s = first-odd (w * 2 ^ suc s) ∙ ap (λ (n : ℕ). eqb n 1) (shifted_even w s)

pub bit-low : (w s x : ℕ) → x < s → bit_at (w * 2 ^ s) x ≡ false
bit-low w zero x h = absurd (not-suc-le-zero h)
bit-low w (suc s) zero h = even-bit w s
bit-low w (suc s) (suc x) h =
    half-bit (w * 2 ^ suc s) x
    ∙ (ap (λ (n : ℕ). bit_at n x) (shifted_half w s) ∙ bit-low w s x (omega arith))

-- twice a word, and one bit_at more
pub bit-first : (w : ℕ) (b : Bool) → bit_at (w * 2 + bit b) 0 ≡ b
bit-first w b =
    first-odd (w * 2 + bit b) ∙ (ap (λ (n : ℕ). eqb n 1) (digits_mod w (bit-under b)) ∙ bit_is b)

pub bit-next : (w : ℕ) (b : Bool) (x : ℕ) → bit_at (w * 2 + bit b) (suc x) ≡ bit_at w x
bit-next w b x = half-bit (w * 2 + bit b) x ∙ ap (λ (n : ℕ). bit_at n x) (digits_div w (bit-under b))

-- 2 ^ x has the bit_at x only
bit-one : (x i : ℕ) → bit_at (1 * 2 ^ x) i ≡ eqb i x
bit-one zero zero = first-odd 1
bit-one zero (suc i) = bit_high 1 1 (suc i) (omega arith) (omega arith) ∙ sym (eqb-suc-zero i)
bit-one (suc x) zero = even-bit 1 x ∙ sym (eqb-zero-suc x)
bit-one (suc x) (suc i) =
    half-bit (1 * 2 ^ suc x) i
    ∙ (ap (λ (n : ℕ). bit_at n i) (shifted_half 1 x) ∙ (bit-one x i ∙ sym (eqb-suc-suc i x)))

one_shl : (x : ℕ) → x < 64 → (1 * 2 ^ x) % 2 ^ 64 ≡ 1 * 2 ^ x
one_shl x h = let e : 1 * 2 ^ x ≡ 2 ^ x = omega arith in rw e (mod-eq_of_lt (pow-lt h))

-- a word with the bit_at x set
pub bit-with : (w x i : ℕ) → x < 64 → bit_at (bit_or w ((1 * 2 ^ x) % 2 ^ 64)) i ≡ bit_at w i || eqb i x
bit-with w x i h =
    bit-or w ((1 * 2 ^ x) % 2 ^ 64) i
    ∙ ap (λ (b : Bool). bit_at w i || b) (ap (λ (n : ℕ). bit_at n i) (one_shl x h) ∙ bit-one x i)

-- a word is not 0 exactly if it has a bit
not-zero : (w : ℕ) → eqb (w % 2) 1 || not (eqb (w / 2) 0) ≡ not (eqb w 0)
not-zero w =
    ⊎_elim
    (λ (p : w % 2 ≡ 0). rw p (ap not (same w p)))
    (λ (p : w % 2 ≡ 1). rw (p, ne_eqb w 0 (λ (e : w ≡ 0). omega arith)))
    (two w)
  where
    same : (w : ℕ) → w % 2 ≡ 0 → eqb (w / 2) 0 ≡ eqb w 0
    same zero p = refl
    same (suc w) p =
        ne_eqb (suc w / 2) 0 (λ (e : suc w / 2 ≡ 0). omega arith)
        ∙ sym (ne_eqb (suc w) 0 (λ (e : suc w ≡ 0). omega arith))

pub some-bit : (k w : ℕ) → w < 2 ^ k → any_below k (bit_at w) ≡ not (eqb w 0)
unfolding any_below
some-bit zero w h = let e : w ≡ 0 = lt-one h in rw e
some-bit (suc k) w h =
    any-first k (bit_at w)
    ∙ (ap₂ (λ (a b : Bool). a || b) (first-odd w)
    (any-cong k (λ x. bit_at w (suc x)) (bit_at (w / 2)) (λ x l. half-bit w x)
    ∙ some-bit k (w / 2) (shr_lt k 1 (rw add-one h)))
    ∙ not-zero w)
