-- Laws of a test of every number, or of some number, below a bound: what each number says, a loop that gathers them.
use Rattle.std.specs.Prelude.{◌≡◌, refl, Bool, true, false, ◌&&◌, ◌||◌, ℕ, zero, suc, ◌+◌, ◌-◌, ◌<◌, ◌≤◌, eqb, ltb}
use Rattle.std.proofs.Common.{ap, sym, ◌∙◌, ⊎_elim, not-suc-le-zero, eq-or-lt_of_le, le_of_suc-le-suc, add-one, arith}
use Rattle.std.proofs.Common.{lt-ltb, le-ltb}
use Rattle.std.proofs.Math.Bool.{or-true, or-false, or_assoc, and-true, and_assoc}
use Rattle.std.proofs.Math.Decide.{dec_lt}
use Rattle.std.specs.Int.Bits.{bit_or}
use Rattle.lists.specs.Tests.{all_below, any_below, all_between}
use Rattle.lists.specs.Booleans.{and_left, and_right, and-fails, or_cases, false-true}
use Rattle.lists.specs.Arithmetic.{or-none}

-- ---- every number
pub all_none : (f : ℕ → Bool) → all_below 0 f ≡ true
unfolding all_below
all_none f = refl

pub all_more : (n : ℕ) (f : ℕ → Bool) → all_below n f ≡ true → f n ≡ true → all_below (n + 1) f ≡ true
unfolding all_below
all_more n f p q = rw (add-one, p, q)

pub all-fails : (n : ℕ) (f : ℕ → Bool) (i : ℕ) → i < n → f i ≡ false → all_below n f ≡ false
unfolding all_below
all-fails zero f i h e = absurd (not-suc-le-zero h)
all-fails (suc n) f i h e =
    ⊎_elim
    (λ (p : i ≡ n). and-fails (all_below n f) (f n) (rw (← p) e))
    (λ l. rw (all-fails n f i l e))
    (eq-or-lt_of_le (le_of_suc-le-suc h))

pub all-at : (n : ℕ) (f : ℕ → Bool) (i : ℕ) → all_below n f ≡ true → i < n → f i ≡ true
unfolding all_below
all-at zero f i e h = absurd (not-suc-le-zero h)
all-at (suc n) f i e h =
    ⊎_elim
    (λ (p : i ≡ n). rw p (and_right (all_below n f) (f n) e))
    (λ l. all-at n f i (and_left (all_below n f) (f n) e) l)
    (eq-or-lt_of_le (le_of_suc-le-suc h))

pub all-every : (n : ℕ) (f : ℕ → Bool) → ((i : ℕ) → i < n → f i ≡ true) → all_below n f ≡ true
unfolding all_below
all-every zero f h = refl
all-every (suc n) f h = rw (all-every n f (λ i l. h i (omega arith)), h n (omega arith))

-- the test fails of some number
pub all-witness : (n : ℕ) (f : ℕ → Bool) → all_below n f ≡ false → (j : ℕ) × (j < n) × (f j ≡ false)
unfolding all_below
all-witness zero f e = false-true e refl
all-witness (suc n) f e = go (all_below n f) (f n) refl refl e (all-witness n f)
  where
    go : (a b : Bool) → all_below n f ≡ a → f n ≡ b → a && b ≡ false
        → (all_below n f ≡ false → (j : ℕ) × (j < n) × (f j ≡ false)) → (j : ℕ) × (j < suc n) × (f j ≡ false)
    go true true p q e ih = false-true e refl
    go true false p q e ih = (n, omega arith, q)
    go false b p q e ih = let r = ih p in (r.0, omega (arith, r.1), r.2)

pub all-cong : (n : ℕ) (f g : ℕ → Bool) → ((i : ℕ) → i < n → f i ≡ g i) → all_below n f ≡ all_below n g
unfolding all_below
all-cong zero f g h = refl
all-cong (suc n) f g h = rw (all-cong n f g (λ i l. h i (omega arith)), h n (omega arith))

-- the first test apart
pub all_first : (n : ℕ) (f : ℕ → Bool) → all_below (suc n) f ≡ f 0 && all_below n (λ x. f (suc x))
unfolding all_below
all_first zero f = sym (and-true (f 0))
all_first (suc n) f =
    ap (λ (b : Bool). b && f (suc n)) (all_first n f)
    ∙ and_assoc (f 0) (all_below n (λ x. f (suc x))) (f (suc n))

-- a loop that has tested the numbers below i, and has ended at n
pub all_end : (i n : ℕ) (f : ℕ → Bool) → i ≤ n → n ≤ i → all_below i f ≡ true → all_below n f ≡ true
all_end i n f p q h = let e : i ≡ n = omega arith in rw e at h

-- a loop that gathers the tests of the numbers below i goes on
pub all-and : (i : ℕ) (f : ℕ → Bool) (z b : Bool) → z ≡ all_below i f → b ≡ f i → z && b ≡ all_below (i + 1) f
unfolding all_below
all-and i f z b p q = rw (add-one i, p, q)

-- the same, where it gathers numbers: 0 for a test that holds
pub all-or : (i : ℕ) (f : ℕ → Bool) (w x : ℕ)
    → eqb w 0 ≡ all_below i f → eqb x 0 ≡ f i → eqb (bit_or w x) 0 ≡ all_below (i + 1) f
all-or i f w x p q = or-none w x ∙ all-and i f (eqb w 0) (eqb x 0) p q

pub all-stop : (i n : ℕ) (f : ℕ → Bool) (z : Bool) → z ≡ all_below i f → i ≤ n → n ≤ i → z ≡ all_below n f
all-stop i n f z p h k = let e : i ≡ n = omega arith in rw e at p

-- ---- every number from a on
pub between_none : (a n : ℕ) (f : ℕ → Bool) → n ≤ a → all_between a n f ≡ true
unfolding all_between
between_none a n f h = all-every n _ (λ i l. rw (lt-ltb i a (omega arith)))

-- every number from 0 on is every number
pub between_first : (n : ℕ) (f : ℕ → Bool) → all_between 0 n f ≡ all_below n f
unfolding all_between
between_first n f = all-cong n _ f (λ i h. rw (le-ltb i 0 (omega arith)))

pub between-at : (a n : ℕ) (f : ℕ → Bool) (i : ℕ) → all_between a n f ≡ true → a ≤ i → i < n → f i ≡ true
unfolding all_between
between-at a n f i e h k = rw (le-ltb i a h) at (all-at n (λ j. ltb j a || f j) i e k)

pub between-every : (a n : ℕ) (f : ℕ → Bool) → ((i : ℕ) → a ≤ i → i < n → f i ≡ true) → all_between a n f ≡ true
unfolding all_between
between-every a n f h = all-every n (λ j. ltb j a || f j) (λ i l. go i l (dec_lt i a))
  where
    go : (i : ℕ) → i < n → Dec (i < a) → ltb i a || f i ≡ true
    go i l (yes d) = rw (lt-ltb i a d)
    go i l (no d) = rw (h i (omega arith) l) (or-true (ltb i a))

-- a loop that gathers goes on
pub between-and : (a i : ℕ) (f : ℕ → Bool) (z b : Bool)
    → z ≡ all_between a i f → b ≡ f i → a ≤ i → z && b ≡ all_between a (i + 1) f
unfolding all_between
between-and a i f z b p q h = all-and i (λ j. ltb j a || f j) z b p (rw (q, le-ltb i a h))

pub between-or : (a i : ℕ) (f : ℕ → Bool) (w x : ℕ)
    → eqb w 0 ≡ all_between a i f → eqb x 0 ≡ f i → a ≤ i → eqb (bit_or w x) 0 ≡ all_between a (i + 1) f
between-or a i f w x p q h = or-none w x ∙ between-and a i f (eqb w 0) (eqb x 0) p q h

-- and one that ends
pub between-stop : (a i n : ℕ) (f : ℕ → Bool) → a ≤ i → n ≤ i → i - a ≤ n - a → all_between a i f ≡ all_between a n f
between-stop a i n f h k l = go (dec_lt n a)
  where
    go : Dec (n < a) → all_between a i f ≡ all_between a n f
    go (yes d) = between_none a i f (omega arith) ∙ sym (between_none a n f (omega arith))
    go (no d) = ap (λ j. all_between a j f) (let e : i ≡ n = omega arith in e)

-- ---- some number
pub any_none : (f : ℕ → Bool) → any_below 0 f ≡ false
unfolding any_below
any_none f = refl

pub any-more : (n : ℕ) (f : ℕ → Bool) → any_below (n + 1) f ≡ any_below n f || f n
unfolding any_below
any-more n f = rw add-one

pub any-cong : (n : ℕ) (f g : ℕ → Bool) → ((i : ℕ) → i < n → f i ≡ g i) → any_below n f ≡ any_below n g
unfolding any_below
any-cong zero f g h = refl
any-cong (suc n) f g h = rw (any-cong n f g (λ i l. h i (omega arith)), h n (omega arith))

-- some number passes
pub any_some : (n : ℕ) (f : ℕ → Bool) (i : ℕ) → i < n → f i ≡ true → any_below n f ≡ true
unfolding any_below
any_some zero f i h e = absurd (not-suc-le-zero h)
any_some (suc n) f i h e =
    ⊎_elim
    (λ (p : i ≡ n). rw (← p, e) (or-true (any_below i f)))
    (λ l. rw (any_some n f i l e))
    (eq-or-lt_of_le (le_of_suc-le-suc h))

-- there is a number that the test holds of
pub any-witness : (n : ℕ) (f : ℕ → Bool) → any_below n f ≡ true → (x : ℕ) × (x < n) × (f x ≡ true)
unfolding any_below
any-witness zero f e = false-true refl e
any-witness (suc n) f e =
    ⊎_elim
    (λ (p : any_below n f ≡ true). let r = any-witness n f p in (r.0, omega arith, r.2))
    (λ (p : f n ≡ true). (n, omega arith, p))
    (or_cases (any_below n f) (f n) e)

-- no number passes, and one number more does not, and none from i on does
pub any-fails : (n : ℕ) (f : ℕ → Bool) → ((i : ℕ) → i < n → f i ≡ false) → any_below n f ≡ false
unfolding any_below
any-fails zero f h = refl
any-fails (suc n) f h = rw (any-fails n f (λ i l. h i (omega arith)), h n (omega arith))

pub none_more : (n : ℕ) (f : ℕ → Bool) → any_below n f ≡ false → f n ≡ false → any_below (n + 1) f ≡ false
unfolding any_below
none_more n f p q = rw (add-one, p, q)

pub none_rest : (i n : ℕ) (f : ℕ → Bool) → any_below i f ≡ false → i ≤ n
    → ((j : ℕ) → i ≤ j → j < n → f j ≡ false) → any_below n f ≡ false
unfolding any_below
none_rest i zero f h l r = refl
none_rest i (suc n) f h l r =
    ⊎_elim
    (λ (e : i ≡ suc n). rw e at h)
    (λ (k : i < suc n).
    rw (none_rest i n f h (le_of_suc-le-suc k) (λ j a b. r j a (omega arith)), r n (le_of_suc-le-suc k) (omega arith)))
    (eq-or-lt_of_le l)

-- the first test apart
pub any-first : (n : ℕ) (f : ℕ → Bool) → any_below (suc n) f ≡ f 0 || any_below n (λ x. f (suc x))
unfolding any_below
any-first zero f = sym (or-false (f 0))
any-first (suc n) f =
    ap (λ (b : Bool). b || f (suc n)) (any-first n f)
    ∙ or_assoc (f 0) (any_below n (λ x. f (suc x))) (f (suc n))
