-- Laws of counting: one number further, all or none counted, and that a count grows at each number that passes.
use Rattle.std.specs.Prelude.{◌≡◌, refl, Bool, true, false, not, ◌||◌, ◌⊎◌, ℕ, zero, suc, ◌+◌, ◌<◌, ◌≤◌, T, eqb, ltb}
use Rattle.std.proofs.Common.{ap, ap₂, sym, ◌∙◌, inl, inr, ⊎_elim, not-suc-le-zero, eq-or-lt_of_le, le_of_suc-le-suc}
use Rattle.std.proofs.Common.{arith, eq-eqb, ne_eqb, nltb→le, ltb→lt}
use Rattle.std.proofs.Math.Bool.{or-false}
use Rattle.lists.specs.Count.{bit, count_below}
use Rattle.lists.specs.Booleans.{T-dec, T_true}

pub bit_le : (b : Bool) → bit b ≤ 1
bit_le true = omega arith
bit_le false = omega arith

pub bit-under : (b : Bool) → bit b < 2
bit-under b = omega (arith, bit_le b)

pub bit_is : (b : Bool) → eqb (bit b) 1 ≡ b
bit_is true = refl
bit_is false = refl

pub no-bit : (b : Bool) → bit b ≡ 0 → b ≡ false
no-bit true e = absurd (omega arith)
no-bit false e = refl

-- ---- one number further
pub count-zero : (f : ℕ → Bool) → count_below 0 f ≡ 0
unfolding count_below
count-zero f = refl

pub count_yes : (n : ℕ) (f : ℕ → Bool) → f n ≡ true → count_below (suc n) f ≡ suc (count_below n f)
unfolding count_below
count_yes n f e = rw e (omega arith)

pub count_no : (n : ℕ) (f : ℕ → Bool) → f n ≡ false → count_below (suc n) f ≡ count_below n f
unfolding count_below
count_no n f e = rw e (omega arith)

pub count-cong : (n : ℕ) (f g : ℕ → Bool) → ((i : ℕ) → i < n → f i ≡ g i) → count_below n f ≡ count_below n g
unfolding count_below
count-cong zero f g h = refl
count-cong (suc n) f g h = rw (count-cong n f g (λ i l. h i (omega arith)), h n (omega arith))

-- ---- none, all, at most all
pub count_none : (n : ℕ) (f : ℕ → Bool) → ((i : ℕ) → i < n → f i ≡ false) → count_below n f ≡ 0
unfolding count_below
count_none zero f h = refl
count_none (suc n) f h = rw (count_none n f (λ i l. h i (omega arith)), h n (omega arith))

pub count-all : (n : ℕ) (f : ℕ → Bool) → ((i : ℕ) → i < n → f i ≡ true) → count_below n f ≡ n
count-all zero f h = count-zero f
count-all (suc n) f h = count_yes n f (h n (omega arith)) ∙ ap suc (count-all n f (λ i l. h i (omega arith)))

pub count-le : (n : ℕ) (f : ℕ → Bool) → count_below n f ≤ n
unfolding count_below
count-le zero f = omega arith
count-le (suc n) f = omega (arith, count-le n f, bit_le (f n))

-- one that fails is not counted
pub count-lt : (n : ℕ) (f : ℕ → Bool) (i : ℕ) → i < n → f i ≡ false → count_below n f < n
unfolding count_below
count-lt zero f i h e = absurd (not-suc-le-zero h)
count-lt (suc n) f i h e =
    ⊎_elim
    (λ (p : i ≡ n). omega (arith, count-le n f, ap bit (ap f (sym p) ∙ e)))
    (λ l. omega (arith, count-lt n f i l e, bit_le (f n)))
    (eq-or-lt_of_le (le_of_suc-le-suc h))

-- all are counted: each passes
pub count-full : (n : ℕ) (f : ℕ → Bool) → count_below n f ≡ n → (i : ℕ) → i < n → f i ≡ true
count-full n f e i h = go (f i) refl
  where
    go : (b : Bool) → f i ≡ b → f i ≡ true
    go true q = q
    go false q = absurd (omega (arith, count-lt n f i h q))

-- ---- one more passes
pub count-more : (n : ℕ) (f : ℕ → Bool) (e : ℕ) → e < n → f e ≡ false
    → count_below n (λ x. f x || eqb e x) ≡ count_below n f + 1
unfolding count_below
count-more zero f e h p = absurd (not-suc-le-zero h)
count-more (suc n) f e h p =
    ⊎_elim
    (λ (q : e ≡ n).
    let a : count_below n (λ x. f x || eqb e x) ≡ count_below n f =
    count-cong n (λ x. f x || eqb e x) f
    (λ i l. ap (λ (t : Bool). f i || t) (ne_eqb e i (λ z. omega arith)) ∙ or-false (f i)) in
    let b : bit (f n) ≡ 0 = ap bit (ap f (sym q) ∙ p) in
    let d : bit (f n || eqb e n) ≡ 1 = ap bit (ap₂ (λ (s t : Bool). s || t) (ap f (sym q) ∙ p) (eq-eqb e n q)) in
    omega arith)
    (λ l.
    let a : count_below n (λ x. f x || eqb e x) ≡ count_below n f + 1 = count-more n f e l p in
    let d : bit (f n || eqb e n) ≡ bit (f n) =
    ap bit (ap (λ (t : Bool). f n || t) (ne_eqb e n (λ z. omega arith)) ∙ or-false (f n)) in
    omega arith)
    (eq-or-lt_of_le (le_of_suc-le-suc h))

-- those that pass and those that do not
pub count-not : (n : ℕ) (f : ℕ → Bool) → count_below n (λ x. not (f x)) + count_below n f ≡ n
unfolding count_below
count-not zero f = refl
count-not (suc n) f =
    let a = count-not n f in
    let b = bit_not (f n) in
    omega arith
  where
    bit_not : (b : Bool) → bit (not b) + bit b ≡ 1
    bit_not true = refl
    bit_not false = refl

-- ---- a count grows
pub count-mono : (m n : ℕ) (f : ℕ → Bool) → m ≤ n → count_below m f ≤ count_below n f
unfolding count_below
count-mono m zero f h = let e : m ≡ 0 = omega arith in rw e (omega arith)
count-mono m (suc n) f h =
    ⊎_elim
    (λ (e : m ≡ suc n). rw e (omega arith))
    (λ l. let i = count-mono m n f (le_of_suc-le-suc l) in omega arith)
    (eq-or-lt_of_le h)

-- a number that passes counts
pub count-grows : (m n : ℕ) (f : ℕ → Bool) → m < n → T (f m) → count_below m f < count_below n f
count-grows m n f h t = omega (arith, count_yes m f (T_true (f m) t), count-mono (suc m) n f h)

-- two numbers that pass, with as many before the one as before the other
pub count-inj : (m n : ℕ) (f : ℕ → Bool) → T (f m) → T (f n) → count_below m f ≡ count_below n f → m ≡ n
count-inj m n f t u e = go (T-dec (ltb m n)) (T-dec (ltb n m))
  where
    go : T (ltb m n) ⊎ T (not (ltb m n)) → T (ltb n m) ⊎ T (not (ltb n m)) → m ≡ n
    go (inl l) b = let r = count-grows m n f (ltb→lt m n l) t in absurd (omega arith)
    go (inr l) (inl k) = let r = count-grows n m f (ltb→lt n m k) u in absurd (omega arith)
    go (inr l) (inr k) = let r = nltb→le m n l in let q = nltb→le n m k in omega arith

-- each value below a count is the count before a number that passes
pub count-find : (n : ℕ) (f : ℕ → Bool) (g : ℕ) → g < count_below n f
    → (x : ℕ) × (x < n) × T (f x) × (count_below x f ≡ g)
unfolding count_below
count-find zero f g h = absurd (not-suc-le-zero h)
count-find (suc n) f g h = go (f n) refl h (count-find n f g)
  where
    go : (b : Bool) → f n ≡ b → g < count_below n f + bit b
        → (g < count_below n f → (x : ℕ) × (x < n) × T (f x) × (count_below x f ≡ g))
        → (x : ℕ) × (x < suc n) × T (f x) × (count_below x f ≡ g)
    go true e l ih =
        ⊎_elim
        (λ (q : g ≡ count_below n f). (n, omega arith, rw e tt, sym q))
        (λ k. let r = ih k in (r.0, omega arith, r.2, r.3))
        (eq-or-lt_of_le (let k : g ≤ count_below n f = omega arith in k))
    go false e l ih = let r = ih (omega arith) in (r.0, omega arith, r.2, r.3)
