-- Laws of filters: how long one is, when two are equal, and a filter of the numbers below a bound.
use Rattle.std.specs.Prelude.{◌≡◌, ◌⊎◌, Bool, ◌&&◌, eqb}
use Rattle.std.proofs.Math.Path.{refl, ap}
use Rattle.std.proofs.Common.{◌∙◌, inl, inr, eqb→eq, length-append}
use Rattle.std.proofs.Math.Bool.{true, false}
use mathlib.Core.List.Memᴰ
use mathlib.Core.List.{List, [], ◌∷◌, ◌++◌}
use Prim.Native.Nat.{ℕ, zero, suc, ◌≤◌, ◌<◌}
use native.Mathlib.Omega.{arith}
use Rattle.std.proofs.Math.Dec.{eqb_refl}
use Rattle.std.proofs.Math.ListN.{length}
use Rattle.lists.specs.Lists.{◌∈◌, Distinct, keep_if, filter, any, range}
use Rattle.lists.specs.Count.{bit, count_below}
use Rattle.lists.specs.Booleans.{same_test, false-true}
use Rattle.lists.specs.ListLaws.{mem-filter, filter-mem, filter-test, any-mem, any-find}
use Rattle.lists.specs.Appends.{filter-append}
use Rattle.lists.specs.Ranges.{mem-range, range-more}

module _ {A : Type 0} where
  pub length-filter : (p : A → Bool) (xs : List A) → length (filter p xs) ≤ length xs
  unfolding filter
  length-filter p [] = omega arith
  length-filter p (x ∷ xs) = go (p x) (length-filter p xs)
    where
      go : (b : Bool) → length (filter p xs) ≤ length xs → length (keep_if b x (filter p xs)) ≤ suc (length xs)
      go true h = omega arith
      go false h = omega arith

  -- one fails
  pub filter-less : (p : A → Bool) (xs : List A) {x : A} → x ∈ xs → p x ≡ false → length (filter p xs) < length xs
  unfolding filter
  filter-less p [] m e = absurd (Memᴰ.not-nil m)
  filter-less p (y ∷ xs) {x} m e = go (p y) refl (Memᴰ.cases_cons m) (λ n. filter-less p xs n e)
    where
      go : (b : Bool) → p y ≡ b → (x ≡ y) ⊎ x ∈ xs → (x ∈ xs → length (filter p xs) < length xs)
          → length (keep_if b y (filter p xs)) < suc (length xs)
      go true f (inl q) ih = false-true (rw q at e) f
      go true f (inr n) ih = omega (arith, ih n)
      go false f c ih = omega (arith, length-filter p xs)

  pub filter_same : (p q : A → Bool) (xs : List A) → ((x : A) → x ∈ xs → p x ≡ q x) → filter p xs ≡ filter q xs
  unfolding filter
  filter_same p q [] e = refl
  filter_same p q (x ∷ xs) e = rw (e x (Memᴰ.head refl), filter_same p q xs (λ y m. e y (Memᴰ.tail m)))

  -- all pass
  pub filter-all : (p : A → Bool) (xs : List A) → ((x : A) → x ∈ xs → p x ≡ true) → filter p xs ≡ xs
  unfolding filter
  filter-all p [] e = refl
  filter-all p (x ∷ xs) e = rw (e x (Memᴰ.head refl), filter-all p xs (λ y m. e y (Memᴰ.tail m)))

  -- one test after another
  pub filter-twice : (p q : A → Bool) (xs : List A) → filter p (filter q xs) ≡ filter (λ x. q x && p x) xs
  unfolding filter
  filter-twice p q [] = refl
  filter-twice p q (x ∷ xs) = go (q x) (filter-twice p q xs)
    where
      go : (b : Bool) → filter p (filter q xs) ≡ filter (λ y. q y && p y) xs
          → filter p (keep_if b x (filter q xs)) ≡ keep_if (b && p x) x (filter (λ y. q y && p y) xs)
      go true h = ap (keep_if (p x) x) h
      go false h = h

  -- none passes
  pub filter_none : (p : A → Bool) (xs : List A) → ((x : A) → x ∈ xs → p x ≡ false) → filter p xs ≡ []
  unfolding filter
  filter_none p [] e = refl
  filter_none p (x ∷ xs) e = rw (e x (Memᴰ.head refl), filter_none p xs (λ y m. e y (Memᴰ.tail m)))

  pub distinct_filter : (p : A → Bool) (xs : List A) → Distinct xs → Distinct (filter p xs)
  unfolding filter
  distinct_filter p [] d = tt
  distinct_filter p (x ∷ xs) d = go (p x) (distinct_filter p xs d.1)
    where
      go : (b : Bool) → Distinct (filter p xs) → Distinct (keep_if b x (filter p xs))
      go true e = (λ m. d.0 (filter-mem p xs m), e)
      go false e = e

-- ---- the numbers below n
-- one more number is tested
pub filter_more : (p : ℕ → Bool) (n : ℕ) → filter p (range (suc n)) ≡ filter p (range n) ++ keep_if (p n) n []
unfolding filter
filter_more p n = ap (filter p) (range-more n) ∙ filter-append p (range n) (n ∷ [])

pub filter-length : (p : ℕ → Bool) (n : ℕ) → length (filter p (range n)) ≡ count_below n p
unfolding filter count_below
filter-length p zero = refl
filter-length p (suc n) =
    ap length (filter_more p n) ∙ length-append (filter p (range n)) (keep_if (p n) n [])
    ∙ omega (arith, filter-length p n, one (p n))
  where
    one : (b : Bool) → length (keep_if b n []) ≡ bit b
    one true = refl
    one false = refl

-- a number is among those that pass a test exactly if it passes
pub any-filter : (p : ℕ → Bool) (n x : ℕ) → x < n → any (eqb x) (filter p (range n)) ≡ p x
any-filter p n x h =
    same_test (any (eqb x) (filter p (range n))) (p x)
    (λ t.
    let r = any-find (eqb x) (filter p (range n)) t in
    let e : x ≡ r.0 = eqb→eq x r.0 r.2 in
    rw e (filter-test p (range n) r.1))
    (λ t. any-mem (eqb x) (filter p (range n)) (mem-filter p (range n) (mem-range n h) t) (eqb_refl x))
