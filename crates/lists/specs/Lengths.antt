-- Lengths: a list with an element, and an injection from a list without repeats.
use Rattle.std.specs.Prelude.{◌≡◌, refl, ◌⊎◌, List, [], ◌∷◌, ℕ, suc, ◌≤◌, length}
use Rattle.std.proofs.Common.{sym, ap, ◌∙◌, subst, inl, inr, arith}
use mathlib.Core.List.Memᴰ
use Rattle.lists.specs.Lists.{◌∈◌, Distinct}

pub some-length : {A : Type 0} {x : A} (xs : List A) → x ∈ xs → 1 ≤ length xs
some-length [] m = absurd (Memᴰ.not-nil m)
some-length (y ∷ xs) m = omega arith

-- one element taken out
pub take_out : (ys : List ℕ) {y : ℕ} → y ∈ ys
    → (zs : List ℕ) × (length ys ≡ suc (length zs)) × ((z : ℕ) → z ∈ ys → (z ≡ y) ⊎ z ∈ zs)
take_out [] m = absurd (Memᴰ.not-nil m)
take_out (w ∷ ys) {y} m = go (Memᴰ.cases_cons m) (λ n. take_out ys n)
  where
    go : (y ≡ w) ⊎ y ∈ ys → (y ∈ ys
        → (zs : List ℕ) × (length ys ≡ suc (length zs)) × ((z : ℕ) → z ∈ ys → (z ≡ y) ⊎ z ∈ zs)) →
        (zs : List ℕ) × (length (w ∷ ys) ≡ suc (length zs)) × ((z : ℕ) → z ∈ (w ∷ ys) → (z ≡ y) ⊎ z ∈ zs)
    go (inl q) ih = (ys, refl, λ z n. at z (Memᴰ.cases_cons n))
      where
        at : (z : ℕ) → (z ≡ w) ⊎ z ∈ ys → (z ≡ y) ⊎ z ∈ ys
        at z (inl e) = inl (e ∙ sym q)
        at z (inr n) = inr n
    go (inr n) ih = let r = ih n in (w ∷ r.0, ap suc r.1, λ z k. at r.0 r.2 z (Memᴰ.cases_cons k))
      where
        at : (zs : List ℕ) → ((z : ℕ) → z ∈ ys → (z ≡ y) ⊎ z ∈ zs) → (z : ℕ) → (z ≡ w) ⊎ z ∈ ys → (z ≡ y) ⊎ z ∈ (w ∷ zs)
        at zs f z (inl e) = inr (Memᴰ.head e)
        at zs f z (inr k) = down (f z k)
          where
            down : (z ≡ y) ⊎ z ∈ zs → (z ≡ y) ⊎ z ∈ (w ∷ zs)
            down (inl e) = inl e
            down (inr j) = inr (Memᴰ.tail j)

module _ (R : ℕ → ℕ → Type 0) where
  pub inject-le : (xs ys : List ℕ) → Distinct xs → ((x : ℕ) → x ∈ xs → (y : ℕ) × y ∈ ys × R x y) →
      ((x z y : ℕ) → x ∈ xs → z ∈ xs → R x y → R z y → x ≡ z) → length xs ≤ length ys
  inject-le [] ys d f i = omega arith
  inject-le (x ∷ xs) ys d f i = go (f x (Memᴰ.head refl))
      (λ zs g. inject-le xs zs d.1 g (λ a b c m n. i a b c (Memᴰ.tail m) (Memᴰ.tail n)))
    where
      go : (y : ℕ) × y ∈ ys × R x y → ((zs : List ℕ) → ((z : ℕ) → z ∈ xs → (y : ℕ) × y ∈ zs × R z y)
          → length xs ≤ length zs) → length (x ∷ xs) ≤ length ys
      go r ih = let t = take_out ys r.1 in
          let s = ih t.0 (λ z m. back t.0 t.2 z m (f z (Memᴰ.tail m))) in
          let e = t.1 in omega arith
        where
          back : (zs : List ℕ) → ((z : ℕ) → z ∈ ys → (z ≡ r.0) ⊎ z ∈ zs) → (z : ℕ) → z ∈ xs → (y : ℕ) × y ∈ ys × R z y
              → (y : ℕ) × y ∈ zs × R z y
          back zs g z m q = at (g q.0 q.1)
            where
              at : (q.0 ≡ r.0) ⊎ q.0 ∈ zs → (y : ℕ) × y ∈ zs × R z y
              at (inl e) =
                  absurd (d.0 (subst (λ (k : ℕ). k ∈ xs)
                  (i z x r.0 (Memᴰ.tail m) (Memᴰ.head refl) (subst (λ (k : ℕ). R z k) e q.2) r.2) m))
              at (inr n) = (q.0, n, q.2)

pub subset-le : (xs ys : List ℕ) → Distinct xs → ((x : ℕ) → x ∈ xs → x ∈ ys) → length xs ≤ length ys
subset-le xs ys d f = inject-le (λ x y. x ≡ y) xs ys d (λ x m. (x, f x m, refl)) (λ x z y m n p q. p ∙ sym q)

-- a sublist of equal length has everything
pub subset-full : (xs ys : List ℕ) → Distinct xs → ((x : ℕ) → x ∈ xs → x ∈ ys) → length ys ≤ length xs → (y : ℕ)
    → y ∈ ys → (x : ℕ) × x ∈ xs × (x ≡ y)
subset-full [] ys d f h y m = let t = take_out ys m in let e = t.1 in absurd (omega arith)
subset-full (x ∷ xs) ys d f h y m =
    go (take_out ys (f x (Memᴰ.head refl))) (λ zs g k n. subset-full xs zs d.1 g k y n)
  where
    go : (zs : List ℕ) × (length ys ≡ suc (length zs)) × ((z : ℕ) → z ∈ ys → (z ≡ x) ⊎ z ∈ zs) →
        ((zs : List ℕ) → ((z : ℕ) → z ∈ xs → z ∈ zs) → length zs ≤ length xs → y ∈ zs → (w : ℕ) × w ∈ xs × (w ≡ y))
        → (w : ℕ) × w ∈ (x ∷ xs) × (w ≡ y)
    go t ih = at (t.2 y m) (λ n. ih t.0 (λ z k. keep' z k (t.2 z (f z (Memᴰ.tail k))))
        (let e = t.1 in omega arith) n)
      where
        keep' : (z : ℕ) → z ∈ xs → (z ≡ x) ⊎ z ∈ t.0 → z ∈ t.0
        keep' z k (inl e) = absurd (d.0 (subst (λ (j : ℕ). j ∈ xs) e k))
        keep' z k (inr n) = n

        at : (y ≡ x) ⊎ y ∈ t.0 → (y ∈ t.0 → (w : ℕ) × w ∈ xs × (w ≡ y)) → (w : ℕ) × w ∈ (x ∷ xs) × (w ≡ y)
        at (inl e) ih = (x, Memᴰ.head refl, sym e)
        at (inr n) ih = let r = ih n in (r.0, Memᴰ.tail r.1, r.2)

-- an injection into a list that is no longer meets every element
module _ (R : ℕ → ℕ → Type 0) (ys : List ℕ) where
  -- the elements that an injection meets: as many as it starts from
  record MappedOnto (xs zs : List ℕ) : Type 0 where
    many : length zs ≡ length xs
    once : Distinct zs
    inside : (z : ℕ) → z ∈ zs → z ∈ ys
    from : (z : ℕ) → z ∈ zs → (x : ℕ) × x ∈ xs × R x z

  onto : (xs : List ℕ) → Distinct xs → ((x : ℕ) → x ∈ xs → (y : ℕ) × y ∈ ys × R x y)
      → ((x z y : ℕ) → x ∈ xs → z ∈ xs → R x y → R z y → x ≡ z) → (zs : List ℕ) × MappedOnto xs zs
  onto [] d f i = (
    [],
    record {
      many = refl;
      once = tt;
      inside = λ z m. absurd (Memᴰ.not-nil m);
      from = λ z m. absurd (Memᴰ.not-nil m);
    },
  )
  onto (x ∷ xs) d f i =
      go (onto xs d.1 (λ z m. f z (Memᴰ.tail m))
      (λ a b c m n. i a b c (Memᴰ.tail m) (Memᴰ.tail n)))
      (f x (Memᴰ.head refl))
    where
      go : (zs : List ℕ) × MappedOnto xs zs → (y : ℕ) × y ∈ ys × R x y → (zs : List ℕ) × MappedOnto (x ∷ xs) zs
      go r y = (
        y.0 ∷ r.0,
        record {
          many = ap suc r.1.many;
          once = (λ m. new (r.1.from y.0 m), r.1.once);
          inside = λ z m. within z (Memᴰ.cases_cons m);
          from = λ z m. origin z (Memᴰ.cases_cons m);
        },
      )
        where
          new : (z : ℕ) × z ∈ xs × R z y.0 → ⊥
          new q =
              d.0 (subst (λ (k : ℕ). k ∈ xs)
              (i q.0 x y.0 (Memᴰ.tail q.1) (Memᴰ.head refl) q.2 y.2) q.1)

          within : (z : ℕ) → (z ≡ y.0) ⊎ z ∈ r.0 → z ∈ ys
          within z (inl e) = rw e y.1
          within z (inr m) = r.1.inside z m

          origin : (z : ℕ) → (z ≡ y.0) ⊎ z ∈ r.0 → (w : ℕ) × w ∈ (x ∷ xs) × R w z
          origin z (inl e) = (x, Memᴰ.head refl, subst (R x) (sym e) y.2)
          origin z (inr m) = let q = r.1.from z m in (q.0, Memᴰ.tail q.1, q.2)

  pub inject-onto : (xs : List ℕ) → Distinct xs → ((x : ℕ) → x ∈ xs → (y : ℕ) × y ∈ ys × R x y)
      → ((x z y : ℕ) → x ∈ xs → z ∈ xs → R x y → R z y → x ≡ z) → length ys ≤ length xs
      → (y : ℕ) → y ∈ ys → (x : ℕ) × x ∈ xs × R x y
  inject-onto xs d f i l y m = go (onto xs d f i)
    where
      go : (zs : List ℕ) × MappedOnto xs zs → (x : ℕ) × x ∈ xs × R x y
      go r =
          let n = r.1.many in
          let q = subset-full r.0 ys r.1.once r.1.inside (omega arith) y m in
          let w = r.1.from q.0 q.1 in
          (w.0, w.1, subst (R w.0) q.2 w.2)
