-- What is an element of a filter, a map, a flat_map, and what any, all and first_hit say of the elements.
use Rattle.std.proofs.Math.Path.{◌≡◌, refl}
use Rattle.std.proofs.Common.{ap, ◌∙◌, subst, inl, inr, not-suc-le-zero, le_of_suc-le-suc}
use Rattle.std.specs.Prelude.{◌⊎◌, Bool, ℕ, zero, suc, ◌<◌, length, get_or}
use Rattle.std.proofs.Math.Bool.{true, false}
use mathlib.Core.List.Memᴰ
use mathlib.Core.List.{List, [], ◌∷◌, map}
use Rattle.std.proofs.Math.Option.{Option, some, none}
use native.Mathlib.Omega.{arith}
use Rattle.std.proofs.Math.Dec.{T}
use Rattle.lists.specs.Lists.{◌∈◌, keep_if, filter, any, all, or_else, flat_map, first_hit}
use Rattle.lists.specs.Booleans.{T-and-l, T-and-r, T_and, T-or, T-or-l, T-or-r}

module _ {A : Type 0} where
  pub mem-filter : (p : A → Bool) (xs : List A) {x : A} → x ∈ xs → T (p x) → x ∈ filter p xs
  unfolding filter
  mem-filter p [] m t = absurd (Memᴰ.not-nil m)
  mem-filter p (y ∷ ys) {x} m t = go (p y) refl (Memᴰ.cases_cons m) (λ m'. mem-filter p ys m' t)
    where
      go : (b : Bool) → p y ≡ b → (x ≡ y) ⊎ x ∈ ys → (x ∈ ys → x ∈ filter p ys) → x ∈ keep_if b y (filter p ys)
      go true e (inl q) ih = Memᴰ.head q
      go true e (inr m') ih = Memᴰ.tail (ih m')
      go false e (inl q) ih = absurd (rw (q, e) at t)
      go false e (inr m') ih = ih m'

  pub filter-mem : (p : A → Bool) (xs : List A) {x : A} → x ∈ filter p xs → x ∈ xs
  unfolding filter
  filter-mem p [] m = m
  filter-mem p (y ∷ ys) {x} m = go (p y) m (λ m'. filter-mem p ys m')
    where
      go : (b : Bool) → x ∈ keep_if b y (filter p ys) → (x ∈ filter p ys → x ∈ ys) → x ∈ (y ∷ ys)
      go true (Memᴰ.head q) ih = Memᴰ.head q
      go true (Memᴰ.tail m') ih = Memᴰ.tail (ih m')
      go false m' ih = Memᴰ.tail (ih m')

  pub filter-test : (p : A → Bool) (xs : List A) {x : A} → x ∈ filter p xs → T (p x)
  unfolding filter
  filter-test p [] m = absurd (Memᴰ.not-nil m)
  filter-test p (y ∷ ys) {x} m = go (p y) refl m (λ m'. filter-test p ys m')
    where
      go : (b : Bool) → p y ≡ b → x ∈ keep_if b y (filter p ys) → (x ∈ filter p ys → T (p x)) → T (p x)
      go true e (Memᴰ.head q) ih = rw (q, e) tt
      go true e (Memᴰ.tail m') ih = ih m'
      go false e m' ih = ih m'

  pub any-mem : (p : A → Bool) (xs : List A) {x : A} → x ∈ xs → T (p x) → T (any p xs)
  unfolding any
  any-mem p [] m t = elim m [ ]
  any-mem p (y ∷ ys) (Memᴰ.head q) t = T-or-l (p y) _ (rw q at t)
  any-mem p (y ∷ ys) (Memᴰ.tail m) t = T-or-r (p y) _ (any-mem p ys m t)

  pub any-find : (p : A → Bool) (xs : List A) → T (any p xs) → (x : A) × x ∈ xs × T (p x)
  unfolding any
  any-find p [] t = absurd t
  any-find p (y ∷ ys) t = go (T-or (p y) (any p ys) t) (any-find p ys)
    where
      go : T (p y) ⊎ T (any p ys) → (T (any p ys) → (x : A) × x ∈ ys × T (p x)) → (x : A) × x ∈ (y ∷ ys) × T (p x)
      go (inl u) ih = (y, Memᴰ.head refl, u)
      go (inr u) ih = let r = ih u in (r.0, Memᴰ.tail r.1, r.2)

  pub all-mem : (p : A → Bool) (xs : List A) → T (all p xs) → {x : A} → x ∈ xs → T (p x)
  unfolding all
  all-mem p [] t m = absurd (Memᴰ.not-nil m)
  all-mem p (y ∷ ys) t (Memᴰ.head q) = rw q (T-and-l (p y) _ t)
  all-mem p (y ∷ ys) t (Memᴰ.tail m) = all-mem p ys (T-and-r (p y) _ t) m

  pub mem-all : (p : A → Bool) (xs : List A) → ((x : A) → x ∈ xs → T (p x)) → T (all p xs)
  unfolding all
  mem-all p [] f = tt
  mem-all p (x ∷ xs) f =
      T_and (p x) (all p xs) (f x (Memᴰ.head refl)) (mem-all p xs (λ y m. f y (Memᴰ.tail m)))

  pub get_d-mem : (xs : List A) (i : ℕ) (d : A) → i < length xs → get_or xs i d ∈ xs
  get_d-mem [] i d h = absurd (not-suc-le-zero h)
  get_d-mem (x ∷ xs) zero d h = Memᴰ.head refl
  get_d-mem (x ∷ xs) (suc i) d h = Memᴰ.tail (get_d-mem xs i d (le_of_suc-le-suc h))

module _ {A B : Type 0} where
  pub mem-map : (f : A → B) {x : A} {xs : List A} → x ∈ xs → f x ∈ map f xs
  mem-map f (Memᴰ.head q) = Memᴰ.head (ap f q)
  mem-map f (Memᴰ.tail m) = Memᴰ.tail (mem-map f m)

  pub map-find : (f : A → B) (xs : List A) {y : B} → y ∈ map f xs → (x : A) × x ∈ xs × (y ≡ f x)
  map-find f [] m = absurd (Memᴰ.not-nil m)
  map-find f (x ∷ xs) (Memᴰ.head q) = (x, Memᴰ.head refl, q)
  map-find f (x ∷ xs) (Memᴰ.tail m) = let r = map-find f xs m in (r.0, Memᴰ.tail r.1, r.2)

  pub map-within : (f : A → B) (xs ys : List A) → ((x : A) → x ∈ xs → x ∈ ys) → (z : B) → z ∈ map f xs → z ∈ map f ys
  map-within f xs ys i z m = let r = map-find f xs m in Memᴰ.cast r.2 (mem-map f (i r.0 r.1))

  pub mem-flat : (f : A → List B) {x : A} {y : B} {xs : List A} → x ∈ xs → y ∈ f x → y ∈ flat_map f xs
  unfolding flat_map
  mem-flat f {xs = []} n m = elim n [ ]
  mem-flat f {x} {y} {xs = x' ∷ xs} (Memᴰ.head q) m =
      Memᴰ.append_left (flat_map f xs) (subst (λ (z : A). y ∈ f z) q m)
  mem-flat f {xs = x' ∷ xs} (Memᴰ.tail n) m = Memᴰ.append_right (f x') (mem-flat f n m)

  pub flat-find : (f : A → List B) (xs : List A) {y : B} → y ∈ flat_map f xs → (x : A) × x ∈ xs × y ∈ f x
  unfolding flat_map
  flat-find f [] m = absurd (Memᴰ.not-nil m)
  flat-find f (x ∷ xs) {y} m = go (Memᴰ.append_cases (f x) m) (flat-find f xs)
    where
      go : y ∈ f x ⊎ y ∈ flat_map f xs → (y ∈ flat_map f xs → (z : A) × z ∈ xs × y ∈ f z)
          → (z : A) × z ∈ (x ∷ xs) × y ∈ f z
      go (inl n) ih = (x, Memᴰ.head refl, n)
      go (inr n) ih = let r = ih n in (r.0, Memᴰ.tail r.1, r.2)

  pub first-find : (f : A → Option B) (xs : List A) (b : B) → first_hit f xs ≡ some b → (x : A) × x ∈ xs
      × (f x ≡ some b)
  unfolding first_hit or_else
  first-find f [] b e = absurd (none-some e)
    where
      none-some : Path (Option B) none (some b) → ⊥
      none-some q = let z : ◌≡◌ {A = ℕ} 0 1 = cc in omega arith
  first-find f (x ∷ xs) b e = go (f x) refl e (first-find f xs b)
    where
      go : (o : Option B) → f x ≡ o → or_else o (first_hit f xs) ≡ some b
          → (first_hit f xs ≡ some b → (z : A) × z ∈ xs × (f z ≡ some b)) → (z : A) × z ∈ (x ∷ xs) × (f z ≡ some b)
      go (some a) p q ih = (x, Memᴰ.head refl, p ∙ q)
      go none p q ih = let r = ih q in (r.0, Memᴰ.tail r.1, r.2)

  pub first-none : (f : A → Option B) (xs : List A) → first_hit f xs ≡ none → {x : A} → x ∈ xs → f x ≡ none
  unfolding first_hit or_else
  first-none f (y ∷ ys) e {x} m = go (f y) refl e (Memᴰ.cases_cons m) (λ q m'. first-none f ys q m')
    where
      go : (o : Option B) → f y ≡ o → or_else o (first_hit f ys) ≡ none → (x ≡ y) ⊎ x ∈ ys
          → (first_hit f ys ≡ none → x ∈ ys → f x ≡ none) → f x ≡ none
      go (some a) p q c ih = let z : ◌≡◌ {A = ℕ} 0 1 = cc in absurd (omega arith)
      go none p q (inl r) ih = rw r p
      go none p q (inr m') ih = ih q m'
  first-none f [] e m = absurd (Memᴰ.not-nil m)
