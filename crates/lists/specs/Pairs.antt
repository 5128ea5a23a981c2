-- Laws of lists without repeats: from a test of every pair, kept by an injective map or a filter, with one more at the
-- end, and of lists one after another.
--
--   pairwise r xs       each element passes the test r with every later one
use Rattle.std.specs.Prelude.{◌≡◌, refl, Bool, ◌&&◌, ◌⊎◌, T}
use Rattle.std.proofs.Common.{sym, subst, inl, inr}
use Rattle.std.proofs.Math.Bool.{true, false}
use mathlib.Core.List.Memᴰ
use mathlib.Core.List.{List, [], ◌∷◌, ◌++◌, map}
use Rattle.lists.specs.Lists.{◌∈◌, Distinct, all, keep_if, filter, flat_map}
use Rattle.lists.specs.Booleans.{T-and-l, T-and-r}
use Rattle.lists.specs.ListLaws.{all-mem, mem-map, map-find, flat-find, filter-mem}

module _ {A : Type 0} where
  unfoldable pub pairwise : (A → A → Bool) → List A → Bool
  pairwise r [] = true
  pairwise r (x ∷ xs) = all (r x) xs && pairwise r xs

  pub distinct-last : (xs : List A) (y : A) → Distinct xs → (y ∈ xs → ⊥) → Distinct (xs ++ (y ∷ []))
  distinct-last [] y d n = (λ m. Memᴰ.not-nil m, tt)
  distinct-last (x ∷ xs) y d n =
      (λ m. go (Memᴰ.append_cases xs m), distinct-last xs y d.1 (λ m. n (Memᴰ.tail m)))
    where
      go : x ∈ xs ⊎ x ∈ (y ∷ []) → ⊥
      go (inl m) = d.0 m
      go (inr m) = n (Memᴰ.head (sym (Memᴰ.eq_of_singleton m)))

  pub distinct_append : (xs ys : List A) → Distinct xs → Distinct ys → ((x : A) → x ∈ xs → x ∈ ys → ⊥)
      → Distinct (xs ++ ys)
  distinct_append [] ys d e n = e
  distinct_append (x ∷ xs) ys d e n =
      (λ m. go (Memᴰ.append_cases xs m), distinct_append xs ys d.1 e (λ y k. n y (Memᴰ.tail k)))
    where
      go : x ∈ xs ⊎ x ∈ ys → ⊥
      go (inl m) = d.0 m
      go (inr m) = n x (Memᴰ.head refl) m

module _ {A B : Type 0} where
  -- the lists of different elements have nothing in common
  pub distinct-flat : (f : A → List B) (xs : List A) → Distinct xs → ((x : A) → x ∈ xs → Distinct (f x))
      → ((x y : A) (b : B) → x ∈ xs → y ∈ xs → b ∈ f x → b ∈ f y → x ≡ y) → Distinct (flat_map f xs)
  unfolding flat_map
  distinct-flat f [] d e n = tt
  distinct-flat f (x ∷ xs) d e n =
      distinct_append (f x) (flat_map f xs) (e x (Memᴰ.head refl))
      (distinct-flat f xs d.1 (λ y m. e y (Memᴰ.tail m))
      (λ y z b p q. n y z b (Memᴰ.tail p) (Memᴰ.tail q)))
      (λ b p q.
      let r = flat-find f xs q in
      let same = n x r.0 b (Memᴰ.head refl) (Memᴰ.tail r.1) p r.2 in
      d.0 (subst (λ (y : A). y ∈ xs) (sym same) r.1))

  pub distinct-kept : (f : A → B) (p : A → Bool) (xs : List A) → Distinct (map f xs) → Distinct (map f (filter p xs))
  unfolding filter
  distinct-kept f p [] d = tt
  distinct-kept f p (x ∷ xs) d = go (p x) (distinct-kept f p xs d.1)
    where
      go : (b : Bool) → Distinct (map f (filter p xs)) → Distinct (map f (keep_if b x (filter p xs)))
      go false e = e
      go true e = (
        λ m.
            let r = map-find f (filter p xs) m in
            d.0 (subst (λ (y : B). y ∈ map f xs) (sym r.2) (mem-map f (filter-mem p xs r.1))),
        e,
      )

  -- f tells apart what passes the test
  pub distinct-pairwise : (f : A → B) (r : A → A → Bool) → ((x y : A) → T (r x y) → f x ≡ f y → ⊥) → (xs : List A)
      → T (pairwise r xs) → Distinct (map f xs)
  unfolding pairwise
  distinct-pairwise f r differ [] t = tt
  distinct-pairwise f r differ (x ∷ xs) t = (
    λ m.
        let y = map-find f xs m in
        differ x y.0 (all-mem (r x) xs (T-and-l (all (r x) xs) _ t) y.1) y.2,
    distinct-pairwise f r differ xs (T-and-r (all (r x) xs) _ t),
  )

  pub distinct-map : (f : A → B) → ((x y : A) → f x ≡ f y → x ≡ y) → (xs : List A) → Distinct xs → Distinct (map f xs)
  distinct-map f i [] d = tt
  distinct-map f i (x ∷ xs) d = (
    λ m. let r = map-find f xs m in d.0 (subst (λ (y : A). y ∈ xs) (i r.0 x (sym r.2)) r.1),
    distinct-map f i xs d.1,
  )
