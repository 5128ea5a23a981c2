-- Laws of tables: a loop that stores their values one by one, and tables in maps, flat_maps and parts of lists.
use Rattle.std.specs.Prelude.{◌≡◌, ◌⊎◌, length, get_or, set, drop}
use Rattle.std.proofs.Math.Path.{refl, ap, ap₂, sym}
use Rattle.std.proofs.Common.{◌∙◌, inl, inr, not-suc-le-zero, eq-or-lt_of_le, le_of_suc-le-suc, length-drop, ext_get_or}
use Rattle.std.proofs.Common.{get_or-set_same, get_or-set_other, take-add, drop-drop, length-take-le, get_or-take}
use Rattle.std.proofs.Common.{get_or-drop}
use mathlib.Core.List.Memᴰ
use mathlib.Core.List.{List, [], ◌∷◌, ◌++◌, map, map-append}
use Rattle.std.proofs.Math.Logic.{⊎_elim}
use Prim.Native.Nat.{ℕ, zero, suc, ◌+◌, ◌*◌, ◌<◌, ◌≤◌}
use Rattle.std.proofs.Math.Nat.{mul-zero, mul-suc}
use Rattle.std.proofs.Math.Decide.{ℕ_discrete}
use Rattle.std.proofs.Math.Numerals.{add-one}
use native.Mathlib.Omega.{arith}
use Rattle.std.proofs.Math.ListN.{take, length-append, get_or-append}
use Rattle.std.proofs.lemmas.List.{get_or_at}
use Rattle.lists.specs.Lists.{◌∈◌, flat_map, range}
use Rattle.lists.specs.Table.{table}
use Rattle.lists.specs.Ranges.{range-more}
use Rattle.lists.specs.Flats.{flat-last}

module _ {A : Type 0} where
  pub length-table : (n : ℕ) (f : ℕ → A) → length (table n f) ≡ n
  unfolding table
  length-table zero f = refl
  length-table (suc n) f = omega (arith, length-append (table n f) (f n ∷ []), length-table n f)

  pub get_d-table : (n : ℕ) (f : ℕ → A) (i : ℕ) (d : A) → i < n → get_or (table n f) i d ≡ f i
  unfolding table
  get_d-table zero f i d h = absurd (not-suc-le-zero h)
  get_d-table (suc n) f i d h =
      ⊎_elim
      (λ (p : i ≡ n). rw p (get_or_at (table n f) (f n) [] d n (length-table n f)))
      (λ l.
      let k = length-table n f in
      get_or-append (table n f) (f n ∷ []) d i (omega arith) ∙ get_d-table n f i d l)
      (eq-or-lt_of_le (le_of_suc-le-suc h))

  pub table_more : (n : ℕ) (f : ℕ → A) → table (n + 1) f ≡ table n f ++ (f n ∷ [])
  unfolding table
  table_more n f = rw add-one

  pub table-cong : (n : ℕ) (f g : ℕ → A) → ((i : ℕ) → i < n → f i ≡ g i) → table n f ≡ table n g
  unfolding table
  table-cong zero f g h = refl
  table-cong (suc n) f g h = rw (table-cong n f g (λ i l. h i (omega arith)), h n (omega arith))

  -- a list with those values is the table
  pub table_is : (n : ℕ) (f : ℕ → A) (d : A) (l : List A) → length l ≡ n
      → ((i : ℕ) → i < n → get_or l i d ≡ f i) → l ≡ table n f
  table_is n f d l e h =
      ext_get_or d l (table n f) (e ∙ sym (length-table n f))
      (λ i k. h i (omega arith) ∙ sym (get_d-table n f i d (omega arith)))

  -- one more value is stored
  pub stored_more : (f : ℕ → A) (d v : A) (l : List A) (i : ℕ) → i < length l → v ≡ f i
      → ((j : ℕ) → j < i → get_or l j d ≡ f j) → (j : ℕ) → j < i + 1 → get_or (set l i v) j d ≡ f j
  stored_more f d v l i h e k j m = go (ℕ_discrete j i)
    where
      go : Dec (j ≡ i) → get_or (set l i v) j d ≡ f j
      go (yes p) = ap (λ t. get_or (set l i v) t d) p ∙ get_or-set_same l i v d h ∙ e ∙ ap f (sym p)
      go (no p) = get_or-set_other l i j v d p ∙ k j (omega arith)

  -- every element of a table is one of its entries
  pub table-find : (n : ℕ) (f : ℕ → A) {a : A} → a ∈ table n f → (i : ℕ) × (i < n) × (a ≡ f i)
  unfolding table
  table-find zero f m = absurd (Memᴰ.not-nil m)
  table-find (suc n) f {a} m = go (Memᴰ.append_cases (table n f) m) (table-find n f)
    where
      go : a ∈ table n f ⊎ a ∈ (f n ∷ []) → (a ∈ table n f → (i : ℕ) × (i < n) × (a ≡ f i))
          → (i : ℕ) × (i < suc n) × (a ≡ f i)
      go (inl k) ih = let r = ih k in let l = r.1 in (r.0, omega arith, r.2)
      go (inr k) ih = (n, omega arith, Memᴰ.eq_of_singleton k)

  pub map_range : (f : ℕ → A) (n : ℕ) → map f (range n) ≡ table n f
  unfolding table
  map_range f zero = refl
  map_range f (suc n) =
      ap (map f) (range-more n) ∙ (map-append f (range n) (n ∷ []) ∙ ap (λ l. l ++ (f n ∷ [])) (map_range f n))

  -- the table of what stands in a part of s
  pub table-part : (a n : ℕ) (d : A) (s : List A) → a + n ≤ length s
      → table n (λ i. get_or s (a + i) d) ≡ take n (drop a s)
  table-part a n d s h =
      let l = length-drop a s in
      sym
      (table_is n (λ i. get_or s (a + i) d) d (take n (drop a s)) (length-take-le n (drop a s) (omega arith))
      (λ i k. get_or-take n (drop a s) i d k ∙ get_or-drop a s i d))

module _ {A B : Type 0} where
  pub map-table : (f : A → B) (n : ℕ) (F : ℕ → A) → map f (table n F) ≡ table n (λ i. f (F i))
  unfolding table
  map-table f zero F = refl
  map-table f (suc n) F = map-append f (table n F) (F n ∷ []) ∙ ap (λ l. l ++ (f (F n) ∷ [])) (map-table f n F)

  pub flat-table : (f : A → List B) (n : ℕ) (F : ℕ → A) → flat_map f (table (n + 1) F) ≡ flat_map f (table n F)
      ++ f (F n)
  flat-table f n F = ap (flat_map f) (table_more n F) ∙ flat-last f (table n F) (F n)

  -- the lists of a table in a row are a part of s, where each of them is one
  pub flat-part : (f : A → List B) (k a n : ℕ) (g : ℕ → A) (s : List B)
      → ((i : ℕ) → i < n → f (g i) ≡ take k (drop (a + k * i) s)) → flat_map f (table n g) ≡ take (k * n) (drop a s)
  unfolding table flat_map
  flat-part f k a zero g s h = let e : k * 0 ≡ 0 = mul-zero k in sym (ap (λ n. take n (drop a s)) e)
  flat-part f k a (suc n) g s h =
      let e : k * suc n ≡ k * n + k = mul-suc k n in
      flat-last f (table n g) (g n)
      ∙ ap₂ (λ (x y : List B). x ++ y) (flat-part f k a n g s (λ i l. h i (omega arith)))
      (h n (omega arith) ∙ ap (λ (x : List B). take k x) (sym (drop-drop (k * n) a s)))
      ∙ sym (take-add (k * n) k (drop a s))
      ∙ ap (λ j. take j (drop a s)) (sym e)
