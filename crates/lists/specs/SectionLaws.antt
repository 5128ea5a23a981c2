-- Laws of sections: a place of a section, a section after a store, a section that was left alone.
use Rattle.std.specs.Prelude.{◌≡◌, refl, ℕ, ◌+◌, ◌-◌, ◌<◌, ◌≤◌, length, take, drop, set}
use Rattle.std.proofs.Math.Path.{sym, ap}
use Rattle.std.proofs.Common.{◌∙◌, length-set, drop-set-lt, drop-drop}
use mathlib.Core.List.{List}
use native.Mathlib.Omega.{arith}
use Rattle.std.proofs.Math.ListN.{get_or, length-take, length-drop, get_or-eq_default}
use Rattle.std.proofs.Math.Seq.{get_or-take, get_or-drop, take-set-le, take-set-lt, ext_get_or}
use Rattle.std.proofs.lemmas.List.{drop-set-add}
use Rattle.lists.specs.Sections.{section, Only}

module _ (a n : ℕ) (l : List ℕ) where
  pub section-at : (k : ℕ) → k < n → get_or l (a + k) 0 ≡ get_or (section a n l) k 0
  unfolding section
  section-at k h = rw (get_or-take n (drop a l) k 0 h, get_or-drop a l k 0)

  pub section-past : (k : ℕ) → n ≤ k → get_or (section a n l) k 0 ≡ 0
  unfolding section
  section-past k h = get_or-eq_default (take n (drop a l)) 0 {n = k} (simp (length-take, length-drop) (omega arith))

  pub section-length : a + n ≤ length l → length (section a n l) ≡ n
  unfolding section
  section-length h = simp (length-take, length-drop) (omega arith)

  -- a store within, before and past the section
  pub section-set : (k v : ℕ) → k < n → section a n (set l (a + k) v) ≡ set (section a n l) k v
  unfolding section
  section-set k v h = rw (drop-set-add a l k v, take-set-lt n (drop a l) k v h)

  pub section-low : (i v : ℕ) → i < a → section a n (set l i v) ≡ section a n l
  unfolding section
  section-low i v h = rw (drop-set-lt a l i v h)

  pub section-high : (i v : ℕ) → a + n ≤ i → section a n (set l i v) ≡ section a n l
  unfolding section
  section-high i v h =
      let e : i ≡ a + (i - a) = omega arith in
      rw e (rw (drop-set-add a l (i - a) v, take-set-le n (drop a l) (i - a) v (omega arith)))

-- the same of a section that starts at 0
module _ (n : ℕ) (l : List ℕ) where
  pub front_at : (k : ℕ) → k < n → get_or l k 0 ≡ get_or (section 0 n l) k 0
  unfolding section
  front_at k h = sym (get_or-take n l k 0 h)

  pub front-set : (k v : ℕ) → k < n → section 0 n (set l k v) ≡ set (section 0 n l) k v
  unfolding section
  front-set k v h = take-set-lt n l k v h

-- stores to a part alone
pub only_none : (a e : ℕ) (l : List ℕ) → Only a e l l
only_none a e l = record { long = refl; low = refl; high = refl }

module _ {a e : ℕ} {l m : List ℕ} (o : Only a e l m) where
  pub only_set : (i v : ℕ) → a ≤ i → i < e → Only a e l (set m i v)
  only_set i v h k = record {
    long = length-set m i v ∙ o.long;
    low = take-set-le a m i v h ∙ o.low;
    high = drop-set-lt e m i v k ∙ o.high;
  }

  pub only-before : (b n : ℕ) → b + n ≤ a → section b n m ≡ section b n l
  unfolding section
  only-before b n h =
      ext_get_or 0 _ _ (simp (length-take, length-drop, o.long))
      (λ i k.
      let j : i < n = omega (arith, length-take n (drop b m)) in
      rw (get_or-take n (drop b m) i 0 j, get_or-take n (drop b l) i 0 j, get_or-drop b m i 0, get_or-drop b l i 0)
      (sym (get_or-take a m (b + i) 0 (omega arith)) ∙ ap (λ (x : List ℕ). get_or x (b + i) 0) o.low
      ∙ get_or-take a l (b + i) 0 (omega arith)))

  only-drop : (b : ℕ) → e ≤ b → drop b m ≡ drop b l
  only-drop b h =
      let d : e + (b - e) ≡ b = omega arith in
      rw d at (sym (drop-drop (b - e) e m) ∙ ap (λ (x : List ℕ). drop (b - e) x) o.high ∙ drop-drop (b - e) e l)

  pub only-behind : (b n : ℕ) → e ≤ b → section b n m ≡ section b n l
  unfolding section
  only-behind b n h = rw (only-drop b h)

  pub only-past : (i : ℕ) → e ≤ i → get_or m i 0 ≡ get_or l i 0
  only-past i h =
      let d : e + (i - e) ≡ i = omega arith in
      rw d at (sym (get_or-drop e m (i - e) 0) ∙ ap (λ (x : List ℕ). get_or x (i - e) 0) o.high
      ∙ get_or-drop e l (i - e) 0)

pub only_then : {a e : ℕ} {l m k : List ℕ} → Only a e l m → Only a e m k → Only a e l k
only_then o p = record { long = p.long ∙ o.long; low = p.low ∙ o.low; high = p.high ∙ o.high }
