-- `sort`: its result is sorted, has the same places, and does not depend on the order in which they are given.
--
--   Ascending ps        each place stands before all later ones
--   insert-mem, mem-insert, sort-mem, mem-sort  the places of an insert and of a sort
--   length-sort         how many there are
--   sort-ascends, sort-ascending  a sort ascends, and what ascends is its own sort
--   ascending-distinct  no place stands there twice
--   ascending-count, ascending-same  two such lists with the same places are one
--   sort-map-sort       a sort before a map and a sort changes nothing
--   mem-shift, shift-find, length_shift  the places of a shifted list
--   shift-ascends, sort-shift  what ascends does so when shifted; a shift before or after a sort
use Rattle.std.specs.Prelude.{◌≡◌, refl, ◌⊎◌, Bool, true, false, not, cond, List, [], ◌∷◌, map, suc, ◌≤◌, T, length}
use Rattle.std.proofs.Common.{sym, ap, ap₂, ◌∙◌, subst, inl, inr, arith, T_not}
use mathlib.Core.List.Memᴰ
use Rattle.std.proofs.lemmas.List.{length-map}
use Rattle.lists.specs.Lists.{◌∈◌, Distinct}
use Rattle.lists.specs.ListLaws.{mem-map, map-find}
use Rattle.lists.specs.Booleans.{T-dec, T_true, T_false}
use Rattle.rules.specs.Page.{Point, ◌⊕◌}
use Rattle.rules.specs.Shapes.{before, insert, sort, shift_by}
use Rattle.laws.specs.OrderLaws.{before-irrefl, before-trans, before-total, before-shift}

abbrev pub Ascending : List Point → Type 0
Ascending [] = Unit {0}
Ascending (p ∷ ps) = ((q : Point) → q ∈ ps → T (before p q)) × Ascending ps

-- two that are not in order are one
pub never_both : (p q : Point) → T (before p q) → T (before q p) → ⊥
never_both p q s t = before-irrefl p (before-trans p q p s t)

-- members of an insert, and of a sort
pub insert-mem : (p : Point) (qs : List Point) {x : Point} → x ∈ insert p qs → (x ≡ p) ⊎ x ∈ qs
unfolding insert
insert-mem p [] m = Memᴰ.cases_cons m
insert-mem p (q ∷ qs) {x} m = go (before p q) m (λ n. insert-mem p qs n)
  where
    go : (b : Bool) → x ∈ cond b (p ∷ q ∷ qs) (q ∷ insert p qs) → (x ∈ insert p qs → (x ≡ p) ⊎ x ∈ qs)
        → (x ≡ p) ⊎ x ∈ (q ∷ qs)
    go true n ih = Memᴰ.cases_cons n
    go false (Memᴰ.head e) ih = inr (Memᴰ.head e)
    go false (Memᴰ.tail n) ih = down (ih n)
      where
        down : (x ≡ p) ⊎ x ∈ qs → (x ≡ p) ⊎ x ∈ (q ∷ qs)
        down (inl e) = inl e
        down (inr k) = inr (Memᴰ.tail k)

pub mem-insert : (p : Point) (qs : List Point) {x : Point} → (x ≡ p) ⊎ x ∈ qs → x ∈ insert p qs
unfolding insert
mem-insert p [] (inl e) = Memᴰ.head e
mem-insert p [] (inr m) = absurd (Memᴰ.not-nil m)
mem-insert p (q ∷ qs) {x} m = go (before p q) m (λ n. mem-insert p qs n)
  where
    go : (b : Bool) → (x ≡ p) ⊎ x ∈ (q ∷ qs) → ((x ≡ p) ⊎ x ∈ qs → x ∈ insert p qs)
        → x ∈ cond b (p ∷ q ∷ qs) (q ∷ insert p qs)
    go true (inl e) ih = Memᴰ.head e
    go true (inr n) ih = Memᴰ.tail n
    go false (inl e) ih = Memᴰ.tail (ih (inl e))
    go false (inr (Memᴰ.head e)) ih = Memᴰ.head e
    go false (inr (Memᴰ.tail n)) ih = Memᴰ.tail (ih (inr n))

pub mem-sort : (ps : List Point) {x : Point} → x ∈ ps → x ∈ sort ps
unfolding sort
mem-sort [] m = elim m [ ]
mem-sort (p ∷ ps) (Memᴰ.head e) = mem-insert p (sort ps) (inl e)
mem-sort (p ∷ ps) (Memᴰ.tail m) = mem-insert p (sort ps) (inr (mem-sort ps m))

pub sort-mem : (ps : List Point) {x : Point} → x ∈ sort ps → x ∈ ps
unfolding sort
sort-mem [] m = m
sort-mem (p ∷ ps) {x} m = go (insert-mem p (sort ps) m) (λ n. sort-mem ps n)
  where
    go : (x ≡ p) ⊎ x ∈ sort ps → (x ∈ sort ps → x ∈ ps) → x ∈ (p ∷ ps)
    go (inl e) ih = Memᴰ.head e
    go (inr n) ih = Memᴰ.tail (ih n)

length-insert : (p : Point) (qs : List Point) → length (insert p qs) ≡ suc (length qs)
unfolding insert
length-insert p [] = refl
length-insert p (q ∷ qs) = go (before p q) (length-insert p qs)
  where
    go : (b : Bool) → length (insert p qs) ≡ suc (length qs)
        → length (cond b (p ∷ q ∷ qs) (q ∷ insert p qs)) ≡ suc (suc (length qs))
    go true ih = refl
    go false ih = ap suc ih

pub length-sort : (ps : List Point) → length (sort ps) ≡ length ps
unfolding sort
length-sort [] = refl
length-sort (p ∷ ps) = length-insert p (sort ps) ∙ ap suc (length-sort ps)

-- a sort is sorted
insert-ascends : (p : Point) (qs : List Point) → (p ∈ qs → ⊥) → Ascending qs → Ascending (insert p qs)
unfolding insert
insert-ascends p [] d s = (λ q m. absurd (Memᴰ.not-nil m), tt)
insert-ascends p (q ∷ qs) d s =
    go (before p q) refl (T-dec (before q p)) (insert-ascends p qs (λ m. d (Memᴰ.tail m)) s.1)
  where
    go : (b : Bool) → before p q ≡ b → T (before q p) ⊎ T (not (before q p)) → Ascending (insert p qs)
        → Ascending (cond b (p ∷ q ∷ qs) (q ∷ insert p qs))
    go true e c ih = (first, s)
      where
        pq : T (before p q)
        pq = rw e tt

        first : (x : Point) → x ∈ (q ∷ qs) → T (before p x)
        first x (Memᴰ.head k) = rw k pq
        first x (Memᴰ.tail m) = before-trans p q x pq (s.0 x m)
    go false e (inl t) ih = (λ x m. after x (insert-mem p qs m), ih)
      where
        after : (x : Point) → (x ≡ p) ⊎ x ∈ qs → T (before q x)
        after x (inl k) = rw k t
        after x (inr m) = s.0 x m
    go false e (inr t) ih = absurd (d (Memᴰ.head (before-total p q (rw e tt) t)))

pub sort-ascends : (ps : List Point) → Distinct ps → Ascending (sort ps)
unfolding sort
sort-ascends [] d = tt
sort-ascends (p ∷ ps) d = insert-ascends p (sort ps) (λ m. d.0 (sort-mem ps m)) (sort-ascends ps d.1)

-- a sorted list is its own sort
insert-first : (p : Point) (qs : List Point) → ((q : Point) → q ∈ qs → T (before p q)) → insert p qs ≡ p ∷ qs
unfolding insert
insert-first p [] f = refl
insert-first p (q ∷ qs) f = rw (T_true (before p q) (f q (Memᴰ.head refl)))

pub sort-ascending : (ps : List Point) → Ascending ps → sort ps ≡ ps
unfolding sort
sort-ascending [] s = refl
sort-ascending (p ∷ ps) s = ap (insert p) (sort-ascending ps s.1) ∙ insert-first p ps s.0

pub ascending-distinct : (ps : List Point) → Ascending ps → Distinct ps
ascending-distinct [] s = tt
ascending-distinct (p ∷ ps) s = (λ m. before-irrefl p (s.0 p m), ascending-distinct ps s.1)

-- the first places of two sorted lists, one within the other
within-tail : (x y : Point) (xs ys : List Point) → Ascending (x ∷ xs) → Ascending (y ∷ ys) → x ∈ ys
    → ((z : Point) → z ∈ (x ∷ xs) → z ∈ (y ∷ ys)) → (z : Point) → z ∈ (x ∷ xs) → z ∈ ys
within-tail x y xs ys s t m f z n = go (Memᴰ.cases_cons (f z n))
  where
    yx : T (before y x)
    yx = t.0 x m

    yz : z ∈ (x ∷ xs) → T (before y z)
    yz (Memᴰ.head e) = rw e yx
    yz (Memᴰ.tail k) = before-trans y x z yx (s.0 z k)

    go : (z ≡ y) ⊎ z ∈ ys → z ∈ ys
    go (inl e) = absurd (before-irrefl y (subst (λ (u : Point). T (before y u)) e (yz n)))
    go (inr k) = k

tail_within : (x y : Point) (xs ys : List Point) → x ≡ y → Ascending (x ∷ xs)
    → ((z : Point) → z ∈ (x ∷ xs) → z ∈ (y ∷ ys)) → (z : Point) → z ∈ xs → z ∈ ys
tail_within x y xs ys e s f z n = go (Memᴰ.cases_cons (f z (Memᴰ.tail n)))
  where
    go : (z ≡ y) ⊎ z ∈ ys → z ∈ ys
    go (inl k) = absurd (before-irrefl x (subst (λ (u : Point). T (before x u)) (k ∙ sym e) (s.0 z n)))
    go (inr k) = k

ascending-le : (xs ys : List Point) → Ascending xs → Ascending ys → ((z : Point) → z ∈ xs → z ∈ ys)
    → length xs ≤ length ys
ascending-le [] ys s t f = omega arith
ascending-le (x ∷ xs) [] s t f = absurd (Memᴰ.not-nil (f x (Memᴰ.head refl)))
ascending-le (x ∷ xs) (y ∷ ys) s t f =
    go (Memᴰ.cases_cons (f x (Memᴰ.head refl))) (λ g. ascending-le xs ys s.1 t.1 g)
    (λ g. ascending-le (x ∷ xs) ys s t.1 g)
  where
    go : (x ≡ y) ⊎ x ∈ ys → (((z : Point) → z ∈ xs → z ∈ ys) → length xs ≤ length ys)
        → (((z : Point) → z ∈ (x ∷ xs) → z ∈ ys) → length (x ∷ xs) ≤ length ys) → length (x ∷ xs) ≤ length (y ∷ ys)
    go (inl e) a b = let r = a (tail_within x y xs ys e s f) in omega arith
    go (inr m) a b = let r = b (within-tail x y xs ys s t m f) in omega arith

-- a sorted list within another, with as many places, is that one
pub ascending-count : (xs ys : List Point) → Ascending xs → Ascending ys → ((z : Point) → z ∈ xs → z ∈ ys)
    → length xs ≡ length ys → xs ≡ ys
ascending-count [] [] s t f e = refl
ascending-count [] (y ∷ ys) s t f e = absurd (omega arith)
ascending-count (x ∷ xs) [] s t f e = absurd (Memᴰ.not-nil (f x (Memᴰ.head refl)))
ascending-count (x ∷ xs) (y ∷ ys) s t f e =
    go (Memᴰ.cases_cons (f x (Memᴰ.head refl))) (λ g. ascending-count xs ys s.1 t.1 g (omega arith))
  where
    go : (x ≡ y) ⊎ x ∈ ys → (((z : Point) → z ∈ xs → z ∈ ys) → xs ≡ ys) → x ∷ xs ≡ y ∷ ys
    go (inl k) a = ap₂ (λ u us. u ∷ us) k (a (tail_within x y xs ys k s f))
    go (inr m) a =
        let r = ascending-le (x ∷ xs) ys s t.1 (within-tail x y xs ys s t m f) in absurd (omega arith)

-- two sorted lists with the same places are one
pub ascending-same : (xs ys : List Point) → Ascending xs → Ascending ys → ((z : Point) → z ∈ xs → z ∈ ys)
    → ((z : Point) → z ∈ ys → z ∈ xs) → xs ≡ ys
ascending-same xs ys s t f g =
    let a = ascending-le xs ys s t f in
    let b = ascending-le ys xs t s g in
    ascending-count xs ys s t f (omega arith)

-- the order in which places are given does not matter
pub insert_comm : (p q : Point) (rs : List Point) → insert p (insert q rs) ≡ insert q (insert p rs)
unfolding insert
insert_comm p q [] = go (before p q) refl (before q p) refl
  where
    go : (a : Bool) → before p q ≡ a → (b : Bool) → before q p ≡ b
        → cond a (p ∷ q ∷ []) (q ∷ p ∷ []) ≡ cond b (q ∷ p ∷ []) (p ∷ q ∷ [])
    go true d true e = absurd (never_both p q (rw d tt) (rw e tt))
    go true d false e = refl
    go false d true e = refl
    go false d false e = let k = before-total p q (rw d tt) (rw e tt) in ap₂ (λ x y. x ∷ y ∷ []) (sym k) k
insert_comm p q (r ∷ rs) = go (before p r) refl (before q r) refl (insert_comm p q rs)
  where
    both : (a : Bool) → before p q ≡ a → (b : Bool) → before q p ≡ b
        → cond a (p ∷ q ∷ r ∷ rs) (q ∷ p ∷ r ∷ rs) ≡ cond b (q ∷ p ∷ r ∷ rs) (p ∷ q ∷ r ∷ rs)
    both true d true e = absurd (never_both p q (rw d tt) (rw e tt))
    both true d false e = refl
    both false d true e = refl
    both false d false e = let k = before-total p q (rw d tt) (rw e tt) in ap₂ (λ x y. x ∷ y ∷ r ∷ rs) (sym k) k

    later : (u v : Point) → T (before u r) → T (not (before v r)) → before v u ≡ false
    later u v s t = go (T-dec (before v u))
      where
        go : T (before v u) ⊎ T (not (before v u)) → before v u ≡ false
        go (inl k) = absurd (T_not (before v r) t (before-trans v u r k s))
        go (inr k) = T_false (before v u) k

    go : (a : Bool) → before p r ≡ a → (b : Bool) → before q r ≡ b → insert p (insert q rs) ≡ insert q (insert p rs)
        → insert p (cond b (q ∷ r ∷ rs) (r ∷ insert q rs)) ≡ insert q (cond a (p ∷ r ∷ rs) (r ∷ insert p rs))
    go true d true e ih = rw (d, e) (both (before p q) refl (before q p) refl)
    go true d false e ih = rw (d, later p q (rw d tt) (rw e tt), e)
    go false d true e ih = rw (later q p (rw e tt) (rw d tt), d, e)
    go false d false e ih = rw (d, e) (ap (λ x. r ∷ x) ih)

sort-map-insert : (g : Point → Point) (p : Point) (qs : List Point)
    → sort (map g (insert p qs)) ≡ insert (g p) (sort (map g qs))
unfolding insert sort
sort-map-insert g p [] = refl
sort-map-insert g p (q ∷ qs) = go (before p q) (sort-map-insert g p qs)
  where
    go : (b : Bool) → sort (map g (insert p qs)) ≡ insert (g p) (sort (map g qs))
        → sort (map g (cond b (p ∷ q ∷ qs) (q ∷ insert p qs))) ≡ insert (g p) (insert (g q) (sort (map g qs)))
    go true ih = refl
    go false ih = ap (insert (g q)) ih ∙ insert_comm (g q) (g p) (sort (map g qs))

pub sort-map-sort : (g : Point → Point) (ps : List Point) → sort (map g (sort ps)) ≡ sort (map g ps)
unfolding sort
sort-map-sort g [] = refl
sort-map-sort g (p ∷ ps) = sort-map-insert g p (sort ps) ∙ ap (insert (g p)) (sort-map-sort g ps)

-- a shift of all places
pub mem-shift : (v : Point) {ps : List Point} {p : Point} → p ∈ ps → (p ⊕ v) ∈ shift_by v ps
unfolding shift_by
mem-shift v m = mem-map (λ q. q ⊕ v) m

pub shift-find : (v : Point) (ps : List Point) {q : Point} → q ∈ shift_by v ps → (p : Point) × p ∈ ps × (q ≡ p ⊕ v)
unfolding shift_by
shift-find v ps m = map-find (λ q. q ⊕ v) ps m

pub length_shift : (v : Point) (ps : List Point) → length (shift_by v ps) ≡ length ps
unfolding shift_by
length_shift v ps = length-map ps (λ q. q ⊕ v)

-- a shift before or after
insert-shift : (v p : Point) (qs : List Point) → insert (p ⊕ v) (shift_by v qs) ≡ shift_by v (insert p qs)
unfolding insert shift_by
insert-shift v p [] = refl
insert-shift v p (q ∷ qs) = rw (before-shift p q v) (go (before p q) (insert-shift v p qs))
  where
    go : (b : Bool) → insert (p ⊕ v) (shift_by v qs) ≡ shift_by v (insert p qs)
        → cond b ((p ⊕ v) ∷ (q ⊕ v) ∷ shift_by v qs) ((q ⊕ v) ∷ insert (p ⊕ v) (shift_by v qs))
        ≡ shift_by v (cond b (p ∷ q ∷ qs) (q ∷ insert p qs))
    go true ih = refl
    go false ih = ap (λ x. (q ⊕ v) ∷ x) ih

pub shift-ascends : (v : Point) (ps : List Point) → Ascending ps → Ascending (shift_by v ps)
unfolding shift_by
shift-ascends v [] s = tt
shift-ascends v (p ∷ ps) s = (later, shift-ascends v ps s.1)
  where
    later : (q : Point) → q ∈ shift_by v ps → T (before (p ⊕ v) q)
    later q m =
        let r = shift-find v ps m in
        subst (λ (z : Point). T (before (p ⊕ v) z)) (sym r.2) (rw (before-shift p r.0 v) (s.0 r.0 r.1))

pub sort-shift : (v : Point) (ps : List Point) → sort (shift_by v ps) ≡ shift_by v (sort ps)
unfolding sort shift_by
sort-shift v [] = refl
sort-shift v (p ∷ ps) = ap (insert (p ⊕ v)) (sort-shift v ps) ∙ insert-shift v p (sort ps)
