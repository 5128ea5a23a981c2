-- Laws of once: a reason with each literal once.
--
--   once-mem, mem-once            the same literals: one is in `once r` exactly if it is in r
--   holds-once, contains-once     so `once r` holds where r does, and what contains it contains r
--   once-order                    in the order they first came: what is once in the first part stands first
--   once-borders                  no border is named twice, where the reason holds on one board
--   once-same                     a list that names no border twice is as it is
--   named-few                     and has at most n literals, where its borders are below n
--   once_by f r                   the literals of r whose border f does not have, the first of those with one border
--   by-border                     on one board, striking by border is striking by literal
use Rattle.std.specs.Prelude.{◌≡◌, ◌⊎◌, Bool, ◌&&◌, ◌||◌, ℕ, ◌<◌, ◌≤◌, T, length}
use Rattle.std.proofs.Common.{◌∙◌, subst, inl, inr, arith, eqb-true, ne_eqb, eqb→eq, T_not}
use Rattle.std.proofs.Math.Path.{refl, ap, sym}
use Rattle.std.proofs.Math.Bool.{true, false, not, cond}
use mathlib.Core.List.Memᴰ
use mathlib.Core.List.{[], ◌∷◌, ◌++◌}
use Rattle.std.proofs.Math.Dec.{eqb, eqb_refl}
use Rattle.std.proofs.lemmas.List.{length-map}
use Rattle.lists.specs.Lists.{◌∈◌, filter, any, keep_if, range, Distinct}
use Rattle.lists.specs.Booleans.{T-and-l, T-and-r, T-dec}
use Rattle.lists.specs.ListLaws.{filter-mem, filter-test, mem-filter, mem-map, map-find}
use Rattle.lists.specs.Appends.{filter-append}
use Rattle.lists.specs.Filters.{filter-all, filter_same, filter-twice}
use Rattle.lists.specs.Pairs.{distinct-kept}
use Rattle.lists.specs.Ranges.{mem-range, length-range}
use Rattle.lists.specs.Lengths.{subset-le}
use Rattle.rules.specs.declared.Side.{Side}
use Rattle.rules.specs.declared.Side.TheVariants.{Wall, Open}
use Rattle.rules.specs.declared.Literal.{Literal}
use Rattle.rules.specs.Page.{State, decided, Has, Contains}
use Rattle.rules.specs.Check.{Reason, borders_named, same_side, same_literal, once}

-- ---- equal literals
side-eq : (a b : Side) → T (same_side a b) → a ≡ b
side-eq Wall Wall t = refl
side-eq Wall Open t = absurd t
side-eq Open Wall t = absurd t
side-eq Open Open t = refl

side-refl : (a : Side) → same_side a a ≡ true
side-refl Wall = refl
side-refl Open = refl

same-eq : (l k : Literal) → T (same_literal l k) → l ≡ k
same-eq l k t = λ i. record {
  border = eqb→eq l.border k.border (T-and-l (eqb l.border k.border) (same_side l.side k.side) t) i;
  side = side-eq l.side k.side (T-and-r (eqb l.border k.border) (same_side l.side k.side) t) i;
}

-- on one board, literals of one border are equal
same-border : (s : ℕ → State) (l k : Literal) → Has s l → Has s k → same_literal l k ≡ eqb l.border k.border
same-border s l k p q = go (eqb l.border k.border) refl
  where
    go : (x : Bool) → eqb l.border k.border ≡ x → (x && same_side l.side k.side) ≡ x
    go false e = refl
    go true e =
        let z : decided l.side ≡ decided k.side = sym p ∙ ap s (eqb-true l.border k.border e) ∙ q in
        let u : l.side ≡ k.side = cc in
        ap (same_side l.side) (sym u) ∙ side-refl l.side

-- ---- the same literals
pub once-mem : (r : Reason) {k : Literal} → k ∈ once r → k ∈ r
unfolding once
once-mem [] m = elim m [ ]
once-mem (l ∷ r) (Memᴰ.head q) = Memᴰ.head q
once-mem (l ∷ r) (Memᴰ.tail m) =
    Memᴰ.tail (once-mem r (filter-mem (λ k. not (same_literal l k)) (once r) m))

pub mem-once : (r : Reason) {k : Literal} → k ∈ r → k ∈ once r
unfolding once
mem-once [] m = elim m [ ]
mem-once (l ∷ r) (Memᴰ.head q) = Memᴰ.head q
mem-once (l ∷ r) {k} (Memᴰ.tail m) = go (mem-once r m) (T-dec (same_literal l k))
  where
    go : k ∈ once r → T (same_literal l k) ⊎ T (not (same_literal l k))
        → k ∈ l ∷ filter (λ j. not (same_literal l j)) (once r)
    go n (inl t) = Memᴰ.head (sym (same-eq l k t))
    go n (inr t) = Memᴰ.tail (mem-filter (λ j. not (same_literal l j)) (once r) n t)

pub holds-once : (s : ℕ → State) (r : Reason) → Contains s r → Contains s (once r)
unfolding Contains
holds-once s r c l m = c l (once-mem r m)

pub contains-once : (s : ℕ → State) (r : Reason) → Contains s (once r) → Contains s r
unfolding Contains
contains-once s r c l m = c l (mem-once r m)

-- ---- the order
neither : (a b : Bool) → (not b && not a) ≡ not (a || b)
neither true true = refl
neither true false = refl
neither false true = refl
neither false false = refl

pub once-order : (r q : Reason)
    → once (r ++ q) ≡ once r ++ filter (λ k. not (any (λ (l : Literal). same_literal l k) r)) (once q)
unfolding once any
once-order [] q = sym (filter-all _ (once q) (λ k m. refl))
once-order (l ∷ r) q =
    let p : Literal → Bool = λ k. not (same_literal l k) in
    let n : Literal → Bool = λ k. not (any (λ (j : Literal). same_literal j k) r) in
    ap (λ (ls : Reason). l ∷ ls)
    (ap (filter p) (once-order r q)
    ∙ filter-append p (once r) (filter n (once q))
    ∙ ap (λ (ls : Reason). filter p (once r) ++ ls)
    (filter-twice p n (once q)
    ∙ filter_same _ _ (once q) (λ k m. neither (same_literal l k) (any (λ (j : Literal). same_literal j k) r))))

-- ---- no border twice
pub once-borders : (s : ℕ → State) (r : Reason) → Contains s r → Distinct (borders_named (once r))
unfolding once Contains
once-borders s [] c = tt
once-borders s (l ∷ r) c = (
  λ m.
      let p : Literal → Bool = λ k. not (same_literal l k) in
      let f = map-find (λ (k : Literal). k.border) (filter p (once r)) m in
      let h = c f.0 (Memᴰ.tail (once-mem r (filter-mem p (once r) f.1))) in
      T_not (same_literal l f.0) (filter-test p (once r) f.1)
      (rw (same-border s l f.0 (c l (Memᴰ.head refl)) h, ← f.2) (eqb_refl l.border)),
  distinct-kept (λ (k : Literal). k.border) _ (once r) (once-borders s r (λ k m. c k (Memᴰ.tail m))),
)

-- a list that names no border twice is as it is
pub once-same : (r : Reason) → Distinct (borders_named r) → once r ≡ r
unfolding once
once-same [] d = refl
once-same (l ∷ r) d =
    ap (λ (ls : Reason). l ∷ ls)
    (ap (filter (λ k. not (same_literal l k))) (once-same r d.1)
    ∙ filter-all _ r
    (λ k m.
    other k
    (λ e. d.0 (subst (λ b. b ∈ borders_named r) (sym e) (mem-map (λ (j : Literal). j.border) m)))))
  where
    other : (k : Literal) → (l.border ≡ k.border → ⊥) → not (same_literal l k) ≡ true
    other k n = rw (ne_eqb l.border k.border n)

-- and is no longer than there are borders
pub named-few : (n : ℕ) (r : Reason) → Distinct (borders_named r) → ((l : Literal) → l ∈ r → l.border < n)
    → length r ≤ n
named-few n r d below =
    let k = subset-le (borders_named r) (range n) d (λ b m. found b (map-find (λ (l : Literal). l.border) r m)) in
    omega (arith, length-map r (λ (l : Literal). l.border), length-range 0 n)
  where
    found : (b : ℕ) → (l : Literal) × l ∈ r × (b ≡ l.border) → b ∈ range n
    found b f = mem-range n (rw f.2 (below f.0 f.1))

-- ---- by border
unfoldable pub once_by : (ℕ → Bool) → Reason → Reason
once_by f [] = []
once_by f (l ∷ r) = cond (f l.border) (once_by f r) (l ∷ once_by (λ x. f x || eqb l.border x) r)

-- a border that f has is struck, and the later ones with it
skipped : (f : ℕ → Bool) (l : Literal) (r : Reason) → f l.border ≡ true
    → ((k : Literal) → k ∈ r → same_literal l k ≡ eqb l.border k.border)
    → filter (λ k. not (f k.border)) (filter (λ k. not (same_literal l k)) r) ≡ filter (λ k. not (f k.border)) r
skipped f l r q g =
    filter-twice (λ k. not (f k.border)) (λ k. not (same_literal l k)) r
    ∙ filter_same _ _ r
    (λ k m. ap (λ (t : Bool). not t && not (f k.border)) (g k m) ∙ go k (eqb l.border k.border) refl)
  where
    go : (k : Literal) (x : Bool) → eqb l.border k.border ≡ x
        → (not x && not (f k.border)) ≡ not (f k.border)
    go k false e = refl
    go k true e = ap not (sym q ∙ ap f (eqb-true l.border k.border e))

module _ (s : ℕ → State) where
  pub by-border : (f : ℕ → Bool) (r : Reason) → Contains s r → once_by f r ≡ filter (λ k. not (f k.border)) (once r)
  unfolding once_by once filter Contains
  by-border f [] c = refl
  by-border f (l ∷ r) c =
      let same : (k : Literal) → k ∈ once r → same_literal l k ≡ eqb l.border k.border =
      λ k m. same-border s l k (c l (Memᴰ.head refl)) (c k (Memᴰ.tail (once-mem r m))) in
      go same (f l.border) refl (by-border f r (λ k m. c k (Memᴰ.tail m)))
      (by-border (λ x. f x || eqb l.border x) r (λ k m. c k (Memᴰ.tail m)))
    where
      go : ((k : Literal) → k ∈ once r → same_literal l k ≡ eqb l.border k.border) → (x : Bool)
          → f l.border ≡ x → once_by f r ≡ filter (λ k. not (f k.border)) (once r)
          → once_by (λ x. f x || eqb l.border x) r
          ≡ filter (λ k. not (f k.border || eqb l.border k.border)) (once r)
          → cond x (once_by f r) (l ∷ once_by (λ x. f x || eqb l.border x) r)
          ≡ keep_if (not x) l (filter (λ k. not (f k.border)) (filter (λ k. not (same_literal l k)) (once r)))
      go g true q old new = old ∙ sym (skipped f l (once r) q g)
      go g false q old new =
          ap (λ (ls : Reason). l ∷ ls)
          (new
          ∙ filter_same _ _ (once r)
          (λ k m.
          sym (neither (f k.border) (eqb l.border k.border))
          ∙ ap (λ (t : Bool). not t && not (f k.border)) (sym (g k m)))
          ∙ sym (filter-twice (λ k. not (f k.border)) (λ k. not (same_literal l k)) (once r)))
