-- No two listed transforms of a sorted shape have the same cells. All of it goes by the cells c a of the shape turned
-- by a row a: two listed rows with the same cells would, turned back by one of them, make a row that a test of the list
-- has told apart from the shape itself.
--
--   apart bad a b       turned back by a, the row b is one of bad
--   Listing t           what is listed of a shape
use Rattle.std.proofs.Math.Path.{◌≡◌, refl, sym, ap, ap₂, subst}
use Rattle.std.proofs.Common.{◌∙◌, inl, inr, arith}
use Rattle.std.specs.Prelude.{Bool, ◌&&◌, cond, ◌⊎◌, ℕ}
use Rattle.std.proofs.Math.Bool.{true, false, xor}
use mathlib.Core.List.Memᴰ
use mathlib.Core.List.{List, [], ◌∷◌, ◌++◌, map, map-append}
use Rattle.std.proofs.Math.Dec.{T}
use Rattle.lists.specs.Lists.{◌∈◌, Distinct, any, all}
use Rattle.lists.specs.ListLaws.{any-find, any-mem, all-mem, mem-map, map-find}
use Rattle.lists.specs.Pairs.{pairwise, distinct-pairwise}
use Rattle.lists.specs.Booleans.{T-and-l, T-and-r}
use Rattle.rules.specs.Page.{Point, ◌⊕◌, opposite, Shape}
use Rattle.rules.specs.Turns.{Turn, apply, compose, keep, half, quarter, half_quarter, flip, flat_table}
use Rattle.rules.specs.Shapes.{same_points, same_shape, turned, with_half, quarters, with_quarter, with_flip}
use Rattle.rules.specs.Shapes.{flat_transforms}
use Rattle.laws.specs.PointLaws.{add_assoc, add_back}
use Rattle.laws.specs.SameLaws.{same_points-refl}
use Rattle.laws.specs.ShapeLaws.{turned_by, Canonical, canonical-same, turned-canonical, turned-cells}
use Rattle.laws.specs.TurnLaws.{same_turn, same_turn→eq, has_turn, has-turn}
use Rattle.laws.proofs.TableRules.{table-rules}
use Rattle.laws.specs.FlatList.{Onto, image-onto, image-then, image-keep, flat-turns, rotations, reflections}
use Rattle.laws.specs.FlatList.{rotations-listed, flat-are, flat-cover}

-- the places ps turned by one row, in two sorted lists
same-onto : (a : Turn) (ps qs rs : List Point) → Onto a ps qs → Onto a ps rs → Canonical qs → Canonical rs → qs ≡ rs
same-onto a ps qs rs M N Q R =
    canonical-same (opposite M.shift ⊕ N.shift) qs rs Q R
    (λ q m.
    let r = M.moved.back q m in
    subst (λ (z : Point). z ∈ rs) (sym (ap (λ z. z ⊕ (opposite M.shift ⊕ N.shift)) r.2 ∙ over (apply a r.0)))
    (N.moved.there r.0 r.1))
    (λ q m.
    let r = N.moved.back q m in
    (apply a r.0 ⊕ M.shift, M.moved.there r.0 r.1, r.2 ∙ sym (over (apply a r.0))))
  where
    over : (p : Point) → (p ⊕ M.shift) ⊕ (opposite M.shift ⊕ N.shift) ≡ p ⊕ N.shift
    over p =
        sym (add_assoc (p ⊕ M.shift) (opposite M.shift) N.shift)
        ∙ ap (λ z. z ⊕ N.shift) (add_back p M.shift)

abbrev apart : List Turn → Turn → Turn → Bool
apart bad a b =
    has_turn a flat_table && has_turn b flat_table
    && any (λ i. same_turn (compose i a) keep && has_turn (compose i b) bad) flat_table

module _ (t : Shape) (C : Canonical t.cells) where
  abbrev c : Turn → List Point
  c a = (turned (apply a) t).cells

  canonical : (a : Turn) → a ∈ flat_table → (u : Shape) → Canonical u.cells → Canonical (turned (apply a) u).cells
  canonical a m u U = turned-canonical (apply a) (flat-turns.inj (apply a) (mem-map apply m)) u U

  -- a listed shape has the cells of its row
  is_c : (a : Turn) → a ∈ flat_table → (u : Shape) → Onto a t.cells u.cells → Canonical u.cells → u.cells ≡ c a
  is_c a m u I U =
      same-onto a t.cells u.cells (c a) I
      (image-onto a t (turned (apply a) t) (turned_by (apply a) t C.based)) U (canonical a m t C)

  c-keep : t.cells ≡ c keep
  c-keep = is_c keep (Memᴰ.head refl) t (image-onto keep t t (image-keep t C.based)) C

  -- turned once more
  c-then : (x a : Turn) → x ∈ flat_table → a ∈ flat_table
      → (turned (apply x) (turned (apply a) t)).cells ≡ c (compose x a)
  c-then x a m n =
      let A = canonical a n t C in
      let u = turned (apply a) t in
      let v = turned (apply x) u in
      is_c (compose x a) (table-rules.closed x a m n) v
      (image-onto (compose x a) t v (image-then a x t u v (turned_by (apply a) t C.based)
      (turned_by (apply x) u A.based)))
      (canonical x m u A)

  c-turn : (x a b : Turn) → x ∈ flat_table → a ∈ flat_table → b ∈ flat_table → c a ≡ c b
      → c (compose x a) ≡ c (compose x b)
  c-turn x a b m n o e =
      sym (c-then x a m n)
      ∙ (turned-cells (apply x) (turned (apply a) t) (turned (apply b) t) e ∙ c-then x b m o)

  -- rows that pairwise lead back to one of bad have different cells
  once : (bad rows : List Turn) → ((r : Turn) → r ∈ bad → c keep ≡ c r → ⊥) → T (pairwise (apart bad) rows)
      → Distinct (map c rows)
  once bad rows differ s = distinct-pairwise c (apart bad) tell rows s
    where
      tell : (a b : Turn) → T (apart bad a b) → c a ≡ c b → ⊥
      tell a b t e =
          let u = T-and-l (has_turn a flat_table && has_turn b flat_table) _ t in
          let i = any-find (λ i. same_turn (compose i a) keep && has_turn (compose i b) bad) flat_table
          (T-and-r (has_turn a flat_table && has_turn b flat_table) _ t) in
          let f = c-turn i.0 a b i.1 (has-turn a flat_table (T-and-l (has_turn a flat_table) _ u))
          (has-turn b flat_table (T-and-r (has_turn a flat_table) _ u)) e in
          let k = same_turn→eq (compose i.0 a) keep (T-and-l (same_turn (compose i.0 a) keep) _ i.2) in
          differ (compose i.0 b) (has-turn _ bad (T-and-r (same_turn (compose i.0 a) keep) _ i.2))
          (ap c (sym k) ∙ f)

  -- the listed shapes by their rows, and the rows that are told apart from the shape itself
  record OnceTold (us : List Shape) : Type 0 where
    rows : List Turn
    bad : List Turn
    are : map (λ u. u.cells) us ≡ map c rows
    differ : (r : Turn) → r ∈ bad → c keep ≡ c r → ⊥
    plain : T (pairwise (apart bad) rows)
    flipped : T (pairwise (apart (bad ++ reflections)) (rows ++ map (compose flip) rows))
    listed : T (all (λ r. has_turn r flat_table) rows)

  -- a failed test tells apart
  failed : (a : Turn) → same_shape t (turned (apply a) t) ≡ false → c keep ≡ c a → ⊥
  failed a f e =
      subst T f (subst (λ (ps : List Point). T (same_points t.cells ps)) (c-keep ∙ e) (same_points-refl t.cells))

  c-hq : (turned (apply half) (turned (apply quarter) t)).cells ≡ c half_quarter
  unfolding xor any
  c-hq = c-then half quarter (has-turn half flat_table tt) (has-turn quarter flat_table tt)

  abbrev h : Shape
  h = turned (apply half) t

  abbrev q : Shape
  q = turned (apply quarter) t

  half-only : same_shape t h ≡ false → (r : Turn) → r ∈ (half ∷ []) → c keep ≡ c r → ⊥
  half-only e r (Memᴰ.head m) g = failed half e (g ∙ ap c m)
  half-only e r (Memᴰ.tail m) g = Memᴰ.not-nil m

  quarter-only : same_shape t q ≡ false → (r : Turn) → r ∈ (quarter ∷ []) → c keep ≡ c r → ⊥
  quarter-only e r (Memᴰ.head m) g = failed quarter e (g ∙ ap c m)
  quarter-only e r (Memᴰ.tail m) g = Memᴰ.not-nil m

  -- twice the half turn after the quarter turn is the half turn
  not-hq : same_shape t h ≡ false → c keep ≡ c half_quarter → ⊥
  unfolding xor any
  not-hq e g =
      let m = has-turn half_quarter flat_table tt in
      failed half e (g ∙ c-turn half_quarter keep half_quarter m (Memᴰ.head refl) m g)

  all_three : same_shape t h ≡ false → same_shape t q ≡ false → (r : Turn) → r ∈ (half ∷ half_quarter ∷ quarter ∷ [])
      → c keep ≡ c r → ⊥
  all_three e f r (Memᴰ.head m) g = failed half e (g ∙ ap c m)
  all_three e f r (Memᴰ.tail (Memᴰ.head m)) g = not-hq e (g ∙ ap c m)
  all_three e f r (Memᴰ.tail (Memᴰ.tail (Memᴰ.head m))) g = failed quarter f (g ∙ ap c m)
  all_three e f r (Memᴰ.tail (Memᴰ.tail (Memᴰ.tail m))) g = Memᴰ.not-nil m

  told : OnceTold (with_quarter t (with_half t))
  unfolding with_half with_quarter quarters all any pairwise xor
  told = go (same_shape t h) refl (same_shape t q) refl
    where
      go : (b : Bool) → same_shape t h ≡ b → (d : Bool) → same_shape t q ≡ d
          → OnceTold (cond d (cond b (t ∷ []) (t ∷ h ∷ [])) (cond b (t ∷ []) (t ∷ h ∷ [])
          ++ quarters q (cond b (t ∷ []) (t ∷ h ∷ []))))
      go true e true f =
          record {
            rows = keep ∷ [];
            bad = [];
            are = ap (λ z. z ∷ []) c-keep;
            differ = λ r m. absurd (Memᴰ.not-nil m);
            plain = tt;
            flipped = tt;
            listed = tt;
          }
      go false e true f =
          record {
            rows = keep ∷ half ∷ [];
            bad = half ∷ [];
            are = ap (λ z. z ∷ c half ∷ []) c-keep;
            differ = half-only e;
            plain = tt;
            flipped = tt;
            listed = tt;
          }
      go true e false f =
          record {
            rows = keep ∷ quarter ∷ [];
            bad = quarter ∷ [];
            are = ap (λ z. z ∷ c quarter ∷ []) c-keep;
            differ = quarter-only f;
            plain = tt;
            flipped = tt;
            listed = tt;
          }
      go false e false f =
          record {
            rows = keep ∷ half ∷ half_quarter ∷ quarter ∷ [];
            bad = half ∷ half_quarter ∷ quarter ∷ [];
            are = ap₂ (λ y z. y ∷ c half ∷ z ∷ c quarter ∷ []) c-keep c-hq;
            differ = all_three e f;
            plain = tt;
            flipped = tt;
            listed = tt;
          }

  abbrev us : List Shape
  us = with_quarter t (with_half t)

  abbrev f : Shape
  f = turned (apply flip) t

  in_table : (r : Turn) → r ∈ told.rows → r ∈ flat_table
  in_table r m = has-turn r flat_table (all-mem (λ r. has_turn r flat_table) told.rows told.listed m)

  listed-canonical : (u : Shape) → u ∈ us → Canonical u.cells
  listed-canonical u m =
      let r = map-find c told.rows
      (subst (λ (l : List (List Point)). u.cells ∈ l) told.are (mem-map (λ (u : Shape). u.cells) m)) in
      subst Canonical (sym r.2) (canonical r.0 (in_table r.0 r.1) t C)

  -- a reflection that gives the shape itself makes the flip one of the listed rotations
  flips-back : T (all (λ g. has_turn g flat_table && has_turn (compose flip g) rotations) reflections)
  unfolding all any xor
  flips-back = tt

  reflected : (r : Turn) → r ∈ reflections → c keep ≡ c r → T (any (λ u. same_shape u f) us)
  unfolding xor any
  reflected r m e =
      let b = all-mem (λ g. has_turn g flat_table && has_turn (compose flip g) rotations) reflections flips-back m in
      let n = has-turn r flat_table (T-and-l (has_turn r flat_table) _ b) in
      let o = has-turn flip flat_table tt in
      let v = rotations-listed t C.based (compose flip r)
      (has-turn (compose flip r) rotations (T-and-r (has_turn r flat_table) _ b)) in
      let g = is_c (compose flip r) (table-rules.closed flip r o n) v.0 v.2 (listed-canonical v.0 v.1) in
      let k = g ∙ sym (c-turn flip keep r o (Memᴰ.head refl) n e) in
      any-mem (λ u. same_shape u f) us v.1 (subst (λ (ps : List Point). T (same_points ps f.cells)) (sym k)
      (same_points-refl f.cells))

  -- the flips of all listed, by their rows
  flip-cells : (vs : List Shape) (rows : List Turn) → map (λ u. u.cells) vs ≡ map c rows
      → ((r : Turn) → r ∈ rows → r ∈ flat_table)
      → map (λ u. u.cells) (map (turned (apply flip)) vs) ≡ map c (map (compose flip) rows)
  unfolding any
  flip-cells [] [] e n = refl
  flip-cells [] (r ∷ rows) e n = let z : ◌≡◌ {A = ℕ} 0 1 = cc in absurd (omega arith)
  flip-cells (v ∷ vs) [] e n = let z : ◌≡◌ {A = ℕ} 0 1 = cc in absurd (omega arith)
  flip-cells (v ∷ vs) (r ∷ rows) e n =
      let a : v.cells ≡ c r = cc in
      let b : map (λ u. u.cells) vs ≡ map c rows = cc in
      ap₂ ◌∷◌
      (turned-cells (apply flip) v (turned (apply r) t) a
      ∙ c-then flip r (has-turn flip flat_table tt) (n r (Memᴰ.head refl)))
      (flip-cells vs rows b (λ x m. n x (Memᴰ.tail m)))

  flipped-once : Distinct (map (λ u. u.cells) (with_flip t us))
  unfolding with_flip
  flipped-once = go (any (λ u. same_shape u f) us) refl
    where
      K : OnceTold us
      K = told

      go : (b : Bool) → any (λ u. same_shape u f) us ≡ b
          → Distinct (map (λ u. u.cells) (cond b us (us ++ map (turned (apply flip)) us)))
      go true e = subst Distinct (sym K.are) (once K.bad K.rows K.differ K.plain)
      go false e =
          subst Distinct
          (sym (map-append (λ u. u.cells) us (map (turned (apply flip)) us)
          ∙ (ap₂ ◌++◌ K.are (flip-cells us K.rows K.are in_table)
          ∙ sym (map-append c K.rows (map (compose flip) K.rows)))))
          (once (K.bad ++ reflections) (K.rows ++ map (compose flip) K.rows) differ K.flipped)
        where
          at : (r : Turn) → r ∈ K.bad ⊎ r ∈ reflections → c keep ≡ c r → ⊥
          at r (inl m) g = K.differ r m g
          at r (inr m) g = subst T e (reflected r m g)

          differ : (r : Turn) → r ∈ (K.bad ++ reflections) → c keep ≡ c r → ⊥
          differ r m g = at r (Memᴰ.append_cases K.bad m) g

  flipped-canonical : (u : Shape) → u ∈ with_flip t us → Canonical u.cells
  unfolding with_flip any
  flipped-canonical u = go (any (λ u. same_shape u f) us)
    where
      at : u ∈ us ⊎ u ∈ map (turned (apply flip)) us → Canonical u.cells
      at (inl m) = listed-canonical u m
      at (inr m) =
          let v = map-find (turned (apply flip)) us m in
          subst (λ (u : Shape). Canonical u.cells) (sym v.2)
          (canonical flip (has-turn flip flat_table tt) v.0 (listed-canonical v.0 v.1))

      go : (b : Bool) → u ∈ cond b us (us ++ map (turned (apply flip)) us) → Canonical u.cells
      go true m = listed-canonical u m
      go false m = at (Memᴰ.append_cases us m)

-- what is listed of a shape: among the eight turned shapes, each of them, no two with the same cells
pub record Listing (t : Shape) : Type 0 where
  pub are : (u : Shape) → u ∈ flat_transforms t → (a : Turn) × a ∈ flat_table × (u.cells ≡ (turned (apply a) t).cells)
  pub each : (a : Turn) → a ∈ flat_table → (u : Shape) × u ∈ flat_transforms t × (u.cells ≡ (turned (apply a) t).cells)
  pub once : Distinct (map (λ u. u.cells) (flat_transforms t))

pub flat-listing : (t : Shape) → Canonical t.cells → Listing t
unfolding flat_transforms
flat-listing t C =
    record {
      are = λ u m.
          let r = flat-are t u C.based m in
          (r.0, r.1, is_c t C r.0 r.1 u (image-onto r.0 t u r.2) (flipped-canonical t C u m));
      each = λ a m.
          let r = flat-cover t a C.based m in
          (r.0, r.1, is_c t C a m r.0 r.2 (flipped-canonical t C r.0 r.1));
      once = flipped-once t C;
    }
