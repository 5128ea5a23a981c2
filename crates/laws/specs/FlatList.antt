-- The flat list of transforms: each one is the shape turned by one of the eight rows, and each of the eight is listed.
--
--   Onto a ps qs        qs are the places ps turned by the row a and shifted
--   Image a t u         the shape u is t turned by the row a and shifted, with its connections
--   rotations           the rows of the table that do not flip
--   reflections         the rows of the table that flip
use Rattle.std.specs.Prelude.{◌≡◌, ◌⊎◌, Bool, ◌&&◌, cond}
use Rattle.std.proofs.Math.Path.{refl}
use Rattle.std.proofs.Common.{sym, ap, ◌∙◌, subst, inl, inr}
use Rattle.std.proofs.Math.Bool.{true, false, xor}
use mathlib.Core.List.Memᴰ
use mathlib.Core.List.{List, [], ◌∷◌, ◌++◌, map}
use Rattle.std.proofs.Math.Dec.{T}
use Rattle.lists.specs.Lists.{◌∈◌, any, all}
use Rattle.lists.specs.ListLaws.{any-find, all-mem, mem-map, map-find}
use Rattle.lists.specs.Booleans.{T-and-l, T-and-r}
use Rattle.rules.specs.Page.{Point, ◌⊕◌, opposite, Shape}
use Rattle.rules.specs.Turns.{Turn, apply, compose, keep, half, quarter, half_quarter, flip, flip_half, flip_quarter}
use Rattle.rules.specs.Turns.{flip_half_quarter, flat_table}
use Rattle.rules.specs.Shapes.{same_point, same_shape, turned, with_half, quarters, with_quarter, with_flip}
use Rattle.rules.specs.Shapes.{flat_transforms}
use Rattle.laws.specs.PointLaws.{origin, add_assoc, add-origin, add-opposite, swap4}
use Rattle.laws.specs.PageLaws.{Moved, Turns, six_steps}
use Rattle.laws.specs.SameLaws.{same_point→eq, same_points→eq}
use Rattle.laws.specs.ShapeLaws.{TurnedBy, turned_by}
use Rattle.laws.specs.TurnLaws.{same_turn, same_turn→eq, has_turn, has-turn, undone, apply-undo, apply-compose}
use Rattle.laws.specs.TurnLaws.{apply-sum, apply-keep}

abbrev to_steps : Turn → Bool
to_steps a = all (λ e. any (same_point (apply a e)) six_steps) six_steps

-- what a table of turns has: two tests over its rows
pub table-turns : (ts : List Turn) → T (all (undone ts) ts) → T (all to_steps ts) → Turns (map apply ts)
table-turns ts u v =
    record {
      sum = λ g m p q. let r = map-find apply ts m in rw r.2 (apply-sum r.0 p q);
      step = λ g m e n.
          let r = map-find apply ts m in
          let f = all-mem (λ e. any (same_point (apply r.0 e)) six_steps) six_steps (all-mem to_steps ts v r.1) n in
          let w = any-find (same_point (apply r.0 e)) six_steps f in
          rw r.2 (Memᴰ.cast (same_point→eq (apply r.0 e) w.0 w.2) w.1);
      inj = λ g m p q e.
          let r = map-find apply ts m in
          let b = apply-undo ts r.0 (all-mem (undone ts) ts u r.1) in
          sym (b.2 p) ∙ (ap (apply b.0) (subst (λ (f : Point → Point). f p ≡ f q) r.2 e) ∙ b.2 q);
    }

pub record Onto (a : Turn) (ps qs : List Point) : Type 0 where
  pub shift : Point
  pub moved : Moved (apply a) shift ps qs

abbrev pub Image : Turn → Shape → Shape → Type 0
Image a t u = TurnedBy (apply a) t u

moved-keep : (ps : List Point) → Moved (apply keep) origin ps ps
moved-keep ps =
    record {
      there = λ a m. Memᴰ.cast (add-origin (apply keep a) ∙ apply-keep a) m;
      back = λ p m. (p, m, sym (add-origin (apply keep p) ∙ apply-keep p));
    }

twice : (b : Turn) (x k l : Point) (a : Turn)
    → apply b (apply a x ⊕ k) ⊕ l ≡ apply (compose b a) x ⊕ (apply b k ⊕ l)
twice b x k l a =
    ap (λ z. z ⊕ l) (apply-sum b (apply a x) k ∙ ap (λ z. z ⊕ apply b k) (sym (apply-compose b a x)))
    ∙ add_assoc (apply (compose b a) x) (apply b k) l

moved_then : (a b : Turn) (k l : Point) {ps qs rs : List Point} → Moved (apply a) k ps qs → Moved (apply b) l qs rs
    → Moved (apply (compose b a)) (apply b k ⊕ l) ps rs
moved_then a b k l M N =
    record {
      there = λ x m. Memᴰ.cast (sym (twice b x k l a)) (N.there _ (M.there x m));
      back = λ p m.
          let r = N.back p m in
          let w = M.back r.0 r.1 in
          (w.0, w.1, r.2 ∙ (ap (λ z. apply b z ⊕ l) w.2 ∙ twice b w.0 k l a));
    }

onto-then : (a b : Turn) {ps qs rs : List Point} → Onto a ps qs → Onto b qs rs → Onto (compose b a) ps rs
onto-then a b M N =
    record {
      shift = apply b M.shift ⊕ N.shift;
      moved = moved_then a b M.shift N.shift M.moved N.moved;
    }

onto-undo : (a b : Turn) → ((p : Point) → apply b (apply a p) ≡ p) → {ps qs : List Point} → Onto a ps qs → Onto b qs ps
onto-undo a b e {ps} {qs} M =
    record {
      shift = opposite (apply b M.shift);
      moved =
          record {
            there = λ q m.
                let r = M.moved.back q m in
                Memᴰ.cast (ap (λ z. apply b z ⊕ opposite (apply b M.shift)) r.2 ∙ undo r.0) r.1;
            back = λ p m. (apply a p ⊕ M.shift, M.moved.there p m, sym (undo p));
          };
    }
  where
    undo : (x : Point) → apply b (apply a x ⊕ M.shift) ⊕ opposite (apply b M.shift) ≡ x
    undo x =
        ap (λ z. z ⊕ opposite (apply b M.shift)) (apply-sum b (apply a x) M.shift)
        ∙ (add_assoc _ _ _
        ∙ (ap (λ z. apply b (apply a x) ⊕ z) (add-opposite (apply b M.shift)) ∙ (add-origin _ ∙ e x)))

pub image-onto : (a : Turn) (t u : Shape) → Image a t u → Onto a t.cells u.cells
image-onto a t u I = record { shift = I.shift; moved = I.cells-moved }

pub image-keep : (t : Shape) → origin ∈ t.cells → Image keep t t
image-keep t o =
    record {
      shift = origin;
      cells-moved = moved-keep t.cells;
      connections-moved = subst (λ (k : Point). Moved (apply keep) k t.connections t.connections)
          (sym (add-origin origin)) (moved-keep t.connections);
      based = o;
    }

pub image-then : (a b : Turn) (t u v : Shape) → Image a t u → Image b u v → Image (compose b a) t v
image-then a b t u v I J =
    record {
      shift = apply b I.shift ⊕ J.shift;
      cells-moved = moved_then a b I.shift J.shift I.cells-moved J.cells-moved;
      connections-moved = subst (λ (k : Point). Moved (apply (compose b a)) k t.connections v.connections)
          (ap (λ z. z ⊕ (J.shift ⊕ J.shift)) (apply-sum b I.shift I.shift)
          ∙ swap4 (apply b I.shift) (apply b I.shift) J.shift J.shift)
          (moved_then a b (I.shift ⊕ I.shift) (J.shift ⊕ J.shift) I.connections-moved J.connections-moved);
      based = J.based;
    }

-- every shape of us is t turned by a row of ts; for every row of ts the turned cells are those of a shape of us
abbrev Images : List Turn → Shape → List Shape → Type 0
Images ts t us = (u : Shape) → u ∈ us → (a : Turn) × a ∈ ts × Image a t u

abbrev Lists : Turn → Shape → List Shape → Type 0
Lists a t us = (u : Shape) × u ∈ us × Onto a t.cells u.cells

abbrev Covers : List Turn → Shape → List Shape → Type 0
Covers ts t us = (a : Turn) → a ∈ ts → Lists a t us

images-append : (ts : List Turn) (t : Shape) (us vs : List Shape) → Images ts t us → Images ts t vs
    → Images ts t (us ++ vs)
images-append ts t us vs f g u m = go (Memᴰ.append_cases us m)
  where
    go : u ∈ us ⊎ u ∈ vs → (a : Turn) × a ∈ ts × Image a t u
    go (inl n) = f u n
    go (inr n) = g u n

-- a shape with the same cells does as well
onto_same : (a : Turn) (t u v : Shape) → T (same_shape u v) → Onto a t.cells v.cells
    → Onto a t.cells u.cells
onto_same a t u v e M = subst (Onto a t.cells) (sym (same_points→eq u.cells v.cells e)) M

-- the table's first half, and its second
abbrev pub rotations : List Turn
rotations = keep ∷ half ∷ half_quarter ∷ quarter ∷ []

abbrev pub reflections : List Turn
reflections = flip ∷ flip_half ∷ flip_half_quarter ∷ flip_quarter ∷ []

-- the rules of the table that the flips need, tested over it: a flipped rotation is a row, every reflection is one, and
-- a reflection g comes about by the flip, back by a rotation r, and by a rotation
abbrev back : Turn → Turn → Turn → Bool
back g r i = same_turn (compose i r) keep && any (λ x. same_turn (compose x (compose i flip)) g) rotations

flip-row : T (all (λ a. has_turn (compose flip a) flat_table) rotations)
unfolding all any xor
flip-row = tt

row-flip : T (all (λ g. any (λ r. same_turn (compose flip r) g) rotations) reflections)
unfolding all any xor
row-flip = tt

flip-back : T (all (λ g. all (λ r. any (back g r) rotations) rotations) reflections)
unfolding all any xor
flip-back = tt

module _ (t : Shape) (o : origin ∈ t.cells) where
  abbrev h : Shape
  h = turned (apply half) t

  abbrev q : Shape
  q = turned (apply quarter) t

  record Rotated (us : List Shape) : Type 0 where
    are : Images rotations t us
    cover : Covers rotations t us

  four : (us : List Shape) → Lists keep t us → Lists half t us → Lists half_quarter t us → Lists quarter t us
      → Covers rotations t us
  four us a b c d x (Memᴰ.head e) = rw e a
  four us a b c d x (Memᴰ.tail (Memᴰ.head e)) = rw e b
  four us a b c d x (Memᴰ.tail (Memᴰ.tail (Memᴰ.head e))) = rw e c
  four us a b c d x (Memᴰ.tail (Memᴰ.tail (Memᴰ.tail (Memᴰ.head e)))) = rw e d
  four us a b c d x (Memᴰ.tail (Memᴰ.tail (Memᴰ.tail (Memᴰ.tail m)))) =
      absurd (Memᴰ.not-nil m)

  onto-t : Onto keep t.cells t.cells
  onto-t = record { shift = origin; moved = moved-keep t.cells }

  onto-h : Onto half t.cells h.cells
  onto-h = image-onto half t h (turned_by (apply half) t o)

  onto-q : Onto quarter t.cells q.cells
  onto-q = image-onto quarter t q (turned_by (apply quarter) t o)

  image-t : (a : Turn) × a ∈ rotations × Image a t t
  image-t = (keep, Memᴰ.head refl, image-keep t o)

  image-h : (a : Turn) × a ∈ rotations × Image a t h
  image-h = (half, Memᴰ.tail (Memᴰ.head refl), turned_by (apply half) t o)

  image-q : (a : Turn) × a ∈ rotations × Image a t q
  unfolding any
  image-q = (quarter, has-turn quarter rotations tt, turned_by (apply quarter) t o)

  based-q : origin ∈ q.cells
  based-q = (turned_by (apply quarter) t o).based

  hq : Image half_quarter t (turned (apply half) q)
  unfolding xor
  hq = image-then quarter half t q (turned (apply half) q) (turned_by (apply quarter) t o)
      (turned_by (apply half) q based-q)

  image-hq : (a : Turn) × a ∈ rotations × Image a t (turned (apply half) q)
  unfolding any
  image-hq = (half_quarter, has-turn half_quarter rotations tt, hq)

  one : (us : List Shape) (u : Shape) → Images rotations t us → ((a : Turn) × a ∈ rotations × Image a t u)
      → Images rotations t (u ∷ us)
  one us u f i v (Memᴰ.head e) = rw e i
  one us u f i v (Memᴰ.tail m) = f v m

  none_yet : Images rotations t []
  none_yet u m = absurd (Memᴰ.not-nil m)

  -- the shape itself, and the half turn where it differs
  abbrev halves : Bool → List Shape
  halves b = cond b (t ∷ []) (t ∷ h ∷ [])

  rotated : Rotated (with_quarter t (with_half t))
  unfolding with_half with_quarter quarters xor
  rotated = go (same_shape t h) refl (same_shape t q) refl
    where
      go : (b : Bool) → same_shape t h ≡ b → (c : Bool) → same_shape t q ≡ c
          → Rotated (cond c (halves b) (halves b ++ quarters q (halves b)))
      go true e true f =
          let mh = onto_same half t t h (rw e tt) onto-h in
          let mq = onto_same quarter t t q (rw f tt) onto-q in
          record {
            are = one [] t none_yet image-t;
            cover = four _ (t, Memᴰ.head refl, onto-t) (t, Memᴰ.head refl, mh)
                (t, Memᴰ.head refl, onto-then quarter half mq mh) (t, Memᴰ.head refl, mq);
          }
      go false e true f =
          let mq = onto_same quarter t t q (rw f tt) onto-q in
          record {
            are = one _ t (one [] h none_yet image-h) image-t;
            cover = four _ (t, Memᴰ.head refl, onto-t) (h, Memᴰ.tail (Memᴰ.head refl), onto-h)
                (h, Memᴰ.tail (Memᴰ.head refl), onto-then quarter half mq onto-h)
                (t, Memᴰ.head refl, mq);
          }
      go true e false f =
          let mh = onto_same half t t h (rw e tt) onto-h in
          record {
            are = one _ t (one [] q none_yet image-q) image-t;
            cover = four _ (t, Memᴰ.head refl, onto-t) (t, Memᴰ.head refl, mh)
                (q, Memᴰ.tail (Memᴰ.head refl), onto-then half quarter mh onto-q)
                (q, Memᴰ.tail (Memᴰ.head refl), onto-q);
          }
      go false e false f =
          record {
            are = one _ t (one _ h (one _ (turned (apply half) q) (one [] q none_yet image-q) image-hq) image-h)
                image-t;
            cover = four _ (t, Memᴰ.head refl, onto-t) (h, Memᴰ.tail (Memᴰ.head refl), onto-h) (
              turned (apply half) q,
              Memᴰ.tail (Memᴰ.tail (Memᴰ.head refl)),
              image-onto half_quarter t (turned (apply half) q) hq,
            )
                (q, Memᴰ.tail (Memᴰ.tail (Memᴰ.tail (Memᴰ.head refl))), onto-q);
          }

  record Done (us : List Shape) : Type 0 where
    are : Images flat_table t us
    cover : Covers flat_table t us

  widen : (us : List Shape) → Images rotations t us → Images flat_table t us
  widen us f u m = let r = f u m in (r.0, Memᴰ.append_left reflections r.1, r.2)

  flipped : (us : List Shape) → Rotated us → Done (with_flip t us)
  unfolding with_flip
  flipped us R = go (any (λ u. same_shape u (turned (apply flip) t)) us) refl
    where
      go : (b : Bool) → any (λ u. same_shape u (turned (apply flip) t)) us ≡ b
          → Done (cond b us (us ++ map (turned (apply flip)) us))
      go true e =
          record { are = widen us R.are; cover = λ g m. cases g (Memᴰ.append_cases rotations m) }
        where
          u0 : (u : Shape) × u ∈ us × T (same_shape u (turned (apply flip) t))
          u0 = any-find (λ u. same_shape u (turned (apply flip) t)) us (rw e tt)

          onto-f : Onto flip t.cells u0.0.cells
          onto-f = onto_same flip t u0.0 (turned (apply flip) t) u0.2
              (image-onto flip t _ (turned_by (apply flip) t o))

          r0 : (a : Turn) × a ∈ rotations × Image a t u0.0
          r0 = R.are u0.0 u0.1

          cases : (g : Turn) → g ∈ rotations ⊎ g ∈ reflections → Lists g t us
          cases g (inl m) = R.cover g m
          cases g (inr m) =
              let i = any-find (back g r0.0) rotations
              (all-mem (λ r. any (back g r) rotations) rotations
              (all-mem (λ g. all (λ r. any (back g r) rotations) rotations) reflections flip-back m) r0.1) in
              let x = any-find (λ x. same_turn (compose x (compose i.0 flip)) g) rotations
              (T-and-r (same_turn (compose i.0 r0.0) keep) _ i.2) in
              let u = same_turn→eq (compose i.0 r0.0) keep
              (T-and-l (same_turn (compose i.0 r0.0) keep) _ i.2) in
              let un : (p : Point) → apply i.0 (apply r0.0 p) ≡ p =
              λ p. sym (apply-compose i.0 r0.0 p) ∙ (ap (λ z. apply z p) u ∙ apply-keep p) in
              let c = R.cover x.0 x.1 in
              let w = onto-undo r0.0 i.0 un (image-onto r0.0 t u0.0 r0.2) in (
                c.0,
                c.1,
                subst (λ (z : Turn). Onto z t.cells c.0.cells)
                    (same_turn→eq (compose x.0 (compose i.0 flip)) g x.2)
                    (onto-then (compose i.0 flip) x.0 {rs = c.0.cells} (onto-then flip i.0 onto-f w) c.2),
              )
      go false e =
          record {
            are = images-append flat_table t us _ (widen us R.are) flips-are;
            cover = λ g m. cases g (Memᴰ.append_cases rotations m);
          }
        where
          flips-are : Images flat_table t (map (turned (apply flip)) us)
          flips-are u m =
              let v = map-find (turned (apply flip)) us m in
              let r = R.are v.0 v.1 in (
                compose flip r.0,
                has-turn _ flat_table (all-mem (λ a. has_turn (compose flip a) flat_table) rotations flip-row r.1),
                subst (Image (compose flip r.0) t) (sym v.2)
                    (image-then r.0 flip t v.0 _ r.2 (turned_by (apply flip) v.0 r.2.based)),
              )

          cases : (g : Turn) → g ∈ rotations ⊎ g ∈ reflections → Lists g t (us ++ map (turned (apply flip)) us)
          cases g (inl m) = let c = R.cover g m in (c.0, Memᴰ.append_left _ c.1, c.2)
          cases g (inr m) =
              let r = any-find (λ r. same_turn (compose flip r) g) rotations
              (all-mem (λ g. any (λ r. same_turn (compose flip r) g) rotations) reflections row-flip m) in
              let c = R.cover r.0 r.1 in
              let b = R.are c.0 c.1 in (
                turned (apply flip) c.0,
                Memᴰ.append_right us (mem-map (turned (apply flip)) c.1),
                subst (λ (z : Turn). Onto z t.cells (turned (apply flip) c.0).cells)
                    (same_turn→eq (compose flip r.0) g r.2)
                    (onto-then r.0 flip c.2
                    (image-onto flip c.0 _ (turned_by (apply flip) c.0 b.2.based))),
              )

  flat-done : Done (flat_transforms t)
  unfolding flat_transforms
  flat-done = flipped _ rotated

-- each listed transform is the shape turned by a row of the table
pub flat-are : (t u : Shape) → origin ∈ t.cells → u ∈ flat_transforms t → (a : Turn) × a ∈ flat_table × Image a t u
flat-are t u o m = (flat-done t o).are u m

-- each of the eight turned shapes is listed
pub flat-cover : (t : Shape) (a : Turn) → origin ∈ t.cells → a ∈ flat_table
    → (u : Shape) × u ∈ flat_transforms t × Onto a t.cells u.cells
flat-cover t a o m = (flat-done t o).cover a m

pub flat-turns : Turns (map apply flat_table)
unfolding all any apply xor
flat-turns = table-turns flat_table tt tt

-- each rotated shape is listed before the flips
pub rotations-listed : (t : Shape) → origin ∈ t.cells → (a : Turn) → a ∈ rotations
    → (u : Shape) × u ∈ with_quarter t (with_half t) × Onto a t.cells u.cells
rotations-listed t o a m = (rotated t o).cover a m
