-- Laws of turns: what a row does to sums, composing rows is composing what they do, and the rules of the table of eight
-- rows, each one computed test over the table.
--
--   same_axis, same_row, same_turn  tests for equal rows
--   has_turn a ts       the row a is in the table ts
--   both_axes a b       one of the axes a and b is row, the other column
--   signed_swap t       t keeps the layer, and keeps or swaps row and column, with any signs
--   product ts          the row that does the rows ts one after the other, the last first
--   makings             for each row of the table, in order, the quarter turns and flips that it is made from
--   TableRules ts       the rules of a table: all signed swaps and nothing else, each once, closed under composition,
--                       with inverses, and made from the quarter turn and the flip
--   inverses a b        the rows a and b undo each other
--   undone ts a         the table ts has a row that undoes a
--   composes a          the row a has its inverse in the table, and composes with each to a row
--   Swaps ts            the functions ts are the eight signed swaps, each once
use Rattle.std.specs.Prelude.{◌≡◌, refl, ◌⊎◌, Bool, true, false, not, ◌&&◌, ◌||◌, List, [], ◌∷◌, map, T, ℤ, pos, ◌+ℤ◌}
use Rattle.std.proofs.Common.{sym, ap, ◌∙◌, inl, inr}
use Rattle.std.specs.Bool.{beq}
use Rattle.std.proofs.Math.Bool.{xor}
use mathlib.Core.List.Memᴰ
use Rattle.std.proofs.Math.IntN.{neg_ℤ-neg_ℤ, neg_ℤ-+ℤ}
use Rattle.lists.specs.Lists.{◌∈◌, Distinct, any, all}
use Rattle.lists.specs.ListLaws.{any-find, all-mem}
use Rattle.lists.specs.Booleans.{T_and, T-and-l, T-and-r, T-or, beq-eq}
use Rattle.rules.specs.Page.{Point, ◌⊕◌}
use Rattle.rules.specs.Turns.{Axis, layerward, rowward, columnward, Row, Turn, coordinate, signed, read, apply, row_of}
use Rattle.rules.specs.Turns.{compose_row, compose, plus, minus, keep, quarter, flip, flat_table}
use Rattle.rules.specs.Shapes.{sameℤ}
use Rattle.laws.specs.PointLaws.{point-eq}
use Rattle.laws.specs.PageLaws.{at3}
use Rattle.laws.specs.SameLaws.{sameℤ-refl}

-- equality as a test
abbrev pub same_axis : Axis → Axis → Bool
same_axis layerward layerward = true
same_axis layerward rowward = false
same_axis layerward columnward = false
same_axis rowward layerward = false
same_axis rowward rowward = true
same_axis rowward columnward = false
same_axis columnward layerward = false
same_axis columnward rowward = false
same_axis columnward columnward = true

abbrev pub same_row : Row → Row → Bool
same_row r q = same_axis r.axis q.axis && beq r.minus q.minus

abbrev pub same_turn : Turn → Turn → Bool
same_turn a b = same_row a.layers b.layers && same_row a.rows b.rows && same_row a.columns b.columns

abbrev pub has_turn : Turn → List Turn → Bool
has_turn a ts = any (same_turn a) ts

same_axis→eq : (a b : Axis) → T (same_axis a b) → a ≡ b
same_axis→eq layerward layerward t = refl
same_axis→eq layerward rowward t = absurd t
same_axis→eq layerward columnward t = absurd t
same_axis→eq rowward layerward t = absurd t
same_axis→eq rowward rowward t = refl
same_axis→eq rowward columnward t = absurd t
same_axis→eq columnward layerward t = absurd t
same_axis→eq columnward rowward t = absurd t
same_axis→eq columnward columnward t = refl

pub same_row→eq : (r q : Row) → T (same_row r q) → r ≡ q
same_row→eq r q t =
    let a = same_axis→eq r.axis q.axis (T-and-l (same_axis r.axis q.axis) _ t) in
    let b = beq-eq r.minus q.minus (T-and-r (same_axis r.axis q.axis) _ t) in
    λ i. record { axis = a i; minus = b i }

pub same_turn→eq : (a b : Turn) → T (same_turn a b) → a ≡ b
same_turn→eq a b t =
    let u = T-and-l (same_row a.layers b.layers && same_row a.rows b.rows) _ t in
    let l = same_row→eq a.layers b.layers (T-and-l (same_row a.layers b.layers) _ u) in
    let r = same_row→eq a.rows b.rows (T-and-r (same_row a.layers b.layers) _ u) in
    let c = same_row→eq a.columns b.columns
    (T-and-r (same_row a.layers b.layers && same_row a.rows b.rows) _ t) in
    λ i. record { layers = l i; rows = r i; columns = c i }

same_row-refl : (r : Row) → T (same_row r r)
same_row-refl r = T_and (same_axis r.axis r.axis) (beq r.minus r.minus) (axis r.axis)
    (sign r.minus)
  where
    axis : (a : Axis) → T (same_axis a a)
    axis layerward = tt
    axis rowward = tt
    axis columnward = tt

    sign : (b : Bool) → T (beq b b)
    sign true = tt
    sign false = tt

pub same_turn-refl : (a : Turn) → T (same_turn a a)
same_turn-refl a = search (T_and, same_row-refl)

pub has-turn : (a : Turn) (ts : List Turn) → T (has_turn a ts) → a ∈ ts
has-turn a ts t = let r = any-find (same_turn a) ts t in Memᴰ.cast (same_turn→eq a r.0 r.2) r.1

-- composing rows is composing what they do
signed-twice : (a b : Bool) (k : ℤ) → signed (xor a b) k ≡ signed a (signed b k)
unfolding xor
signed-twice true true k = sym (neg_ℤ-neg_ℤ k)
signed-twice true false k = refl
signed-twice false true k = refl
signed-twice false false k = refl

row-compose : (r : Row) (t : Turn) (p : Point) → read (compose_row r t) p ≡ read r (apply t p)
unfolding apply
row-compose r t p =
    signed-twice r.minus (row_of r.axis t).minus (coordinate (row_of r.axis t).axis p)
    ∙ ap (signed r.minus) (go r.axis)
  where
    go : (a : Axis) → read (row_of a t) p ≡ coordinate a (apply t p)
    go layerward = refl
    go rowward = refl
    go columnward = refl

pub apply-compose : (a b : Turn) (p : Point) → apply (compose a b) p ≡ apply a (apply b p)
unfolding apply
apply-compose a b p =
    point-eq (row-compose a.layers b p) (row-compose a.rows b p) (row-compose a.columns b p)

pub apply-keep : (p : Point) → apply keep p ≡ p
unfolding apply
apply-keep p = refl

-- a turn keeps sums
signed-sum : (b : Bool) (j k : ℤ) → signed b (j +ℤ k) ≡ signed b j +ℤ signed b k
signed-sum true j k = neg_ℤ-+ℤ j k
signed-sum false j k = refl

row-sum : (r : Row) (p q : Point) → read r (p ⊕ q) ≡ read r p +ℤ read r q
unfolding ◌⊕◌
row-sum r p q =
    ap (signed r.minus) (go r.axis)
    ∙ signed-sum r.minus (coordinate r.axis p) (coordinate r.axis q)
  where
    go : (a : Axis) → coordinate a (p ⊕ q) ≡ coordinate a p +ℤ coordinate a q
    go layerward = refl
    go rowward = refl
    go columnward = refl

pub apply-sum : (t : Turn) (p q : Point) → apply t (p ⊕ q) ≡ apply t p ⊕ apply t q
unfolding apply ◌⊕◌
apply-sum t p q = point-eq (row-sum t.layers p q) (row-sum t.rows p q) (row-sum t.columns p q)

-- two rows that take the place (1,2,3) to one place are one row
abbrev six_rows : List Row
six_rows =
    plus layerward ∷ minus layerward ∷ plus rowward ∷ minus rowward ∷ plus columnward ∷ minus columnward ∷ []

six-all : (r : Row) → r ∈ six_rows
six-all r = at r.axis r.minus
  where
    at : (a : Axis) (b : Bool) → record { axis = a; minus = b } ∈ six_rows
    at layerward false = Memᴰ.head refl
    at layerward true = Memᴰ.tail (Memᴰ.head refl)
    at rowward false = Memᴰ.tail (Memᴰ.tail (Memᴰ.head refl))
    at rowward true = Memᴰ.tail (Memᴰ.tail (Memᴰ.tail (Memᴰ.head refl)))
    at columnward false = Memᴰ.tail (Memᴰ.tail (Memᴰ.tail (Memᴰ.tail (Memᴰ.head refl))))
    at columnward true =
        Memᴰ.tail (Memᴰ.tail (Memᴰ.tail (Memᴰ.tail (Memᴰ.tail (Memᴰ.head refl)))))

abbrev probe : Point
probe = at3 (pos 1) (pos 2) (pos 3)

told : T (all (λ r. all (λ q. not (sameℤ (read r probe) (read q probe)) || same_row r q) six_rows) six_rows)
unfolding all
told = tt

row_told : (r q : Row) → read r probe ≡ read q probe → r ≡ q
row_told r q e =
    go (T-or (not (sameℤ (read r probe) (read q probe))) (same_row r q)
    (all-mem (λ q. not (sameℤ (read r probe) (read q probe)) || same_row r q) six_rows
    (all-mem (λ r. all (λ q. not (sameℤ (read r probe) (read q probe)) || same_row r q) six_rows) six_rows told
    (six-all r)) (six-all q)))
  where
    no : (b : Bool) → T b → T (not b) → ⊥
    no true t u = u
    no false t u = t

    go : T (not (sameℤ (read r probe) (read q probe))) ⊎ T (same_row r q) → r ≡ q
    go (inl t) = absurd (no (sameℤ (read r probe) (read q probe)) (rw e (sameℤ-refl (read q probe))) t)
    go (inr t) = same_row→eq r q t

pub apply-told : (a b : Turn) → apply a probe ≡ apply b probe → a ≡ b
unfolding apply
apply-told a b e =
    let l = row_told a.layers b.layers (ap (λ (p : Point). p.layer) e) in
    let r = row_told a.rows b.rows (ap (λ (p : Point). p.row) e) in
    let c = row_told a.columns b.columns (ap (λ (p : Point). p.column) e) in
    λ i. record { layers = l i; rows = r i; columns = c i }

-- different rows are different functions
pub apply-inj : (a b : Turn) → apply a ≡ apply b → a ≡ b
apply-inj a b e = apply-told a b (ap (λ (f : Point → Point). f probe) e)

-- row and column, one way round or the other
abbrev pub both_axes : Axis → Axis → Bool
both_axes a b = same_axis a rowward && same_axis b columnward || same_axis a columnward && same_axis b rowward

-- "signs and swaps" of (y,x)
abbrev pub signed_swap : Turn → Bool
signed_swap t = same_row t.layers (plus layerward) && both_axes t.rows.axis t.columns.axis

-- one after the other, the last first
unfoldable pub product : List Turn → Turn
product [] = keep
product (t ∷ ts) = compose t (product ts)

-- how each row of the table is made, in order
abbrev pub makings : List (List Turn)
makings =
    []
    ∷ (quarter ∷ quarter ∷ [])
    ∷ (quarter ∷ quarter ∷ quarter ∷ [])
    ∷ (quarter ∷ [])
    ∷ (flip ∷ [])
    ∷ (flip ∷ quarter ∷ quarter ∷ [])
    ∷ (flip ∷ quarter ∷ quarter ∷ quarter ∷ [])
    ∷ (flip ∷ quarter ∷ [])
    ∷ []

pub record TableRules (ts : List Turn) : Type 0 where
  pub once : Distinct ts
  pub whole : (t : Turn) → T (signed_swap t) → t ∈ ts
  pub only : (t : Turn) → t ∈ ts → T (signed_swap t)
  pub closed : (a b : Turn) → a ∈ ts → b ∈ ts → compose a b ∈ ts
  pub inverse : (a : Turn) → a ∈ ts → (b : Turn) × b ∈ ts × (compose b a ≡ keep) × (compose a b ≡ keep)
  pub made : map product makings ≡ ts
  pub made_of : T (all (all (λ t. has_turn t (quarter ∷ flip ∷ []))) makings)

abbrev pub inverses : Turn → Turn → Bool
inverses a b = same_turn (compose b a) keep && same_turn (compose a b) keep

-- the row a has its inverse in the table
abbrev pub undone : List Turn → Turn → Bool
undone ts a = any (inverses a) ts

pub undo : (ts : List Turn) (a : Turn) → T (undone ts a)
    → (b : Turn) × b ∈ ts × (compose b a ≡ keep) × (compose a b ≡ keep)
undo ts a t =
    let r = any-find (inverses a) ts t in (
      r.0,
      r.1,
      same_turn→eq (compose r.0 a) keep (T-and-l (same_turn (compose r.0 a) keep) _ r.2),
      same_turn→eq (compose a r.0) keep (T-and-r (same_turn (compose r.0 a) keep) _ r.2),
    )

pub apply-undo : (ts : List Turn) (a : Turn) → T (undone ts a)
    → (b : Turn) × b ∈ ts × ((p : Point) → apply b (apply a p) ≡ p)
apply-undo ts a t =
    let r = undo ts a t in
    (r.0, r.1, λ p. sym (apply-compose r.0 a p) ∙ (ap (λ z. apply z p) r.2 ∙ apply-keep p))

-- "its composition rules are tested over the table": each row has its inverse there, and composes with each to a row
abbrev pub composes : Turn → Bool
composes a = undone flat_table a && all (λ b. has_turn (compose a b) flat_table) flat_table

pub composition : T (all composes flat_table)
unfolding all any xor
composition = tt

-- a list of turns that is exactly the eight signed swaps, each once
pub record Swaps (ts : List (Point → Point)) : Type 0 where
  pub whole : (t : Turn) → T (signed_swap t) → apply t ∈ ts
  pub only : (g : Point → Point) → g ∈ ts → (t : Turn) × T (signed_swap t) × (g ≡ apply t)
  pub once : Distinct ts
