-- The shape of a group on a flat page is sorted, so no two of its listed transforms have the same cells; and a shape
-- has at most eight listed transforms.
use Rattle.std.specs.Prelude.{◌≡◌, refl, ◌⊎◌, Bool, true, false, not, cond, ℕ, zero, suc, ◌*◌, ◌/◌, ◌%◌, ◌<◌, ◌≤◌, ltb}
use Rattle.std.specs.Prelude.{length}
use Rattle.std.proofs.Math.Path.{ap}
use Rattle.std.proofs.Common.{inl, inr, ltb→lt, lt→ltb, length-append}
use Rattle.std.proofs.Math.Option.{Option}
use mathlib.Core.List.Memᴰ
use mathlib.Core.List.{List, [], ◌∷◌, ◌++◌, map}
use Rattle.std.proofs.Math.Nat.{div-add-mod', mod-lt, mul-le-mul_right, suc-mul}
use native.Mathlib.Omega.{arith}
use Rattle.std.proofs.Math.Dec.{T, eqb, eqb_refl, nltb→le}
use Rattle.std.proofs.lemmas.List.{length-map}
use Rattle.lists.specs.Lists.{◌∈◌, Distinct, filter, keep_if, any, range, range_from}
use Rattle.lists.specs.Booleans.{T_and, T-or-l, T-or-r, T-dec}
use Rattle.lists.specs.ListLaws.{map-find, filter-mem}
use Rattle.lists.specs.Ranges.{range_from-ge}
use Rattle.rules.specs.Page.{Puzzle, Shape, State}
use Rattle.rules.specs.Groups.{members, unit_of, unit_count}
use Rattle.rules.specs.Check.{transforms_of}
use Rattle.rules.specs.Turns.{Turn, apply, half, quarter, flip}
use Rattle.rules.specs.Shapes.{before, same_points, same_shape, sort, normal, turned, shape_of, with_half, quarters}
use Rattle.rules.specs.Shapes.{with_quarter, with_flip, flat_transforms}
use Rattle.rules.specs.Flat.{flat, flat_place}
use Rattle.laws.specs.SortLaws.{Ascending}
use Rattle.laws.specs.ShapeLaws.{Canonical, normal-canonical}
use Rattle.laws.proofs.FlatOnce.{flat-listing}

-- a list of numbers that rises
abbrev Rising : List ℕ → Type 0
Rising [] = Unit {0}
Rising (x ∷ xs) = ((y : ℕ) → y ∈ xs → x < y) × Rising xs

rising-range : (i n : ℕ) → Rising (range_from i n)
rising-range i zero = tt
rising-range i (suc n) = (λ y m. omega (arith, range_from-ge (suc i) n m), rising-range (suc i) n)

rising-filter : (p : ℕ → Bool) (xs : List ℕ) → Rising xs → Rising (filter p xs)
unfolding filter
rising-filter p [] r = tt
rising-filter p (x ∷ xs) r = go (p x) (rising-filter p xs r.1)
  where
    go : (b : Bool) → Rising (filter p xs) → Rising (keep_if b x (filter p xs))
    go true s = (λ y m. r.0 y (filter-mem p xs m), s)
    go false s = s

-- a shape without cells is listed alone
none-once : (t : Shape) → t.cells ≡ [] → Distinct (map (λ u. u.cells) (flat_transforms t))
unfolding flat_transforms with_flip with_quarter with_half turned any same_points normal sort
none-once t e = rw (alone half, alone quarter) (rw (alone flip) ((λ m. Memᴰ.not-nil m), tt))
  where
    alone : (a : Turn) → same_shape t (turned (apply a) t) ≡ true
    alone a = rw e refl

module _ (h w : ℕ) (hw : 0 < w) where
  -- row order is the order of places
  place-before : (c d : ℕ) → c < d → T (before (flat_place h w c) (flat_place h w d))
  unfolding flat_place
  place-before c d l = go (T-dec (ltb (c / w) (d / w))) (T-dec (ltb (d / w) (c / w)))
    where
      go : T (ltb (c / w) (d / w)) ⊎ T (not (ltb (c / w) (d / w)))
          → T (ltb (d / w) (c / w)) ⊎ T (not (ltb (d / w) (c / w))) → T (before (flat_place h w c) (flat_place h w d))
      go (inl t) u = T-or-l (ltb (c / w) (d / w)) _ t
      go (inr s) (inl t) =
          let k = mul-le-mul_right w (ltb→lt (d / w) (c / w) t) in
          let j = suc-mul (d / w) w in
          absurd (omega (arith, div-add-mod' c w, div-add-mod' d w, mod-lt d hw))
      go (inr s) (inr t) =
          let a = nltb→le (c / w) (d / w) s in
          let b = nltb→le (d / w) (c / w) t in
          let e : c / w ≡ d / w = omega arith in
          let m : c / w * w ≡ d / w * w = ap (λ z. z * w) e in
          T-or-r (ltb (c / w) (d / w)) _
          (T_and (eqb (c / w) (d / w)) _ (rw e (eqb_refl (d / w)))
          (lt→ltb (c % w) (d % w) (omega (arith, div-add-mod' c w, div-add-mod' d w))))

  places-ascend : (xs : List ℕ) → Rising xs → Ascending (map (flat_place h w) xs)
  places-ascend [] r = tt
  places-ascend (x ∷ xs) r = (
    λ q m. let y = map-find (flat_place h w) xs m in rw y.2 (place-before x y.0 (r.0 y.0 y.1)),
    places-ascend xs r.1,
  )

  -- so cells that pass a test, in row order, have sorted places, and a group's cells have
  pub filter-ascends : (p : ℕ → Bool) (n : ℕ) → Ascending (map (flat_place h w) (filter p (range n)))
  filter-ascends p n = places-ascend (filter p (range n)) (rising-filter p (range_from 0 n) (rising-range 0 n))

  pub members-ascend : (number : ℕ → ℕ) (g : ℕ) → Ascending (map (flat_place h w) (members (flat h w) number g))
  unfolding members flat
  members-ascend number g = filter-ascends (λ x. eqb (number x) g) (h * w)

  -- the shape of a group that has a cell is sorted
  pub shape-canonical : (number : ℕ → ℕ) (g x : ℕ) (xs : List ℕ) → members (flat h w) number g ≡ x ∷ xs
      → Canonical (shape_of (flat h w) number g).cells
  unfolding shape_of members flat
  shape-canonical number g x xs e =
      normal-canonical (map (flat_place h w) (members (flat h w) number g)) _ (flat_place h w x)
      (rw e (Memᴰ.head refl)) (members-ascend number g)

  shape-none : (number : ℕ → ℕ) (g : ℕ) → members (flat h w) number g ≡ [] → (shape_of (flat h w) number g).cells ≡ []
  unfolding shape_of normal flat
  shape-none number g e = rw e

  -- no two listed transforms of a group's shape have the same cells
  pub shape-once : (number : ℕ → ℕ) (g : ℕ)
      → Distinct (map (λ u. u.cells) (flat_transforms (shape_of (flat h w) number g)))
  shape-once number g = go (members (flat h w) number g) refl
    where
      go : (xs : List ℕ) → members (flat h w) number g ≡ xs
          → Distinct (map (λ u. u.cells) (flat_transforms (shape_of (flat h w) number g)))
      go [] e = none-once (shape_of (flat h w) number g) (shape-none number g e)
      go (x ∷ xs) e = (flat-listing (shape_of (flat h w) number g) (shape-canonical number g x xs e)).once

-- "At most eight"
halves-four : (t : Shape) → length (with_quarter t (with_half t)) ≤ 4
unfolding with_quarter with_half quarters
halves-four t = go (same_shape t h) (same_shape t q)
  where
    h : Shape
    h = turned (apply half) t

    q : Shape
    q = turned (apply quarter) t

    go : (b c : Bool) → length (cond c (cond b (t ∷ []) (t ∷ h ∷ []))
        (cond b (t ∷ []) (t ∷ h ∷ []) ++ quarters q (cond b (t ∷ []) (t ∷ h ∷ [])))) ≤ 4
    go true true = omega arith
    go true false = omega arith
    go false true = omega arith
    go false false = omega arith

pub flat-eight : (t : Shape) → length (flat_transforms t) ≤ 8
unfolding flat_transforms with_flip
flat-eight t = go (any (λ u. same_shape u (turned (apply flip) t)) us)
  where
    us : List Shape
    us = with_quarter t (with_half t)

    go : (b : Bool) → length (cond b us (us ++ map (turned (apply flip)) us)) ≤ 8
    go true = omega (arith, halves-four t)
    go false =
        omega (
          arith,
          halves-four t,
          length-append us (map (turned (apply flip)) us),
          length-map us (turned (apply flip)),
        )

-- a flat puzzle
abbrev pub flat_puzzle : ℕ → ℕ → (ℕ → Bool) → (ℕ → Option ℕ) → Puzzle
flat_puzzle h w colour clue = record { page = flat h w; colour = colour; clue = clue }

-- the same of a unit's transforms, on any board
module _ (h w : ℕ) (hw : 0 < w) (colour : ℕ → Bool) (clue : ℕ → Option ℕ) (s : ℕ → State) (U : ℕ) where
  abbrev Z : Puzzle
  Z = flat_puzzle h w colour clue

  pub transforms-once : Distinct (map (λ u. u.cells) (transforms_of (flat_puzzle h w colour clue) s U))
  unfolding transforms_of flat
  transforms-once = go (ltb U (unit_count Z s))
    where
      ts : List Shape
      ts = flat_transforms (shape_of (flat h w) (unit_of Z s) U)

      go : (b : Bool) → Distinct (map (λ u. u.cells) (cond b ts []))
      go true = shape-once h w hw (unit_of Z s) U
      go false = tt

  pub transforms-eight : length (transforms_of (flat_puzzle h w colour clue) s U) ≤ 8
  unfolding transforms_of flat
  transforms-eight = go (ltb U (unit_count Z s))
    where
      t : Shape
      t = shape_of (flat h w) (unit_of Z s) U

      go : (b : Bool) → length (cond b (flat_transforms t) []) ≤ 8
      go true = flat-eight t
      go false = omega arith
