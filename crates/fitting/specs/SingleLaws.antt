-- A unit of one cell has no connections: it fits at any cell of any adjacent unit.
use Rattle.std.proofs.Math.Path.{◌≡◌, refl}
use Rattle.std.proofs.Common.{sym, ◌∙◌, arith}
use Rattle.std.specs.Prelude.{Bool, ℕ, ◌+◌, ◌*◌, ◌/◌, ◌%◌, ◌<◌, eqb, get_or}
use Rattle.std.proofs.Math.Bool.{true, false}
use mathlib.Core.List.Memᴰ
use mathlib.Core.List.{List, [], ◌∷◌, ◌++◌}
use borrow.Author.Tests.{ne_eqb, ltb-true}
use Rattle.lists.specs.Lists.{◌∈◌, any, filter, keep_if, flat_map}
use Rattle.lists.specs.Arithmetic.{if-same}
use Rattle.lists.specs.PartLaws.{part-one}
use Rattle.lists.specs.AnyAll.{holds-any}
use Rattle.rules.specs.Page.{Hop, State, Point, Puzzle, Shape}
use Rattle.rules.specs.Flat.{flat, hop_if, hop_below, hop_right, ahead_at, cell_at}
use Rattle.rules.specs.Groups.{entry, members}
use Rattle.rules.specs.Check.{laid, judge}
use Rattle.rules.specs.Shapes.{shape_of, normal, shift_by, connections_at}
use Rattle.laws.specs.FlatLaws.{spot, row_of_lem}
use Rattle.laws.specs.GroupLaws.{mem-members, members-lt}
use Rattle.groups.specs.declared.Grouping.{Grouping}
use Rattle.groups.specs.Grouping.{numbers_in, cells_in, starts_in}
use Rattle.groups.specs.Parts.{part_of}
use Rattle.adjacent.specs.Homes.{UnitIn}
use Rattle.planes.specs.Placing.{fits_of}
use Rattle.planes.specs.Laying.{fits_among, fits_beside}
use Rattle.fitting.specs.Fitting.{fits_turned}
use Rattle.fitting.specs.FitLaws.{turned-own}

-- a neighbour that fails the test is not kept
module _ (p : Hop → Bool) where
  hop-none : (b : Bool) (n t : ℕ) → (b ≡ true → p (record { border = n; to = t }) ≡ false)
      → filter p (hop_if b n t) ≡ []
  unfolding filter hop_if
  hop-none true n t e = rw (e refl)
  hop-none false n t e = refl

  hops-none : (xs ys : List Hop) → filter p xs ≡ [] → filter p ys ≡ [] → filter p (xs ++ ys) ≡ []
  unfolding filter
  hops-none [] ys a b = b
  hops-none (x ∷ xs) ys a b = go (p x) a (λ e. hops-none xs ys e b)
    where
      go : (k : Bool) → keep_if k x (filter p xs) ≡ [] → (filter p xs ≡ [] → filter p (xs ++ ys) ≡ [])
          → keep_if k x (filter p (xs ++ ys)) ≡ []
      go true e f = let z : ◌≡◌ {A = ℕ} 0 1 = cc in absurd (omega arith)
      go false e f = f e

normal-none : (ps : List Point) → (normal ps []).connections ≡ []
unfolding normal shift_by
normal-none [] = refl
normal-none (p ∷ ps) = refl

module _ (h w : ℕ) (number : ℕ → ℕ) (g c : ℕ) (alone : members (flat h w) number g ≡ c ∷ []) where
  inside : c < h * w
  unfolding flat
  inside = members-lt (flat h w) number g c (rw alone (Memᴰ.head refl))

  -- another cell of the page is in another group
  other : (t : ℕ) → t < h * w → (t ≡ c → ⊥) → eqb (number t) g ≡ false
  unfolding flat
  other t l n =
      if-same (number t) g
      (λ e. absurd (n (Memᴰ.eq_of_singleton (rw alone at (mem-members (flat h w) number g t l e)))))
      (λ e. ne_eqb (number t) g e)

  ahead_none : filter (λ (k : Hop). eqb (number k.to) g) ((flat h w).ahead c) ≡ []
  unfolding flat ahead_at hop_below hop_right cell_at
  ahead_none =
      let r = row_of_lem h w c inside in
      let m = spot h w (c / w) (c % w) r.row r.column in
      hops-none _ _ _
      (hop-none _ _ _ _
      (λ e. other _ (m.lower (ltb-true _ _ e)) (λ z. omega (arith, m.next, r.same, r.broad))))
      (hop-none _ _ _ _ (λ e. other _ (m.beside (ltb-true _ _ e)) (λ z. omega (arith, r.same))))

  joints-none : flat_map (connections_at (flat h w) number g) (members (flat h w) number g) ≡ []
  unfolding flat_map connections_at
  joints-none = rw (alone, ahead_none)

  connections-none : (shape_of (flat h w) number g).connections ≡ []
  unfolding shape_of
  connections-none = rw joints-none (normal-none _)

-- a transform without connections fits at any cell
module _ (Z : Puzzle) (s : ℕ → State) (cells offs : List ℕ) where
  bare-fits : (t : Shape) → t.connections ≡ [] → (o : ℕ) → fits_of Z s t o ≡ true
  unfolding fits_of laid judge
  bare-fits t e o = rw e

  bare-beside : (t : Shape) → t.connections ≡ [] → {gs : List ℕ} {q x : ℕ} → q ∈ gs → x ∈ part_of cells offs q
      → fits_beside Z s t cells offs gs ≡ true
  unfolding fits_beside fits_among
  bare-beside t e {q = q} {x = x} m n =
      holds-any (λ Q. any (fits_of Z s t) (part_of cells offs Q)) m (holds-any (fits_of Z s t) n (bare-fits t e x))

  pub single-fits : {h w g : ℕ} {us : Grouping} → UnitIn h w us g
      → get_or (starts_in us) (g + 1) 0 ≡ get_or (starts_in us) g 0 + 1 → {gs : List ℕ} {q x : ℕ} → q ∈ gs
      → x ∈ part_of cells offs q
      → fits_turned Z s cells offs gs (shape_of (flat h w) (entry (numbers_in us)) g) ≡ true
  single-fits {h} {w} {g} {us} u e {gs} m n =
      let first = get_or (starts_in us) g 0 in
      let number = entry (numbers_in us) in
      let shape = shape_of (flat h w) number g in
      let alone : members (flat h w) number g ≡ get_or (cells_in us) first 0 ∷ [] =
      sym u.group ∙ rw e (part-one (cells_in us) first (omega (arith, u.some, u.end, u.long))) in
      turned-own Z s cells offs shape gs (bare-beside shape (connections-none h w number g _ alone) m n)
