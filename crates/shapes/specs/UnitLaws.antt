-- The shape of a group on a flat page: its places are sorted, and a test of the page tells what is a cell of it.
use Rattle.std.proofs.Math.Path.{◌≡◌, refl, sym, subst}
use Rattle.std.proofs.Common.{ap, ◌∙◌, true≢false, div-add-mod', mod-lt, div-lt_iff_lt-mul, arith, lt→ltb}
use Rattle.std.specs.Prelude.{Bool, ◌&&◌, ℕ, zero, suc, ◌+◌, ◌*◌, ◌/◌, ◌%◌, ◌<◌, ◌≤◌, eqb, ℤ, pos, negsuc, nat_abs}
use Rattle.std.specs.Prelude.{length}
use Rattle.std.proofs.Math.Bool.{true, false}
use mathlib.Core.List.{List, [], ◌∷◌, map}
use borrow.Author.Tests.{lt-ltb, le-ltb, ltb-true}
use Rattle.std.proofs.Math.Arith.{digits_lt, digits_div, digits_mod}
use Rattle.std.proofs.Math.Dec.{T, ltb, ltb→lt}
use Rattle.lists.specs.Lists.{◌∈◌, filter, any, all, range}
use Rattle.lists.specs.ListLaws.{mem-map, map-find, any-mem, any-find, mem-filter, filter-mem, filter-test}
use Rattle.lists.specs.Tests.{all_below}
use Rattle.lists.specs.Ranges.{mem-range, range-lt}
use Rattle.lists.specs.Booleans.{T_and, T-and-l, T-and-r, same_test}
use Rattle.lists.specs.TestLaws.{all-fails}
use Rattle.lists.specs.AnyAll.{all_same}
use Rattle.rules.specs.Page.{Point, ◌⊕◌, opposite, Shape}
use Rattle.rules.specs.Flat.{flat, flat_place, cell_at}
use Rattle.rules.specs.Groups.{entry, members}
use Rattle.rules.specs.Turns.{apply}
use Rattle.rules.specs.Shapes.{sort, lessℤ, normal, turned, same_point, shape_of, shift_by, flat_transforms}
use Rattle.laws.specs.SameLaws.{same_point→eq, same_point-refl}
use Rattle.laws.specs.PointLaws.{point-eq}
use Rattle.laws.specs.ShapeLaws.{turned-keep}
use Rattle.laws.specs.SortLaws.{Ascending}
use Rattle.laws.proofs.FlatShapes.{members-ascend}
use Rattle.groups.specs.declared.Grouping.{Grouping}
use Rattle.groups.specs.Grouping.{numbers_in}
use Rattle.shapes.specs.RowLaws.{transforms-rows}
use Rattle.shapes.specs.FixLaws.{fixes-within, image-normal}
use Rattle.shapes.specs.Rows.{turn_at, image, fixes, rows_of}
use Rattle.shapes.specs.Outlines.{rows_in, columns_in, cell_count}
use Rattle.shapes.specs.Spots.{place_at, least_image, onto_shift, cell_spot, cell_spots, cell_in, has_cell, has_cell_in}
use Rattle.shapes.specs.Spots.{within, places, joints, UnitAt}
use Rattle.shapes.specs.SpotLaws.{first-spot, length-spots, all-spots}
use Rattle.shapes.specs.Pairs.{point_at}
use Rattle.rules.specs.Turns as Turns

ltb-zero : (n : ℕ) → ltb n 0 ≡ true → ⊥
ltb-zero n e = let l = ltb-true n 0 e in omega arith

module _ (h w : ℕ) (number : ℕ → ℕ) (g : ℕ) (index : 1 ≤ w) where
  abbrev own : ℕ → Bool
  own x = eqb (number x) g

  pub places-ascend : Ascending (places h w number g)
  unfolding places flat
  places-ascend = members-ascend h w index number g

  -- the place of a cell of the page
  pub shape-place-at : (y x : ℕ) → x < w → flat_place h w (cell_at h w y x) ≡ place_at y x
  unfolding flat_place cell_at
  shape-place-at y x l = rw (digits_div y l, digits_mod y l)

  cell-lt : (y x : ℕ) → y < h → x < w → cell_at h w y x < h * w
  unfolding cell_at
  cell-lt y x a b = digits_lt a b

  has-place : (c : ℕ) → c < h * w → T (own c) → T (has_cell h w number g (flat_place h w c))
  unfolding has_cell cell_in flat_place cell_at
  has-place c l t =
      T_and (ltb (c / w) h && ltb (c % w) w) _
      (T_and (ltb (c / w) h) (ltb (c % w) w) (lt→ltb (c / w) h ((div-lt_iff_lt-mul {k = w} (omega arith)).1 l))
      (lt→ltb (c % w) w (mod-lt c (omega arith))))
      (rw (div-add-mod' c w) t)

  cell_in_lem : (c : ℕ) → c ∈ members (flat h w) number g → c < h * w
  unfolding members flat
  cell_in_lem c m = range-lt (h * w) (filter-mem own (range (h * w)) m)

  cell-own : (c : ℕ) → c ∈ members (flat h w) number g → T (own c)
  unfolding members flat
  cell-own c m = filter-test own (range (h * w)) m

  place-has : (z : Point) → T (has_cell h w number g z)
      → (c : ℕ) × c ∈ members (flat h w) number g × (z ≡ flat_place h w c)
  unfolding has_cell cell_in members flat
  place-has z t = go z.layer z.row z.column refl refl refl t
    where
      at : (y x : ℕ) → z ≡ place_at y x → T (ltb y h && ltb x w && own (cell_at h w y x))
          → (c : ℕ) × c ∈ filter own (range (h * w)) × (z ≡ flat_place h w c)
      at y x e u =
          let v = T-and-l (ltb y h && ltb x w) (own (cell_at h w y x)) u in
          let hy = ltb→lt y h (T-and-l (ltb y h) (ltb x w) v) in
          let hx = ltb→lt x w (T-and-r (ltb y h) (ltb x w) v) in (
            cell_at h w y x,
            mem-filter own (range (h * w)) (mem-range (h * w) (cell-lt y x hy hx))
                (T-and-r (ltb y h && ltb x w) (own (cell_at h w y x)) u),
            e ∙ sym (shape-place-at y x hx),
          )

      go : (l y x : ℤ) → z.layer ≡ l → z.row ≡ y → z.column ≡ x → T (has_cell_in h w number g l y x)
          → (c : ℕ) × c ∈ filter own (range (h * w)) × (z ≡ flat_place h w c)
      go (pos zero) (pos y) (pos x) a b c u = at y x (point-eq a b c) u
      go (pos zero) (pos y) (negsuc x) a b c u = absurd u
      go (pos zero) (negsuc y) x a b c u = absurd u
      go (pos (suc l)) y x a b c u = absurd u
      go (negsuc l) y x a b c u = absurd u

  -- a place is among the group's places exactly if the page has a cell of the group there
  pub among-places : (z : Point) → any (same_point z) (places h w number g) ≡ has_cell h w number g z
  unfolding places flat
  among-places z =
      same_test (any (same_point z) ps) (has_cell h w number g z)
      (λ t.
      let r = any-find (same_point z) ps t in
      let c = map-find (flat_place h w) (members (flat h w) number g) r.1 in
      subst (λ (q : Point). T (has_cell h w number g q)) (sym (same_point→eq z r.0 r.2 ∙ c.2))
      (has-place c.0 (cell_in_lem c.0 c.1) (cell-own c.0 c.1)))
      (λ t.
      let c = place-has z t in
      any-mem (same_point z) ps (mem-map (flat_place h w) c.1)
      (subst (λ (q : Point). T (same_point z q)) c.2 (same_point-refl z)))
    where
      ps : List Point
      ps = map (flat_place h w) (members (flat h w) number g)

  -- the shape of the group, by its places and connections where they stand
  abbrev shape : Shape
  shape = shape_of (flat h w) number g

  pub shape_is : shape_of (flat h w) number g ≡ normal (places h w number g) (joints h w number g)
  unfolding shape_of places joints
  shape_is = refl

  pub transforms-flat : flat_transforms shape ≡ map (λ r. image r shape) (rows_of shape)
  transforms-flat =
      transforms-rows shape
      (ap (turned (apply Turns.keep)) shape_is
      ∙ (turned-keep (places h w number g) (joints h w number g) places-ascend ∙ sym shape_is))

  module _ (P : List Point) (here : P ≡ places h w number g) (full : 1 ≤ length P) where
    -- a row leaves the shape exactly if every image, laid on the first cell, is a cell of the group
    pub fixes-cells : (r : ℕ) → fixes shape r
        ≡ all (λ q. has_cell h w number g (apply (turn_at r) q ⊕ onto_shift r P)) P
    fixes-cells r =
        ap (λ t. fixes t r) (shape_is ∙ ap (λ l. normal l (joints h w number g)) (sym here))
        ∙ go P here full
      where
        go : (qs : List Point) → qs ≡ places h w number g → 1 ≤ length qs
            → fixes (normal qs (joints h w number g)) r
            ≡ all (λ q. has_cell h w number g (apply (turn_at r) q ⊕ onto_shift r qs)) qs
        go [] e l = absurd (omega arith)
        go (p ∷ ps) e l =
            fixes-within r p ps (joints h w number g) (subst Ascending (sym e) places-ascend)
            ∙ all_same _ _ (p ∷ ps)
            (λ q m. ap (any (same_point (apply (turn_at r) q ⊕ onto_shift r (p ∷ ps)))) e
            ∙ among-places (apply (turn_at r) q ⊕ onto_shift r (p ∷ ps)))

    -- the cells of an image: turned, sorted, and shifted back by the first image
    pub image-places : (r : ℕ) → (image r shape).cells
        ≡ shift_by (opposite (least_image r P)) (sort (map (apply (turn_at r)) P))
    image-places r =
        ap (λ t. (image r t).cells) (shape_is ∙ ap (λ l. normal l (joints h w number g)) (sym here))
        ∙ go P full
      where
        go : (qs : List Point) → 1 ≤ length qs → (image r (normal qs (joints h w number g))).cells
            ≡ shift_by (opposite (least_image r qs)) (sort (map (apply (turn_at r)) qs))
        go [] l = absurd (omega arith)
        go (p ∷ ps) l = ap (λ t. t.cells) (image-normal r p ps (joints h w number g))

    -- the connections of an image: turned, and shifted back by twice the first image
    pub image-joints : (r : ℕ) → let m : Point = least_image r P in
        (image r shape).connections ≡ shift_by (opposite m ⊕ opposite m) (map (apply (turn_at r)) (joints h w number g))
    image-joints r =
        ap (λ t. (image r t).connections) (shape_is ∙ ap (λ l. normal l (joints h w number g)) (sym here))
        ∙ go P full
      where
        go : (qs : List Point) → 1 ≤ length qs → let m : Point = least_image r qs in
            (image r (normal qs (joints h w number g))).connections
            ≡ shift_by (opposite m ⊕ opposite m) (map (apply (turn_at r)) (joints h w number g))
        go [] l = absurd (omega arith)
        go (p ∷ ps) l = ap (λ t. t.connections) (image-normal r p ps (joints h w number g))

-- the tests of the code, one law for each answer
module _ (h w : ℕ) (number : ℕ → ℕ) (g : ℕ) where
  pub in-below : (y x : ℕ) → h ≤ y → cell_in h w number g y x ≡ false
  unfolding cell_in
  in-below y x l = rw (le-ltb y h l)

  pub in-beside : (y x : ℕ) → y < h → w ≤ x → cell_in h w number g y x ≡ false
  unfolding cell_in
  in-beside y x k l = rw (lt-ltb y h k, le-ltb x w l)

  pub in-page : (y x n : ℕ) → y < h → x < w → n ≡ number (y * w + x) → cell_in h w number g y x ≡ eqb n g
  unfolding cell_in cell_at
  in-page y x n k l e = rw (lt-ltb y h k, lt-ltb x w l, e)

  pub shape-off-above : (y x : ℤ) → lessℤ y (pos 0) ≡ true → has_cell h w number g (point_at y x) ≡ false
  unfolding has_cell
  shape-off-above (pos y) x e = absurd (ltb-zero y e)
  shape-off-above (negsuc y) x e = refl

  pub shape-off-left : (y x : ℤ) → lessℤ x (pos 0) ≡ true → has_cell h w number g (point_at y x) ≡ false
  unfolding has_cell
  shape-off-left (pos y) (pos x) e = absurd (ltb-zero x e)
  shape-off-left (pos y) (negsuc x) e = refl
  shape-off-left (negsuc y) x e = refl

  pub on-page : (y x : ℤ) → lessℤ y (pos 0) ≡ false → lessℤ x (pos 0) ≡ false
      → has_cell h w number g (point_at y x) ≡ cell_in h w number g (nat_abs y) (nat_abs x)
  unfolding has_cell
  on-page (pos y) (pos x) d e = refl
  on-page (pos y) (negsuc x) d e = let z : ◌≡◌ {A = Bool} true false = e in absurd (true≢false z)
  on-page (negsuc y) x d e = let z : ◌≡◌ {A = Bool} true false = d in absurd (true≢false z)

-- the loop that tests every image
module _ (h w : ℕ) (ids : List ℕ) (g : ℕ) (o : List ℕ) (r : ℕ) (v : Point) where
  pub within-fails : (i : ℕ) → i < cell_count o
      → has_cell h w (entry ids) g (apply (turn_at r) (cell_spot o i) ⊕ v) ≡ false
      → within h w (entry ids) g o r v ≡ false
  unfolding within
  within-fails i l e = all-fails (cell_count o) _ i l e

  pub within_all : all_below (cell_count o)
      (λ i. has_cell h w (entry ids) g (apply (turn_at r) (cell_spot o i) ⊕ v)) ≡ true
      → within h w (entry ids) g o r v ≡ true
  unfolding within
  within_all e = e

-- laid on the first cell: the row leaves the shape
pub within-fixes : (h w : ℕ) (units : Grouping) (g : ℕ) (o : List ℕ) (r : ℕ) (v : Point) → UnitAt h w units g o
    → v ≡ opposite (least_image r (cell_spots o)) ⊕ cell_spot o 0
    → within h w (entry (numbers_in units)) g o r v ≡ fixes (shape_of (flat h w) (entry (numbers_in units)) g) r
unfolding within onto_shift
within-fixes h w units g o r v u e =
    let s = u.spotted in
    let number = entry (numbers_in units) in
    let R = rows_in o in
    let C = columns_in o in
    let n = cell_count o in
    let P = cell_spots o in
    let k : v ≡ onto_shift r P = e ∙ ap (λ p. opposite (least_image r P) ⊕ p) (sym (first-spot R C n s.some)) in
    sym (fixes-cells h w number g u.sized.columns P u.here (rw (length-spots R C n) s.some) r
    ∙ (all-spots (λ q. has_cell h w number g (apply (turn_at r) q ⊕ onto_shift r P)) R C n
    ∙ ap (λ z. all_below n (λ i. has_cell h w number g (apply (turn_at r) (cell_spot o i) ⊕ z))) (sym k)))

pub landed : {b t : Bool} (h w : ℕ) (number : ℕ → ℕ) (g : ℕ) (p q v : Point) → b ≡ has_cell h w number g (p ⊕ v) → p ≡ q
    → b ≡ t → has_cell h w number g (q ⊕ v) ≡ t
landed h w number g p q v d e f = sym (ap (λ z. has_cell h w number g (z ⊕ v)) e) ∙ (sym d ∙ f)
