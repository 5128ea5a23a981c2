-- The places of the box that are cells of an image are the image's cells, sorted.
use Rattle.std.specs.Prelude.{◌≡◌, refl, Bool, true, false, cond, List, map, ℕ, zero, suc, ◌+◌, ◌-◌, ◌*◌, ◌<◌, ℤ, pos}
use Rattle.std.specs.Prelude.{negsuc, neg_ℤ, ◌+ℤ◌, ◌*ℤ◌, get_or}
use Rattle.std.proofs.Math.Path.{sym, ap, subst}
use Rattle.std.proofs.Common.{◌∙◌, inl, inr, arith, le-ltb}
use Rattle.std.proofs.Math.Bool.{xor}
use mathlib.Core.List.Memᴰ
use Rattle.std.proofs.Math.Arith.{digits_lt, digits_div, digits_mod}
use Rattle.std.proofs.Math.Dec.{T}
use Rattle.std.proofs.Math.IntN.{+ℤ-neg_ℤ_cancel, neg_ℤ-neg_ℤ}
use Rattle.std.specs.Int.Signed.{mag}
use Rattle.lists.specs.Lists.{◌∈◌, filter, any, range}
use Rattle.lists.specs.ListLaws.{mem-map, map-find, any-mem, any-find, mem-filter, filter-test}
use Rattle.lists.specs.Pairs.{distinct-map}
use Rattle.lists.specs.TableLaws.{table-find}
use Rattle.lists.specs.Ranges.{mem-range}
use Rattle.lists.specs.Maps.{map-map}
use Rattle.lists.specs.UpToLaws.{up-filter}
use Rattle.rules.specs.Page.{Point, ◌⊕◌, opposite}
use Rattle.rules.specs.Flat.{flat_place}
use Rattle.rules.specs.Groups.{entry}
use Rattle.rules.specs.Turns.{apply, compose, keep, plus, layerward}
use Rattle.rules.specs.Shapes.{sort, shift_by, same_point}
use Rattle.laws.specs.SameLaws.{same_point→eq, same_point-refl}
use Rattle.laws.specs.PointLaws.{point-eq}
use Rattle.laws.specs.TurnLaws.{apply-compose, apply-keep}
use Rattle.laws.specs.SortLaws.{Ascending, mem-sort, sort-mem, sort-ascends, ascending-distinct, ascending-same}
use Rattle.laws.specs.SortLaws.{shift-ascends}
use Rattle.laws.proofs.FlatShapes.{filter-ascends}
use Rattle.groups.specs.declared.Grouping.{Grouping}
use Rattle.groups.specs.Grouping.{numbers_in}
use Rattle.shapes.specs.declared.Pair.{Pair}
use Rattle.shapes.specs.declared.Signs.{Signs}
use Rattle.shapes.specs.Pairs.{point_at, point_of, Sign, BothSigns, turn_by}
use Rattle.shapes.specs.PairLaws.{one-times, minus-times}
use Rattle.shapes.specs.FixLaws.{row-inj}
use Rattle.shapes.specs.Rows.{turn_at}
use Rattle.shapes.specs.Outlines.{rows_in, columns_in, cell_count}
use Rattle.shapes.specs.Spots.{has_cell, spots, cell_spot, cell_spots, NearSpot, UnitAt}
use Rattle.shapes.specs.SpotLaws.{near-image}
use Rattle.shapes.specs.UnitLaws.{among-places, places-ascend}
use Rattle.transforms.specs.Box.{undone_by, reversed, corner, box_at, box_size, of_image, box_cell, sweep}

-- a row and the one that undoes it, either first; the layer stays
abbrev Undoes : ℕ → Type 0
Undoes r =
    (compose (turn_at (undone_by r)) (turn_at r) ≡ keep)
    × (compose (turn_at r) (turn_at (undone_by r)) ≡ keep)
    × ((turn_at r).layers ≡ plus layerward)

undoes : (r : ℕ) → Undoes r
unfolding xor
undoes zero = (refl, refl, refl)
undoes (suc zero) = (refl, refl, refl)
undoes (suc (suc zero)) = (refl, refl, refl)
undoes (suc (suc (suc zero))) = (refl, refl, refl)
undoes (suc (suc (suc (suc zero)))) = (refl, refl, refl)
undoes (suc (suc (suc (suc (suc zero))))) = (refl, refl, refl)
undoes (suc (suc (suc (suc (suc (suc zero)))))) = (refl, refl, refl)
undoes (suc (suc (suc (suc (suc (suc (suc zero))))))) = (refl, refl, refl)
undoes (suc (suc (suc (suc (suc (suc (suc (suc r)))))))) = (refl, refl, refl)

pub undo-turn : (r : ℕ) (p : Point) → apply (turn_at (undone_by r)) (apply (turn_at r) p) ≡ p
undo-turn r p =
    sym (apply-compose (turn_at (undone_by r)) (turn_at r) p) ∙ (ap (λ t. apply t p) (undoes r).0 ∙ apply-keep p)

turn-undo : (r : ℕ) (p : Point) → apply (turn_at r) (apply (turn_at (undone_by r)) p) ≡ p
turn-undo r p =
    sym (apply-compose (turn_at r) (turn_at (undone_by r)) p) ∙ (ap (λ t. apply t p) (undoes r).1 ∙ apply-keep p)

-- the way back as the code has it
sign-twice : (s z : ℤ) → Sign s → s *ℤ (s *ℤ z) ≡ z
sign-twice s z (inl e) = rw e (one-times (pos 1 *ℤ z) ∙ one-times z)
sign-twice s z (inr e) = rw e (minus-times (negsuc 0 *ℤ z) ∙ (ap neg_ℤ (minus-times z) ∙ neg_ℤ-neg_ℤ z))

pub signs-reversed : {s : Signs} → BothSigns s → BothSigns (reversed s)
signs-reversed {s} b = go s.swap
  where
    go : (t : Bool)
        → BothSigns (record { swap = t; down = cond t s.across s.down; across = cond t s.down s.across })
    go true = record { down = b.across; across = b.down }
    go false = record { down = b.down; across = b.across }

pub turn-reversed : {s : Signs} → BothSigns s → (y x : ℤ) → let p : Pair = turn_by (reversed s) y x in
    point_of (turn_by s p.y p.x) ≡ point_at y x
unfolding turn_by
turn-reversed {s} b y x = go s.swap refl
  where
    go : (t : Bool) → s.swap ≡ t → let p : Pair = turn_by (reversed s) y x in
        point_of (turn_by s p.y p.x) ≡ point_at y x
    go true e = rw e (point-eq refl (sign-twice s.down y b.down) (sign-twice s.across x b.across))
    go false e = rw e (point-eq refl (sign-twice s.down y b.down) (sign-twice s.across x b.across))

same-layer : (r : ℕ) (p : Point) → (apply (turn_at r) p).layer ≡ p.layer
unfolding apply
same-layer r p = rw (undoes r).2

-- a coordinate from -33 to 32 is one of 66
raise : (z : ℤ) → mag z < 33 → (a : ℕ) × (a < 66) × (pos a +ℤ negsuc 32 ≡ z)
raise (pos n) h = (n + 33, omega arith, +ℤ-neg_ℤ_cancel (pos n) (pos 33))
raise (negsuc n) h =
    let e : pos (33 - suc n) ≡ negsuc n +ℤ pos 33 = rw (le-ltb 33 (suc n) (omega arith)) in (
      33 - suc n,
      omega arith,
      ap (λ k. k +ℤ negsuc 32) e ∙ +ℤ-neg_ℤ_cancel (negsuc n) (pos 33),
    )

-- a place near the page is in the box
in-box : (p : Point) → p.layer ≡ pos 0 → NearSpot p → (i : ℕ) × (i < box_size) × (box_at i ≡ p)
unfolding box_at flat_place ◌⊕◌
in-box p e n =
    let a = raise p.row n.row in
    let b = raise p.column n.column in (
      a.0 * 66 + b.0,
      digits_lt a.1 b.1,
      point-eq (sym e) (rw (digits_div a.0 b.1) a.2) (rw (digits_mod a.0 b.1) b.2),
    )

module _ {h w : ℕ} {units : Grouping} {g : ℕ} {o : List ℕ} (u : UnitAt h w units g o) (r : ℕ) where
  abbrev number : ℕ → ℕ
  number = entry (numbers_in units)

  abbrev there : ℕ → Bool
  there i = of_image h w number g r (box_at i)

  abbrev found : List Point
  found = map box_at (filter there (range box_size))

  abbrev P : List Point
  P = cell_spots o

  abbrev turn : Point → Point
  turn = apply (turn_at r)

  found-sorted : Ascending found
  unfolding box_at shift_by
  found-sorted =
      subst Ascending (map-map (λ p. p ⊕ corner) (flat_place 66 66) (filter there (range box_size)))
      (shift-ascends corner (map (flat_place 66 66) (filter there (range box_size)))
      (filter-ascends 66 66 (omega arith) there box_size))

  images-sorted : Ascending (sort (map turn P))
  images-sorted =
      sort-ascends (map turn P)
      (distinct-map turn (row-inj r) P
      (ascending-distinct P (subst Ascending (sym u.here) (places-ascend h w number g u.sized.columns))))

  -- a cell of the unit, on the page and among its places
  own : (z : Point) → any (same_point z) P ≡ has_cell h w number g z
  own z = ap (any (same_point z)) u.here ∙ among-places h w number g u.sized.columns z

  found-image : (z : Point) → z ∈ found → z ∈ sort (map turn P)
  unfolding of_image
  found-image z m =
      let i = map-find box_at (filter there (range box_size)) m in
      let t = filter-test there (range box_size) i.1 in
      let q = apply (turn_at (undone_by r)) (box_at i.0) in
      let k = any-find (same_point q) P (subst T (sym (own q)) t) in
      let e : z ≡ turn k.0 = i.2 ∙ (sym (turn-undo r (box_at i.0)) ∙ ap turn (same_point→eq q k.0 k.2)) in
      mem-sort (map turn P) (Memᴰ.cast e (mem-map turn k.1))

  image-found : (z : Point) → z ∈ sort (map turn P) → z ∈ found
  unfolding of_image spots
  image-found z m =
      let q = map-find turn P (sort-mem (map turn P) m) in
      let j = table-find (cell_count o) (cell_spot o) q.1 in
      let s = u.spotted in
      let e : z ≡ turn (cell_spot o j.0) = q.2 ∙ ap turn j.2 in
      let b = in-box (turn (cell_spot o j.0)) (same-layer r (cell_spot o j.0))
      (near-image r (get_or (rows_in o) j.0 0) (get_or (columns_in o) j.0 0) (s.down j.0 j.1)
      (s.across j.0 j.1)) in
      let back : apply (turn_at (undone_by r)) (box_at b.0) ≡ q.0 =
      ap (apply (turn_at (undone_by r))) (b.2 ∙ ap turn (sym j.2)) ∙ undo-turn r q.0 in
      let has : T (has_cell h w number g q.0) =
      subst T (own q.0) (any-mem (same_point q.0) P q.1 (same_point-refl q.0)) in
      Memᴰ.cast (e ∙ sym b.2)
      (mem-map box_at (mem-filter there (range box_size) (mem-range box_size b.1)
      (subst (λ (p : Point). T (has_cell h w number g p)) (sym back) has)))

  found-is : found ≡ sort (map turn P)
  found-is = ascending-same found (sort (map turn P)) found-sorted images-sorted found-image image-found

  -- what the loop gathers
  pub sweep-is : (m : Point) → sweep h w (entry (numbers_in units)) g r m box_size
      ≡ shift_by (opposite m) (sort (map turn P))
  unfolding sweep box_cell shift_by
  sweep-is m =
      up-filter (λ j. box_at j ⊕ opposite m) there box_size
      ∙ (sym (map-map (λ p. p ⊕ opposite m) box_at (filter there (range box_size)))
      ∙ ap (shift_by (opposite m)) found-is)
