-- Which rows leave a shape as it is, without a sort: every image, shifted onto the first cell, is a cell.
use Rattle.std.specs.Prelude.{◌≡◌, List, ◌∷◌, map, ℕ, zero, suc, T}
use Rattle.std.proofs.Math.Path.{refl, sym}
use Rattle.std.proofs.Common.{ap, ◌∙◌, subst}
use Rattle.std.proofs.Math.Bool.{xor}
use mathlib.Core.List.Memᴰ
use Rattle.std.proofs.lemmas.List.{length-map}
use Rattle.lists.specs.Lists.{◌∈◌, any, all}
use Rattle.lists.specs.ListLaws.{mem-map, map-find, any-mem, any-find, all-mem, mem-all}
use Rattle.lists.specs.Pairs.{distinct-map}
use Rattle.lists.specs.Booleans.{same_test}
use Rattle.rules.specs.Page.{Point, ◌⊕◌, opposite}
use Rattle.rules.specs.Turns.{Turn, apply, compose, keep, half, quarter, half_quarter, flip, flip_half, flip_quarter}
use Rattle.rules.specs.Turns.{flip_half_quarter}
use Rattle.rules.specs.Shapes.{normal, shift_by, sort, same_point, same_points}
use Rattle.laws.specs.SameLaws.{same_point→eq, same_point-refl, same_points→eq, same-when}
use Rattle.laws.specs.PointLaws.{add_assoc, add_comm, add-origin, add-opposite, add_back}
use Rattle.laws.specs.SortLaws.{sort-ascends, ascending-distinct, ascending-count, mem-sort, sort-mem, length-sort}
use Rattle.laws.specs.SortLaws.{shift-ascends, Ascending, mem-shift, shift-find, length_shift}
use Rattle.laws.specs.TurnLaws.{apply-compose, apply-keep}
use Rattle.laws.specs.ShapeLaws.{turned-normal, shift-shift}
use Rattle.shapes.specs.OrderLaws.{sort-least}
use Rattle.shapes.specs.Rows.{turn_at, image, fixes}
use Rattle.shapes.specs.Spots.{least_image, onto_shift}

-- every row is undone by a row
undoes : (r : ℕ) → (b : Turn) × (compose b (turn_at r) ≡ keep)
unfolding xor
undoes zero = (keep, refl)
undoes (suc zero) = (half, refl)
undoes (suc (suc zero)) = (quarter, refl)
undoes (suc (suc (suc zero))) = (half_quarter, refl)
undoes (suc (suc (suc (suc zero)))) = (flip, refl)
undoes (suc (suc (suc (suc (suc zero))))) = (flip_half, refl)
undoes (suc (suc (suc (suc (suc (suc zero)))))) = (flip_half_quarter, refl)
undoes (suc (suc (suc (suc (suc (suc (suc zero))))))) = (flip_quarter, refl)
undoes (suc (suc (suc (suc (suc (suc (suc (suc r)))))))) = (keep, refl)

pub row-inj : (r : ℕ) (p q : Point) → apply (turn_at r) p ≡ apply (turn_at r) q → p ≡ q
row-inj r p q e =
    let b = undoes r in
    let back : (z : Point) → apply b.0 (apply (turn_at r) z) ≡ z =
    λ z. sym (apply-compose b.0 (turn_at r) z) ∙ (ap (λ d. apply d z) b.1 ∙ apply-keep z) in
    sym (back p) ∙ (ap (apply b.0) e ∙ back q)

-- the first image is the first of the images in order
pub least-image : (r : ℕ) (p : Point) (ps : List Point)
    → (rest : List Point) × (sort (map (apply (turn_at r)) (p ∷ ps)) ≡ least_image r (p ∷ ps) ∷ rest)
unfolding least_image
least-image r p ps = sort-least (apply (turn_at r) p) (map (apply (turn_at r)) ps)

-- a turned shape, each place by itself: turned, and shifted back by the first image (twice for a connection)
pub image-normal : (r : ℕ) (p : Point) (ps js : List Point) → let m : Point = least_image r (p ∷ ps) in
    image r (normal (p ∷ ps) js)
    ≡ record {
      cells = shift_by (opposite m) (sort (map (apply (turn_at r)) (p ∷ ps)));
      connections = shift_by (opposite m ⊕ opposite m) (map (apply (turn_at r)) js);
    }
unfolding image normal
image-normal r p ps js =
    let e = least-image r p ps in
    turned-normal (turn_at r) (p ∷ ps) js ∙ rw e.1

-- laid on the first cell
land : (q m p : Point) → (q ⊕ opposite m) ⊕ p ≡ q ⊕ (opposite m ⊕ p)
land q m p = add_assoc q (opposite m) p

lift : (q m p : Point) → (q ⊕ (opposite m ⊕ p)) ⊕ opposite p ≡ q ⊕ opposite m
lift q m p = ap (λ z. z ⊕ opposite p) (sym (land q m p)) ∙ add_back (q ⊕ opposite m) p

off : (q p : Point) → (q ⊕ opposite p) ⊕ p ≡ q
off q p = add_assoc q (opposite p) p ∙ (ap (λ z. q ⊕ z) (add_comm (opposite p) p ∙ add-opposite p) ∙ add-origin q)

module _ (r : ℕ) (p : Point) (ps js : List Point) (s : Ascending (p ∷ ps)) where
  abbrev L : List Point
  L = p ∷ ps

  abbrev g : Point → Point
  g = apply (turn_at r)

  abbrev m : Point
  m = least_image r L

  abbrev laid : Point → Point
  laid q = g q ⊕ onto_shift r L

  onto-is : (q : Point) → g q ⊕ (opposite m ⊕ p) ≡ laid q
  unfolding onto_shift
  onto-is q = refl

  image-cells : (image r (normal L js)).cells ≡ shift_by (opposite m) (sort (map g L))
  image-cells = ap (λ t. t.cells) (image-normal r p ps js)

  own-cells : (normal L js).cells ≡ shift_by (opposite p) L
  unfolding normal
  own-cells = refl

  sorted-images : Ascending (sort (map g L))
  sorted-images = sort-ascends (map g L) (distinct-map g (row-inj r) L (ascending-distinct L s))

  there : shift_by (opposite p) L ≡ shift_by (opposite m) (sort (map g L)) → (q : Point) → q ∈ L
      → T (any (same_point (laid q)) L)
  there e q n =
      let a = mem-shift (opposite m) (mem-sort (map g L) (mem-map g n)) in
      let b = shift-find (opposite p) L (subst (λ (l : List Point). (g q ⊕ opposite m) ∈ l) (sym e) a) in
      let k : laid q ≡ b.0 =
      sym (onto-is q) ∙ (sym (land (g q) m p) ∙ (ap (λ z. z ⊕ p) b.2 ∙ off b.0 p)) in
      any-mem (same_point (laid q)) L b.1 (rw k (same_point-refl b.0))

  back : ((q : Point) → q ∈ L → T (any (same_point (laid q)) L))
      → shift_by (opposite p) L ≡ shift_by (opposite m) (sort (map g L))
  back f =
      let e : shift_by (opposite m ⊕ p) (sort (map g L)) ≡ L =
      ascending-count (shift_by (opposite m ⊕ p) (sort (map g L))) L
      (shift-ascends (opposite m ⊕ p) (sort (map g L)) sorted-images) s inside
      (length_shift (opposite m ⊕ p) (sort (map g L)) ∙ (length-sort (map g L) ∙ length-map L g)) in
      sym (ap (shift_by (opposite p)) e)
      ∙ shift-shift (opposite m ⊕ p) (opposite p) (opposite m) (λ q. lift q m p) (sort (map g L))
    where
      inside : (z : Point) → z ∈ shift_by (opposite m ⊕ p) (sort (map g L)) → z ∈ L
      inside z n =
          let a = shift-find (opposite m ⊕ p) (sort (map g L)) n in
          let b = map-find g L (sort-mem (map g L) a.1) in
          let c = any-find (same_point (laid b.0)) L (f b.0 b.1) in
          let k : z ≡ c.0 =
          a.2 ∙ (ap (λ q. q ⊕ (opposite m ⊕ p)) b.2
          ∙ (onto-is b.0 ∙ same_point→eq (laid b.0) c.0 c.2)) in
          Memᴰ.cast k c.1

  pub fixes-within : fixes (normal L js) r ≡ all (λ q. any (same_point (apply (turn_at r) q ⊕ onto_shift r L)) L) L
  unfolding fixes
  fixes-within =
      same_test (same_points (normal L js).cells (image r (normal L js)).cells)
      (all (λ q. any (same_point (laid q)) L) L)
      (λ t. mem-all (λ q. any (same_point (laid q)) L) L
      (there (sym own-cells ∙ (same_points→eq (normal L js).cells (image r (normal L js)).cells t ∙ image-cells))))
      (λ t. same-when (normal L js).cells (image r (normal L js)).cells
      (own-cells
      ∙ (back (λ q n. all-mem (λ q. any (same_point (laid q)) L) L t n) ∙ sym image-cells)))
