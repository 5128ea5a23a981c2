-- Writing places one after the other, and an image as the code writes it.
use Rattle.std.specs.Prelude.{◌≡◌, refl, true, false, ℕ, ◌+◌, ◌*◌, ◌<◌, ◌≤◌, ℤ, length, set}
use Rattle.std.proofs.Math.Path.{sym, ap, ap₂}
use Rattle.std.proofs.Common.{◌∙◌, add-one, arith}
use mathlib.Core.List.{List, [], ◌∷◌, ◌++◌, map, map-append}
use Rattle.std.proofs.lemmas.List.{length-map}
use Rattle.std.proofs.Math.Seq.{sets}
use Rattle.lists.specs.Lists.{flat_map}
use Rattle.lists.specs.Table.{table}
use Rattle.lists.specs.UpToLaws.{up_fits}
use Rattle.lists.specs.WroteLaws.{wrote_none, wrote_one, wrote-same, wrote-more, wrote-length, wrote-place, loop-none}
use Rattle.lists.specs.WroteLaws.{loop-more}
use Rattle.rules.specs.Page.{Point, ◌⊕◌, opposite, Shape}
use Rattle.rules.specs.Flat.{flat}
use Rattle.rules.specs.Groups.{entry}
use Rattle.rules.specs.Turns.{apply}
use Rattle.rules.specs.Shapes.{sort, shift_by, shape_of}
use Rattle.laws.specs.SortLaws.{length-sort, length_shift}
use Rattle.groups.specs.declared.Grouping.{Grouping}
use Rattle.groups.specs.Grouping.{numbers_in}
use Rattle.shapes.specs.Rows.{turn_at, image}
use Rattle.shapes.specs.Outlines.{rows_in, columns_in, down_in, across_in, cell_count, joint_count}
use Rattle.shapes.specs.Spots.{spot_at, spots, cell_spots, joint_spots, least_image, UnitAt}
use Rattle.shapes.specs.SpotLaws.{length-spots, spots-more}
use Rattle.shapes.specs.UnitLaws.{image-places}
use Rattle.shapes.specs.Joints.{OutlineJoined}
use Rattle.shapes.specs.Images.{image_joints}
use Rattle.shapes.specs.ImageLaws.{image-is}
use Rattle.transforms.specs.Transforms.{down_across, words, WrotePoints}
use Rattle.transforms.specs.Box.{box_at, box_size, of_image, box_cell, sweep, moved_back}
use Rattle.transforms.specs.BoxLaws.{sweep-is}

-- one place, and the next number's place
pub wrote-point : (m : List ℤ) (from : ℕ) {y x : ℤ} (p : Point) → y ≡ p.row → x ≡ p.column
    → WrotePoints m from (p ∷ []) (set (set m from y) (from + 1) x) (from + 2)
wrote-point m from p d e = rw (d, e, add-one from) (wrote_one m from p)

pub points-next : {m m' : List ℤ} {from a : ℕ} {ps : List Point} → WrotePoints m from ps m' a
    → a ≡ from + 2 * length ps
points-next w = wrote-place w 2 (λ p. refl)

-- the loop over the box
module _ (h w : ℕ) (number : ℕ → ℕ) (g r : ℕ) (m : Point) where
  abbrev cells : ℕ → List Point
  cells = sweep h w number g r m

  abbrev cell : ℕ → List Point
  cell = box_cell h w number g r m

  pub cell-yes : (i : ℕ) → of_image h w number g r (box_at i) ≡ true → box_cell h w number g r m i
      ≡ (box_at i ⊕ opposite m) ∷ []
  unfolding box_cell
  cell-yes i e = rw e

  pub cell-no : (i : ℕ) → of_image h w number g r (box_at i) ≡ false → box_cell h w number g r m i ≡ []
  unfolding box_cell
  cell-no i e = rw e

  pub sweep-start : (l : List ℤ) → WrotePoints l 0 (sweep h w number g r m 0) l 0
  unfolding sweep
  sweep-start l = loop-none cell

  pub sweep-step : {l l' l'' : List ℤ} {a b : ℕ} (i : ℕ) → WrotePoints l 0 (sweep h w number g r m i) l' a
      → WrotePoints l' a (box_cell h w number g r m i) l'' b → WrotePoints l 0 (sweep h w number g r m (i + 1)) l'' b
  unfolding sweep
  sweep-step i x y = loop-more cell i x y

  pub sweep-room : {l l' : List ℤ} {a : ℕ} (i n : ℕ) → i < n → WrotePoints l 0 (sweep h w number g r m i) l' a
      → 2 * length (sweep h w number g r m n) ≤ length l → a + 2 * length (box_cell h w number g r m i) ≤ length l'
  unfolding sweep
  sweep-room i n k x e = omega (arith, points-next x, wrote-length x, up_fits cell n i k)

-- the loop over the connections
module _ (r : ℕ) (m : Point) (D A : List ℕ) where
  abbrev moves : ℕ → List Point
  moves k = moved_back r m (spots D A k)

  pub moved_length : (k : ℕ) → length (moved_back r m (spots D A k)) ≡ k
  unfolding moved_back
  moved_length k =
      length_shift (opposite m ⊕ opposite m) (map (apply (turn_at r)) (spots D A k))
      ∙ (length-map (spots D A k) (apply (turn_at r)) ∙ length-spots D A k)

  moved_more : (j : ℕ) → moves (j + 1)
      ≡ moves j ++ ((apply (turn_at r) (spot_at D A j) ⊕ (opposite m ⊕ opposite m)) ∷ [])
  unfolding moved_back shift_by
  moved_more j =
      let v = opposite m ⊕ opposite m in
      ap (λ ps. map (λ p. p ⊕ v) (map (apply (turn_at r)) ps)) (spots-more D A j)
      ∙ (ap (map (λ p. p ⊕ v)) (map-append (apply (turn_at r)) (spots D A j) (spot_at D A j ∷ []))
      ∙ map-append (λ p. p ⊕ v) (map (apply (turn_at r)) (spots D A j)) (apply (turn_at r) (spot_at D A j) ∷ []))

  pub moved-start : (l : List ℤ) (from : ℕ) → WrotePoints l from (moved_back r m (spots D A 0)) l from
  unfolding moved_back shift_by spots table
  moved-start l from = wrote_none l from

  pub moved-step : {l l' l'' : List ℤ} {from a b : ℕ} {p : Point} (j : ℕ)
      → WrotePoints l from (moved_back r m (spots D A j)) l' a
      → p ≡ apply (turn_at r) (spot_at D A j) ⊕ (opposite m ⊕ opposite m) → WrotePoints l' a (p ∷ []) l'' b
      → WrotePoints l from (moved_back r m (spots D A (j + 1))) l'' b
  moved-step j x e y = wrote-same (ap (λ q. moves j ++ (q ∷ [])) e ∙ sym (moved_more j)) (wrote-more x y)

  pub moved-room : {l l' : List ℤ} {from a : ℕ} (j k : ℕ) → j < k
      → WrotePoints l from (moved_back r m (spots D A j)) l' a → from + 2 * k ≤ length l → a + 2 ≤ length l'
  moved-room j k h x e = omega (arith, points-next x, wrote-length x, moved_length j)

-- the image of a unit
module _ {h w : ℕ} {units : Grouping} {g : ℕ} {o : List ℕ} (u : UnitAt h w units g o) (r : ℕ) where
  abbrev shape : Shape
  shape = shape_of (flat h w) (entry (numbers_in units)) g

  abbrev images : List Point
  images = map (apply (turn_at r)) (cell_spots o)

  spot-count : length (cell_spots o) ≡ cell_count o
  spot-count = length-spots (rows_in o) (columns_in o) (cell_count o)

  cells_are : (image r shape).cells ≡ shift_by (opposite (least_image r (cell_spots o))) (sort images)
  cells_are =
      image-places h w (entry (numbers_in units)) g u.sized.columns (cell_spots o) u.here
      (rw spot-count u.spotted.some) r

  pub cell-count : length (image r shape).cells ≡ cell_count o
  cell-count =
      ap length cells_are
      ∙ (length_shift (opposite (least_image r (cell_spots o))) (sort images)
      ∙ (length-sort images ∙ (length-map (cell_spots o) (apply (turn_at r)) ∙ spot-count)))

  module _ {m : Point} (e : m ≡ least_image r (cell_spots o)) where
    pub swept : sweep h w (entry (numbers_in units)) g r m box_size ≡ (image r shape).cells
    swept = sweep-is u r m ∙ (ap (λ p. shift_by (opposite p) (sort images)) e ∙ sym cells_are)

    module _ (j : OutlineJoined h w units g o) where
      pub moved : moved_back r m (joint_spots o) ≡ (image r shape).connections
      unfolding moved_back image_joints
      moved = ap (λ p. moved_back r p (joint_spots o)) e ∙ sym (image-is u j r)

      pub joint-count : length (image r shape).connections ≡ joint_count o
      joint-count = ap length (sym moved) ∙ moved_length r m (down_in o) (across_in o) (joint_count o)

      -- both parts
      pub image-written : {l l' l'' : List ℤ} {a b : ℕ}
          → WrotePoints l 0 (sweep h w (entry (numbers_in units)) g r m box_size) l' a
          → WrotePoints l' a (moved_back r m (joint_spots o)) l'' b → l'' ≡ sets l 0 (words (image r shape))
      unfolding words
      image-written {l} x y =
          (wrote-more x y).memory ∙ ap₂ (λ ps qs. sets l 0 (flat_map down_across (ps ++ qs))) swept moved
