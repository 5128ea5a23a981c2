-- The connections of a cell on a flat page, by its row and column; the cells of a unit by theirs.
use Rattle.std.specs.Prelude.{◌≡◌, true, false, ◌&&◌, ltb, nat_abs, get_or}
use Rattle.std.proofs.Math.Path.{refl, ap, ap₂}
use Rattle.std.proofs.Common.{sym, ◌∙◌, add-mul, div-add-mod', arith, ltb-true}
use Rattle.std.proofs.Math.Bool.{Bool}
use mathlib.Core.List.{List, [], ◌∷◌, ◌++◌, map, map-append}
use Prim.Native.Nat.{ℕ, ◌+◌, ◌*◌, ◌/◌, ◌%◌, ◌<◌}
use Rattle.std.proofs.Math.Arith.{digits_div, digits_mod}
use Rattle.std.proofs.Math.Dec.{eqb}
use Rattle.std.proofs.Math.IntN.{pos}
use Rattle.lists.specs.Appends.{filter-append}
use Rattle.lists.specs.Lists.{keep_if, filter}
use Rattle.lists.specs.Table.{table}
use Rattle.lists.specs.TableLaws.{map-table}
use Rattle.rules.specs.Page.{Point, ◌⊕◌, Hop}
use Rattle.rules.specs.Flat.{flat, flat_place, cell_at, hop_if, hop_below, hop_right, ahead_at}
use Rattle.rules.specs.Groups.{entry, members}
use Rattle.rules.specs.Shapes.{connections_at}
use Rattle.laws.specs.PointLaws.{point-eq}
use Rattle.groups.specs.declared.Grouping.{Grouping}
use Rattle.groups.specs.Grouping.{numbers_in}
use Rattle.shapes.specs.Outlines.{rows_in, columns_in, cell_count}
use Rattle.shapes.specs.Spots.{place_at, spots, cell_spot, places, UnitAt}
use Rattle.shapes.specs.Joints.{joint_if}

-- one neighbour
hop-joint : (p : ℕ → Bool) (f : ℕ → Point) (b : Bool) (B C Y X : ℕ) → (b ≡ true → f C ≡ place_at Y X)
    → map (λ h. f h.to) (filter (λ h. p h.to) (hop_if b B C)) ≡ joint_if (b && p C) Y X
unfolding filter hop_if
hop-joint p f false B C Y X e = refl
hop-joint p f true B C Y X e = go (p C)
  where
    go : (q : Bool) → map {A = Hop} (λ h. f h.to) (keep_if q (record { border = B; to = C }) []) ≡ joint_if q Y X
    go true = ap (λ z. z ∷ []) (e refl)
    go false = refl

module _ (h w : ℕ) where
  place_is : (c y x : ℕ) → c ≡ y * w + x → x < w → flat_place h w c ≡ place_at y x
  unfolding flat_place
  place_is c y x e l = rw (e, digits_div y l, digits_mod y l)

  sum_is : (a b y x Y X : ℕ) → a + y ≡ Y → b + x ≡ X → place_at a b ⊕ place_at y x ≡ place_at Y X
  unfolding ◌⊕◌
  sum_is a b y x Y X d e = point-eq refl (ap pos d) (ap pos e)

  pub connections-at : (number : ℕ → ℕ) (g c y x : ℕ) → c ≡ y * w + x → x < w
      → connections_at (flat h w) number g c
      ≡ joint_if (ltb (y + 1) h && eqb (number (c + w)) g) (2 * y + 1) (2 * x)
      ++ joint_if (ltb (x + 1) w && eqb (number (c + 1)) g) (2 * y) (2 * x + 1)
  unfolding connections_at flat ahead_at hop_below hop_right cell_at
  connections-at number g c y x e l =
      ap (λ hs. map (λ j. f j.to) (filter (λ j. p j.to) hs)) (ap₂ (ahead_at h w) row column)
      ∙ (ap (map (λ j. f j.to)) (filter-append (λ j. p j.to) (hop_below h w y x) (hop_right h w y x))
      ∙ (map-append (λ j. f j.to) (filter (λ j. p j.to) (hop_below h w y x))
      (filter (λ j. p j.to) (hop_right h w y x))
      ∙ ap₂ (λ a b. a ++ b)
      (hop-joint p f (ltb (y + 1) h) _ ((y + 1) * w + x) (2 * y + 1) (2 * x) below
      ∙ ap (λ k. joint_if (ltb (y + 1) h && p k) (2 * y + 1) (2 * x)) under)
      (hop-joint p f (ltb (x + 1) w) _ (y * w + (x + 1)) (2 * y) (2 * x + 1) right
      ∙ ap (λ k. joint_if (ltb (x + 1) w && p k) (2 * y) (2 * x + 1)) beside)))
    where
      p : ℕ → Bool
      p k = eqb (number k) g

      f : ℕ → Point
      f k = flat_place h w c ⊕ flat_place h w k

      row : c / w ≡ y
      row = rw (e, digits_div y l)

      column : c % w ≡ x
      column = rw (e, digits_mod y l)

      next : (y + 1) * w ≡ y * w + w
      next = add-mul y 1 w ∙ omega arith

      under : (y + 1) * w + x ≡ c + w
      under = omega (arith, next, e)

      beside : y * w + (x + 1) ≡ c + 1
      beside = omega (arith, e)

      below : ltb (y + 1) h ≡ true → f ((y + 1) * w + x) ≡ place_at (2 * y + 1) (2 * x)
      below t =
          ap₂ (λ a b. a ⊕ b) (place_is c y x e l) (place_is ((y + 1) * w + x) (y + 1) x refl l)
          ∙ sum_is y x (y + 1) x (2 * y + 1) (2 * x) (omega arith) (omega arith)

      right : ltb (x + 1) w ≡ true → f (y * w + (x + 1)) ≡ place_at (2 * y) (2 * x + 1)
      right t =
          ap₂ (λ a b. a ⊕ b) (place_is c y x e l)
          (place_is (y * w + (x + 1)) y (x + 1) refl (ltb-true (x + 1) w t))
          ∙ sum_is y x y (x + 1) (2 * y) (2 * x + 1) (omega arith) (omega arith)

-- the number of the cell at a place
abbrev cell_of : ℕ → Point → ℕ
cell_of w p = nat_abs p.row * w + nat_abs p.column

cells-back : (h w : ℕ) (cs : List ℕ) → map (cell_of w) (map (flat_place h w) cs) ≡ cs
unfolding flat_place
cells-back h w [] = refl
cells-back h w (c ∷ cs) = ap₂ (λ x xs. x ∷ xs) (div-add-mod' c w) (cells-back h w cs)

pub unit_cells_lem : {h w : ℕ} {units : Grouping} {g : ℕ} {o : List ℕ} → UnitAt h w units g o
    → members (flat h w) (entry (numbers_in units)) g
    ≡ table (cell_count o) (λ i. get_or (rows_in o) i 0 * w + get_or (columns_in o) i 0)
unfolding places spots flat
unit_cells_lem {h} {w} {units} {g} {o} u =
    sym (cells-back h w (members (flat h w) (entry (numbers_in units)) g))
    ∙ (ap (map (cell_of w)) (sym u.here) ∙ map-table (cell_of w) (cell_count o) (cell_spot o))
