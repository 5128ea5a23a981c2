-- Every row of the table gives the cells of a listed one, and images with the same cells have the same connections: the
-- sums of their near cells. A placement asks that every connection be clear, so what fits for one fits for the other.
--
--   same-connections    images with the same cells have the same connections
--   row_listed          every row gives the cells of a listed row
--   fits-clear          a placement fits exactly if every connection is clear
--   beside_same         the same connections, in any order, fit at the same cells
use Rattle.std.specs.Prelude.{◌≡◌, ℕ, ◌<◌, ◌≤◌, T}
use Rattle.std.proofs.Math.Path.{refl, ap}
use Rattle.std.proofs.Common.{sym, ◌∙◌, subst, arith}
use mathlib.Core.List.{List, [], ◌∷◌, map}
use Rattle.std.proofs.Math.Option.{Option, none}
use Rattle.std.proofs.Math.ListN.{length}
use Rattle.lists.specs.Lists.{◌∈◌, all}
use Rattle.lists.specs.ListLaws.{all-mem, map-find, map-within, get_d-mem, mem-all}
use Rattle.lists.specs.Booleans.{same_test}
use Rattle.lists.specs.AnyAll.{any_same}
use Rattle.rules.specs.Page.{State, Page, Point, Puzzle, Shape, ◌⊕◌}
use Rattle.rules.specs.Turns.{keep, flat_table}
use Rattle.rules.specs.Flat.{flat}
use Rattle.rules.specs.Groups.{members}
use Rattle.rules.specs.Check.{laid, is_fit}
use Rattle.rules.specs.Shapes.{shape_of}
use Rattle.laws.proofs.FlatOnce.{flat-listing}
use Rattle.laws.proofs.FlatShapes.{shape-canonical}
use Rattle.laws.specs.ShapeLaws.{Canonical}
use Rattle.laws.proofs.Sums.{turned-connections}
use Rattle.groups.specs.Parts.{part_of}
use Rattle.shapes.specs.Rows.{turn_at, image, rows_of}
use Rattle.shapes.specs.Spots.{places}
use Rattle.shapes.specs.UnitLaws.{transforms-flat}
use Rattle.planes.specs.JudgeLaws.{judge-after}
use Rattle.planes.specs.Placing.{bare, reading_of, is_clear, fits_of}
use Rattle.planes.specs.Laying.{fits_among, fits_beside}
use Rattle.planes.specs.FitLaws.{after-clear}

row-turn : (r : ℕ) → r < 8 → turn_at r ∈ flat_table
row-turn r l = get_d-mem flat_table r keep l

module _ (h w : ℕ) (number : ℕ → ℕ) (g : ℕ) (index : 1 ≤ w) where
  abbrev G : Page
  G = flat h w

  abbrev ms : List ℕ
  ms = members G number g

  module _ (full : 1 ≤ length (places h w number g)) where
    abbrev shape : Shape
    shape = shape_of G number g

    pub same-connections : (r q : ℕ) → r < 8 → q < 8
        → (image r (shape_of (flat h w) number g)).cells ≡ (image q (shape_of (flat h w) number g)).cells
        → (d : Point) → d ∈ (image r (shape_of (flat h w) number g)).connections
        → d ∈ (image q (shape_of (flat h w) number g)).connections
    unfolding image
    same-connections r q a b e =
        turned-connections h w index number g (turn_at r) (turn_at q) (row-turn r a) (row-turn q b) e

    canonical : Canonical shape.cells
    unfolding places
    canonical = go ms refl
      where
        go : (xs : List ℕ) → ms ≡ xs → Canonical shape.cells
        go [] e = let none : length (map G.place ms) ≡ 0 = rw e in absurd (omega arith)
        go (x ∷ xs) e = shape-canonical h w (omega arith) number g x xs e

    pub row_listed : (r : ℕ) → r < 8 → (q : ℕ) × q ∈ rows_of (shape_of (flat h w) number g)
        × ((image q (shape_of (flat h w) number g)).cells ≡ (image r (shape_of (flat h w) number g)).cells)
    unfolding image
    row_listed r l =
        let u = (flat-listing shape canonical).each (turn_at r) (row-turn r l) in
        let q = map-find (λ r. image r shape) (rows_of shape)
        (subst (λ (us : List Shape). u.0 ∈ us) (transforms-flat h w number g index) u.1) in
        (q.0, q.1, ap (λ t. t.cells) (sym q.2) ∙ u.2)

-- a placement asks that every connection be clear, in whatever order
module _ (Z : Puzzle) (s : ℕ → State) where
  abbrev read : ℕ → Point → Option ℕ
  read o d = Z.page.reads (Z.page.place o ⊕ Z.page.place o ⊕ d)

  pub fits-clear : (t : Shape) (o : ℕ)
      → fits_of Z s t o
      ≡ all is_clear (map (reading_of Z s)
      (map (λ d. Z.page.reads (Z.page.place o ⊕ Z.page.place o ⊕ d)) t.connections))
  unfolding fits_of laid
  fits-clear t o =
      ap (is_fit Z s) (judge-after Z s none (map (read o) t.connections))
      ∙ after-clear Z s (map (reading_of Z s) (map (read o) t.connections))

  fits-within : (js ks : List Point) → ((d : Point) → d ∈ ks → d ∈ js) → (o : ℕ) → T (fits_of Z s (bare js) o)
      → T (fits_of Z s (bare ks) o)
  fits-within js ks i o t =
      subst T (sym (fits-clear (bare ks) o))
      (mem-all is_clear (map (reading_of Z s) (map (read o) ks))
      (λ x m. all-mem is_clear (map (reading_of Z s) (map (read o) js)) (subst T (fits-clear (bare js) o) t)
      (map-within (reading_of Z s) (map (read o) ks) (map (read o) js) (map-within (read o) ks js i) x m)))

  pub beside_same : (js ks : List Point) → ((d : Point) → d ∈ js → d ∈ ks) → ((d : Point) → d ∈ ks → d ∈ js)
      → (cells offs gs : List ℕ) → fits_beside Z s (bare js) cells offs gs ≡ fits_beside Z s (bare ks) cells offs gs
  unfolding fits_beside fits_among
  beside_same js ks i k cells offs gs =
      any_same _ _ gs
      (λ Q n. any_same (fits_of Z s (bare js)) (fits_of Z s (bare ks)) (part_of cells offs Q)
      (λ o m. same_test (fits_of Z s (bare js) o) (fits_of Z s (bare ks) o) (fits-within js ks k o)
      (fits-within ks js i o)))
