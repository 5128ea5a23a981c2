-- Shapes: a group's cells and connections, and the transforms of a shape.
--
--   lessℤ a b, sameℤ a b   tests of two coordinates: a is below b, a equals b
--   same_point, same_points  tests for equal places, for equal lists of places
--   before p q             p stands before q, by layer, row and column
--   insert p ps            p put into the sorted places ps
--   sort ps                the places in order
--   shift_by v ps          the places ps, each shifted by v
--   normal ps js           the shape of sorted cells, its first cell shifted to the origin
--   turned g t             the shape t turned by g
--   same_shape t u         t and u have the same cells
--   connections_at G number g c  the connections of cell c to cells of group g, below then right
--   shape_of G number g    the shape of group g
--   with_half t            the shape, and the half turn if different
--   quarters q listed      the quarter q alone where one shape is listed, else q followed by half, then q
--   with_quarter t listed  the listed shapes, and these if the quarter turn of t differs
--   with_flip t listed     the listed shapes, and the flips of all of them if the flip of t is not yet listed
--   flat_transforms t      the listed transforms of a shape on a flat page
use Rattle.std.specs.Prelude.{Bool, true, false, ◌&&◌, ◌||◌, cond, List, [], ◌∷◌, ◌++◌, map, ℕ, eqb, ltb, ℤ, pos}
use Rattle.std.specs.Prelude.{negsuc}
use Rattle.lists.specs.Lists.{filter, flat_map, any}
use Rattle.rules.specs.Page.{Page, Point, ◌⊕◌, opposite, Shape}
use Rattle.rules.specs.Turns.{apply, half, quarter, flip}
use Rattle.rules.specs.Groups.{members}

abbrev pub lessℤ : ℤ → ℤ → Bool
lessℤ (pos a) (pos b) = ltb a b
lessℤ (pos a) (negsuc b) = false
lessℤ (negsuc a) (pos b) = true
lessℤ (negsuc a) (negsuc b) = ltb b a

abbrev pub sameℤ : ℤ → ℤ → Bool
sameℤ (pos a) (pos b) = eqb a b
sameℤ (pos a) (negsuc b) = false
sameℤ (negsuc a) (pos b) = false
sameℤ (negsuc a) (negsuc b) = eqb a b

abbrev pub same_point : Point → Point → Bool
same_point p q = sameℤ p.layer q.layer && sameℤ p.row q.row && sameℤ p.column q.column

-- "sorted by (y,x)"; a flat page has one layer
abbrev pub before : Point → Point → Bool
before p q =
    lessℤ p.layer q.layer
    || sameℤ p.layer q.layer
    && (lessℤ p.row q.row || sameℤ p.row q.row && lessℤ p.column q.column)

unfoldable pub same_points : List Point → List Point → Bool
same_points [] [] = true
same_points [] (q ∷ qs) = false
same_points (p ∷ ps) [] = false
same_points (p ∷ ps) (q ∷ qs) = same_point p q && same_points ps qs

unfoldable pub insert : Point → List Point → List Point
insert p [] = p ∷ []
insert p (q ∷ qs) = cond (before p q) (p ∷ q ∷ qs) (q ∷ insert p qs)

unfoldable pub sort : List Point → List Point
sort [] = []
sort (p ∷ ps) = insert p (sort ps)

unfoldable pub shift_by : Point → List Point → List Point
shift_by v ps = map (λ p. p ⊕ v) ps

-- "first at (0,0)"; "a shift of the cells shifts them twice as far"
unfoldable pub normal : List Point → List Point → Shape
normal [] js = record { cells = []; connections = js }
normal (p ∷ ps) js =
    record {
      cells = shift_by (opposite p) (p ∷ ps);
      connections = shift_by (opposite p ⊕ opposite p) js;
    }

-- "a transform maps them and keeps that order"
unfoldable pub turned : (Point → Point) → Shape → Shape
turned g t = normal (sort (map g t.cells)) (map g t.connections)

-- "different" is by cells
abbrev pub same_shape : Shape → Shape → Bool
same_shape t u = same_points t.cells u.cells

module _ (G : Page) (number : ℕ → ℕ) (g : ℕ) where
  -- "the sums of all adjacent pairs of cells, whatever their border holds; per cell, below then right"
  unfoldable pub connections_at : ℕ → List Point
  connections_at c = map (λ h. G.place c ⊕ G.place h.to) (filter (λ h. eqb (number h.to) g) (G.ahead c))

  unfoldable pub shape_of : Shape
  shape_of = normal (map G.place (members G number g)) (flat_map connections_at (members G number g))

-- "Order: the shape; the half turn if different"
unfoldable pub with_half : Shape → List Shape
with_half t = let u : Shape = turned (apply half) t in cond (same_shape t u) (t ∷ []) (t ∷ u ∷ [])

-- "quarter alone when the half equalled the shape, else quarter followed by half, then quarter"
unfoldable pub quarters : Shape → List Shape → List Shape
quarters q [] = []
quarters q (t ∷ []) = q ∷ []
quarters q (t ∷ u ∷ us) = turned (apply half) q ∷ q ∷ []

-- "if the quarter differs"
unfoldable pub with_quarter : Shape → List Shape → List Shape
with_quarter t listed =
    let q : Shape = turned (apply quarter) t in cond (same_shape t q) listed (listed ++ quarters q listed)

-- "if the flip is not yet listed, the flips of all listed, in order"
unfoldable pub with_flip : Shape → List Shape → List Shape
with_flip t listed =
    cond (any (λ u. same_shape u (turned (apply flip) t)) listed) listed (listed ++ map (turned (apply flip)) listed)

unfoldable pub flat_transforms : Shape → List Shape
flat_transforms t = with_flip t (with_quarter t (with_half t))
