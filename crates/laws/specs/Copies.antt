-- A listed transform of a group's shape is a turned copy of the group, seen from the cell that lies at the origin.
--
--   CopyCells g u       the cells of u are the group's cells turned by g, from one of them
--   Copy g u            the same of its cells and connections
--   shape-based         the shape of a group has a cell at the origin
--   copy-cells, copy    a shape that is the group's shape moved is such a copy
use Rattle.std.specs.Prelude.{◌≡◌, ℕ}
use Rattle.std.proofs.Common.{◌∙◌, sym}
use Rattle.std.proofs.Math.Path.{ap, subst}
use mathlib.Core.List.Memᴰ
use mathlib.Core.List.{List, map}
use Rattle.std.proofs.Math.Dec.{eqb, eqb→eq, eqb_refl}
use Rattle.lists.specs.Lists.{◌∈◌, filter, flat_map}
use Rattle.lists.specs.ListLaws.{mem-filter, filter-mem, filter-test, mem-map, map-find, mem-flat, flat-find}
use Rattle.rules.specs.Page.{Hop, Point, ◌⊕◌, opposite, Shape, Page}
use Rattle.rules.specs.Groups.{members}
use Rattle.rules.specs.Shapes.{shift_by, connections_at, shape_of}
use Rattle.laws.specs.PointLaws.{origin, add-opposite, same-difference, twice-shift, opposite-unique}
use Rattle.laws.specs.PageLaws.{Turns, Moved}
use Rattle.laws.specs.ShapeLaws.{Normal, is_normal}

module _ (G : Page) (number : ℕ → ℕ) (k : ℕ) where
  -- a moved copy u of the group's shape, seen from its cell `from`, which lies at the origin
  pub record CopyCells (g : Point → Point) (u : Shape) : Type 0 where
    pub from : ℕ
    pub from_in : from ∈ members G number k
    pub cell-is : (t : Point) → t ∈ u.cells
        → (x : ℕ) × x ∈ members G number k × (t ≡ g (G.place x) ⊕ opposite (g (G.place from)))
    pub is-cell : (x : ℕ) → x ∈ members G number k → (g (G.place x) ⊕ opposite (g (G.place from))) ∈ u.cells

  pub record Copy (g : Point → Point) (u : Shape) : Type 0 where
    pub from : ℕ
    pub from_in : from ∈ members G number k
    pub is-cell : (x : ℕ) → x ∈ members G number k → (g (G.place x) ⊕ opposite (g (G.place from))) ∈ u.cells
    pub connection-is : (d : Point) → d ∈ u.connections
        → (c : ℕ) × (h : Hop) × c ∈ members G number k × h ∈ G.ahead c × (number h.to ≡ k) ×
        (d ≡ (g (G.place c) ⊕ opposite (g (G.place from))) ⊕ (g (G.place h.to) ⊕ opposite (g (G.place from))))
    pub is-connection : (c : ℕ) (h : Hop) → c ∈ members G number k → h ∈ G.ahead c → number h.to ≡ k →
        ((g (G.place c) ⊕ opposite (g (G.place from))) ⊕ (g (G.place h.to) ⊕ opposite (g (G.place from)))) ∈
        u.connections

  module _ (m : ℕ) (mm : m ∈ members G number k) where
    abbrev places : List Point
    places = map G.place (members G number k)

    abbrev sums : List Point
    sums = flat_map (connections_at G number k) (members G number k)

    shape-normal : Normal places sums
    shape-normal = is_normal places sums (G.place m) (mem-map G.place mm)

    abbrev n : Point
    n = opposite shape-normal.base

    shape-cell : (p : Point) → p ∈ (shape_of G number k).cells → (x : ℕ) × x ∈ members G number k × (p ≡ G.place x ⊕ n)
    unfolding shape_of shift_by
    shape-cell p q = let e = subst (λ (l : List Point). p ∈ l) shape-normal.cells_are q in
        let r = map-find (λ (z : Point). z ⊕ n) places e in let y = map-find G.place (members G number k) r.1 in
        (y.0, y.1, r.2 ∙ ap (λ z. z ⊕ n) y.2)

    cell-shape : (x : ℕ) → x ∈ members G number k → (G.place x ⊕ n) ∈ (shape_of G number k).cells
    unfolding shape_of shift_by
    cell-shape x q = subst (λ (l : List Point). (G.place x ⊕ n) ∈ l) (sym shape-normal.cells_are)
        (mem-map (λ (z : Point). z ⊕ n) (mem-map G.place q))

    shape-connection : (p : Point) → p ∈ (shape_of G number k).connections
        → (c : ℕ) × (h : Hop) × c ∈ members G number k × h ∈ G.ahead c × (number h.to ≡ k) ×
        (p ≡ (G.place c ⊕ G.place h.to) ⊕ (n ⊕ n))
    unfolding shape_of shift_by connections_at
    shape-connection p q =
        let y = map-find (λ (z : Point). z ⊕ (n ⊕ n)) sums
        (subst (λ (l : List Point). p ∈ l) shape-normal.connections-are q) in
        let c = flat-find (connections_at G number k) (members G number k) y.1 in
        let h = map-find (λ (h : Hop). G.place c.0 ⊕ G.place h.to)
        (filter (λ (h : Hop). eqb (number h.to) k) (G.ahead c.0)) c.2 in (
          c.0,
          h.0,
          c.1,
          filter-mem (λ (h : Hop). eqb (number h.to) k) (G.ahead c.0) h.1,
          eqb→eq (number h.0.to) k (filter-test (λ (h : Hop). eqb (number h.to) k) (G.ahead c.0) h.1),
          y.2
              ∙ ap (λ z. z ⊕ (n ⊕ n)) h.2,
        )

    connection-shape : (c : ℕ) (h : Hop) → c ∈ members G number k → h ∈ G.ahead c → number h.to ≡ k
        → ((G.place c ⊕ G.place h.to) ⊕ (n ⊕ n)) ∈ (shape_of G number k).connections
    unfolding shape_of shift_by connections_at
    connection-shape c h q r e = subst (λ (l : List Point). ((G.place c ⊕ G.place h.to) ⊕ (n ⊕ n)) ∈ l)
        (sym shape-normal.connections-are) (mem-map (λ (z : Point). z ⊕ (n ⊕ n))
        (mem-flat (connections_at G number k) q
        (mem-map (λ (h : Hop). G.place c ⊕ G.place h.to)
        (mem-filter (λ (h : Hop). eqb (number h.to) k) (G.ahead c) r (rw e (eqb_refl k))))))

    pub shape-based : origin ∈ (shape_of G number k).cells
    unfolding shape_of shift_by
    shape-based = subst (λ (l : List Point). origin ∈ l) (sym shape-normal.cells_are)
        (Memᴰ.cast (sym (add-opposite shape-normal.base)) (mem-map (λ (z : Point). z ⊕ n) shape-normal.base-in))

    module _ (ts : List (Point → Point)) (W : Turns ts) (g : Point → Point) (gm : g ∈ ts) (u : Shape) (w : Point)
        (A : Moved g w (shape_of G number k).cells u.cells) (based : origin ∈ u.cells) where
      base-cell : (x : ℕ) × x ∈ members G number k × (w ≡ opposite (g (G.place x ⊕ n)))
      base-cell = let r = A.back origin based in let y = shape-cell r.0 r.1 in
          (y.0, y.1, opposite-unique _ w (r.2 ∙ ap (λ z. g z ⊕ w) y.2))

      diff : (o : ℕ) → w ≡ opposite (g (G.place o ⊕ n)) → (p : Point) → g (p ⊕ n) ⊕ w ≡ g p ⊕ opposite (g (G.place o))
      diff o e p = ap (λ z. g (p ⊕ n) ⊕ z) (e ∙ ap opposite (W.sum g gm (G.place o) n))
          ∙ (ap (λ z. z ⊕ opposite (g (G.place o) ⊕ g n)) (W.sum g gm p n)
          ∙ same-difference (g p) (g (G.place o)) (g n))

      pub copy-cells : CopyCells g u
      copy-cells = let b = base-cell in record {
        from = b.0;
        from_in = b.1;
        cell-is = λ t m. let r = A.back t m in let y = shape-cell r.0 r.1 in
            (y.0, y.1, r.2 ∙ (ap (λ z. g z ⊕ w) y.2 ∙ diff b.0 b.2 (G.place y.0)));
        is-cell = λ x m. Memᴰ.cast (sym (diff b.0 b.2 (G.place x))) (A.there _ (cell-shape x m));
      }

      sum-diff : (o : ℕ) → w ≡ opposite (g (G.place o ⊕ n)) → (p q : Point)
          → g ((p ⊕ q) ⊕ (n ⊕ n)) ⊕ (w ⊕ w) ≡ (g p ⊕ opposite (g (G.place o))) ⊕ (g q ⊕ opposite (g (G.place o)))
      sum-diff o e p q = ap (λ z. z ⊕ (w ⊕ w)) (ap g (twice-shift p q n) ∙ W.sum g gm (p ⊕ n) (q ⊕ n))
          ∙ (twice-shift (g (p ⊕ n)) (g (q ⊕ n)) w
          ∙ (ap (λ z. z ⊕ (g (q ⊕ n) ⊕ w)) (diff o e p) ∙ ap (λ z. (g p ⊕ opposite (g (G.place o))) ⊕ z) (diff o e q)))

      pub copy : Moved g (w ⊕ w) (shape_of G number k).connections u.connections → Copy g u
      copy J = let b = base-cell in record {
        from = b.0;
        from_in = b.1;
        is-cell = λ x m. Memᴰ.cast (sym (diff b.0 b.2 (G.place x))) (A.there _ (cell-shape x m));
        connection-is = λ d m. let r = J.back d m in let y = shape-connection r.0 r.1 in (
          y.0,
          y.1,
          y.2,
          y.3,
          y.4,
          r.2
              ∙ (ap (λ z. g z ⊕ (w ⊕ w)) y.5 ∙ sum-diff b.0 b.2 (G.place y.0) (G.place y.1.to)),
        );
        is-connection = λ c h q r e. Memᴰ.cast (sym (sum-diff b.0 b.2 (G.place c) (G.place h.to)))
            (J.there _ (connection-shape c h q r e));
      }
