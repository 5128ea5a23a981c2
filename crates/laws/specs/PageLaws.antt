-- What the argument asks of a page: its borders, its places and turns, and its listed transforms. Flat pages meet all
-- of it (FlatPage, FlatList).
--
--   Bordered G          neighbours stay on the page, and go both ways over the border between them
--   hop_borders hs      the borders that the hops hs go over
--   HopsOnce G          a cell's neighbours lie over different borders, and it is the first cell of those ahead
--   second-in           so the second cell of a border is on the page
--   at3 l y x           the place with the layer l, the row y and the column x
--   six_steps           the six steps to a neighbour
--   OneStep p q         q is one step from p
--   Turns ts            turns keep sums and steps, and no two places fall together
--   CellsPlaced G       cells have different places, and a doubled place reads the border between two near cells
--   Moved g k ps qs     qs are the places ps turned by g and shifted by k
--   TurnsListed G       every listed transform is the shape moved by a turn, and every turn is listed
--   near-turn, near-right, near-left  near places are near when turned; shifted, the shift on the right or on the left
--   near-eq             places that are equal to near ones
use Rattle.std.specs.Prelude.{◌≡◌, ◌⊎◌, List, [], ◌∷◌, map, ℕ, ◌<◌, ℤ, pos, negsuc}
use Rattle.std.proofs.Common.{◌∙◌, ap, sym, subst}
use Rattle.std.proofs.Math.Option.{some}
use Rattle.lists.specs.Lists.{◌∈◌, Distinct}
use Rattle.rules.specs.Page.{Page, Hop, Point, Shape, ◌⊕◌}
use Rattle.laws.specs.PointLaws.{origin, add_assoc, add_comm}

pub record Bordered (G : Page) : Type 0 where
  pub hop-in : (x : ℕ) (h : Hop) → x < G.cells → h ∈ G.around x → h.to < G.cells
  pub hop-border : (x : ℕ) (h : Hop) → x < G.cells → h ∈ G.around x → h.border < G.borders
  pub hop-back : (x : ℕ) (h : Hop) → x < G.cells → h ∈ G.around x
      → record { border = h.border; to = x } ∈ G.around h.to
  pub hop-ends : (x : ℕ) (h : Hop) → x < G.cells → h ∈ G.around x →
      ((G.first h.border ≡ x) × (G.second h.border ≡ h.to)) ⊎
      ((G.first h.border ≡ h.to) × (G.second h.border ≡ x))
  pub first-in : (b : ℕ) → b < G.borders → G.first b < G.cells
  pub first-hop : (b : ℕ) → b < G.borders → record { border = b; to = G.second b } ∈ G.around (G.first b)
  pub ahead-around : (x : ℕ) (h : Hop) → x < G.cells → h ∈ G.ahead x → h ∈ G.around x
  pub ahead-all : (x : ℕ) (h : Hop) → x < G.cells → h ∈ G.around x
      → h ∈ G.ahead x ⊎ record { border = h.border; to = x } ∈ G.ahead h.to

abbrev pub hop_borders : List Hop → List ℕ
hop_borders hs = map (λ (h : Hop). h.border) hs

pub record HopsOnce (G : Page) : Type 0 where
  pub ahead-first : (x : ℕ) (h : Hop) → x < G.cells → h ∈ G.ahead x → G.first h.border ≡ x
  pub ahead-once : (x : ℕ) → x < G.cells → Distinct (hop_borders (G.ahead x))
  pub around-once : (x : ℕ) → x < G.cells → Distinct (hop_borders (G.around x))

-- the second cell of a border is on the page
pub second-in : (G : Page) → Bordered G → (b : ℕ) → b < G.borders → G.second b < G.cells
second-in G K b h =
    K.hop-in (G.first b) (record { border = b; to = G.second b }) (K.first-in b h) (K.first-hop b h)

abbrev pub at3 : ℤ → ℤ → ℤ → Point
at3 l y x = record { layer = l; row = y; column = x }

-- the six steps to a neighbour
abbrev pub six_steps : List Point
six_steps = at3 (pos 0) (pos 0) (pos 1) ∷ at3 (pos 0) (pos 0) (negsuc 0) ∷ at3 (pos 0) (pos 1) (pos 0) ∷ at3 (pos 0)
    (negsuc 0) (pos 0) ∷ at3 (pos 1) (pos 0) (pos 0) ∷ at3 (negsuc 0) (pos 0) (pos 0) ∷ []

pub record OneStep (p q : Point) : Type 0 where
  pub by : Point
  pub unit : by ∈ six_steps
  pub reach : q ≡ p ⊕ by

pub record Turns (ts : List (Point → Point)) : Type 0 where
  pub sum : (g : Point → Point) → g ∈ ts → (p q : Point) → g (p ⊕ q) ≡ g p ⊕ g q
  pub step : (g : Point → Point) → g ∈ ts → (e : Point) → e ∈ six_steps → g e ∈ six_steps
  pub inj : (g : Point → Point) → g ∈ ts → (p q : Point) → g p ≡ g q → p ≡ q

pub record CellsPlaced (G : Page) : Type 0 where
  pub place-inj : (x y : ℕ) → x < G.cells → y < G.cells → G.place x ≡ G.place y → x ≡ y
  pub hop-near : (x : ℕ) (h : Hop) → x < G.cells → h ∈ G.around x → OneStep (G.place x) (G.place h.to)
  pub near-hop : (x y : ℕ) → x < G.cells → y < G.cells → OneStep (G.place x) (G.place y)
      → (h : Hop) × h ∈ G.around x × (h.to ≡ y)
  pub hop-reads : (x : ℕ) (h : Hop) → x < G.cells → h ∈ G.around x
      → G.reads (G.place x ⊕ G.place h.to) ≡ some h.border
  pub reads-hop : (x : ℕ) (p : Point) (b : ℕ) → x < G.cells → OneStep (G.place x) p
      → G.reads (G.place x ⊕ p) ≡ some b →
      (h : Hop) × h ∈ G.around x × (h.border ≡ b) × (G.place h.to ≡ p)
  pub turns-ok : Turns G.turns

-- qs is ps turned and shifted
pub record Moved (g : Point → Point) (k : Point) (ps qs : List Point) : Type 0 where
  pub there : (a : Point) → a ∈ ps → (g a ⊕ k) ∈ qs
  pub back : (p : Point) → p ∈ qs → (a : Point) × a ∈ ps × (p ≡ g a ⊕ k)

-- every listed transform is the shape turned, its connections shifted twice as far, and has a cell at the origin; every
-- turn is listed
pub record TurnsListed (G : Page) : Type 0 where
  pub is_turned : (t u : Shape) → origin ∈ t.cells → u ∈ G.transforms t →
      (g : Point → Point) × (k : Point) × g ∈ G.turns × Moved g k t.cells u.cells × Moved g (k ⊕ k)
      t.connections u.connections
  pub is-based : (t u : Shape) → origin ∈ t.cells → u ∈ G.transforms t → origin ∈ u.cells
  pub has-turned : (t : Shape) (g : Point → Point) → origin ∈ t.cells → g ∈ G.turns
      → (u : Shape) × (k : Point) × u ∈ G.transforms t × Moved g k t.cells u.cells

-- near places stay near when both are turned or shifted
pub near-turn : (ts : List (Point → Point)) → Turns ts → (g : Point → Point) → g ∈ ts → {p q : Point} → OneStep p q
    → OneStep (g p) (g q)
near-turn ts W g m {p} n = record
    { by = g n.by; unit = W.step g m n.by n.unit; reach = ap g n.reach ∙ W.sum g m p n.by }

pub near-right : (v : Point) {p q : Point} → OneStep p q → OneStep (p ⊕ v) (q ⊕ v)
near-right v {p} {q} n = record {
  by = n.by;
  unit = n.unit;
  reach = ap (λ z. z ⊕ v) n.reach
      ∙ (add_assoc p n.by v ∙ (ap (λ z. p ⊕ z) (add_comm n.by v) ∙ sym (add_assoc p v n.by)));
}

pub near-left : (v : Point) {p q : Point} → OneStep p q → OneStep (v ⊕ p) (v ⊕ q)
near-left v {p} {q} n = record {
  by = n.by;
  unit = n.unit;
  reach = ap (λ z. v ⊕ z) n.reach
      ∙ sym (add_assoc v p n.by);
}

pub near-eq : {p q p' q' : Point} → p' ≡ p → q' ≡ q → OneStep p q → OneStep p' q'
near-eq {p} {q} {p'} {q'} e f n = subst (λ (z : Point). OneStep z q') (sym e)
    (subst (λ (z : Point). OneStep p z) (sym f) n)
