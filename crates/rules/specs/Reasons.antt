-- Reasons: Inside, Edge and Path.
--
--   gather side test hops          the literals of that side of the hops that pass the test
--   inside_at G s number g c       what Inside(G) lists for cell c
--   inside G s number g            Inside(G), G the group with the number g
--   edge_at G colour s number g c  what Edge(P) lists for cell c
--   edge G colour s number g       Edge(P), P the group with the number g
--   Found, Search                  a cell that the search found; what a search has found and has still to look at
--   is_found a f x                 x is the start a, or one of the found cells f
--   visit_if test x h t            where the test holds, the search t with the cell that h leads to found from x
--   trace f x                      the literals from cell x back to the start, by the found cells f
--   look G s a x hops t            the search t from a, once cell x has tried the hops
--   hunt G s n a queue f           the cells found once the queue is empty, or n more cells are taken from it
--   path G s a b                   Path(a, b)
--
-- `number` gives each cell's group number: that of its block, unit or potential unit.
use Rattle.std.specs.Prelude.{Bool, true, false, not, ◌&&◌, ◌||◌, cond, List, [], ◌∷◌, ◌++◌, map, ℕ, zero, suc, eqb}
use Rattle.std.specs.Prelude.{ltb}
use Rattle.std.specs.Bool.{beq}
use Rattle.lists.specs.Lists.{filter, flat_map, any}
use Rattle.rules.specs.declared.Side.{Side}
use Rattle.rules.specs.declared.Side.TheVariants.{Wall, Open}
use Rattle.rules.specs.declared.Literal.{Literal}
use Rattle.rules.specs.Page.{Page, State, is_wall, is_open, Hop, open_at}
use Rattle.rules.specs.Groups.{members}

unfoldable pub gather : Side → (Hop → Bool) → List Hop → List Literal
gather side test hops = map (λ h. record { border = h.border; side = side }) (filter test hops)

module _ (G : Page) (s : ℕ → State) (number : ℕ → ℕ) (g : ℕ) where
  -- "below then right, the border to a neighbour in G, where open"
  unfoldable pub inside_at : ℕ → List Literal
  inside_at c = gather Open (λ h. eqb (number h.to) g && is_open (s h.border)) (G.ahead c)

  -- "Inside(G): for each cell of G"
  unfoldable pub inside : List Literal
  inside = flat_map inside_at (members G number g)

module _ (G : Page) (colour : ℕ → Bool) (s : ℕ → State) (number : ℕ → ℕ) (g : ℕ) where
  -- "above, below, left, right, the border to a same-coloured neighbour outside P, where wall"
  unfoldable pub edge_at : ℕ → List Literal
  edge_at c =
      gather Wall
      (λ h. beq (colour c) (colour h.to) && not (eqb (number h.to) g) && is_wall (s h.border))
      (G.around c)

  -- "Edge(P): for each cell of P"
  unfoldable pub edge : List Literal
  edge = flat_map edge_at (members G number g)

-- over which border, and from which cell
pub record Found : Type 0 where
  pub cell : ℕ
  pub over : ℕ
  pub from : ℕ

-- the queue, and the cells found besides the start, the latest first
pub record Search : Type 0 where
  pub queue : List ℕ
  pub found : List Found

unfoldable pub is_found : ℕ → List Found → ℕ → Bool
is_found a f x = eqb x a || any (λ e. eqb x e.cell) f

abbrev pub visit_if : Bool → ℕ → Hop → Search → Search
visit_if true x h t =
    record {
      queue = t.queue ++ (h.to ∷ []);
      found = record { cell = h.to; over = h.border; from = x } ∷ t.found;
    }
visit_if false x h t = t

-- "literals are listed from b back to a": each cell's own finder was found before it
unfoldable pub trace : List Found → ℕ → List Literal
trace [] x = []
trace (e ∷ f) x = cond (eqb x e.cell) (open_at e.over ∷ trace f e.from) (trace f x)

module _ (G : Page) (s : ℕ → State) where
  -- "over open borders, trying above, below, left, right; first finder is the parent"
  unfoldable pub look : ℕ → ℕ → List Hop → Search → Search
  look a x [] t = t
  look a x (h ∷ hs) t = look a x hs (visit_if (is_open (s h.border) && not (is_found a t.found h.to)) x h t)

  -- "breadth first": a cell is taken from the queue, and what it finds goes to the end; each cell is taken once
  unfoldable pub hunt : ℕ → ℕ → List ℕ → List Found → List Found
  hunt zero a queue f = f
  hunt (suc n) a [] f = f
  hunt (suc n) a (x ∷ queue) f =
      let t = look a x (G.around x) (record { queue = queue; found = f }) in hunt n a t.queue t.found

  -- "Path(a,b): breadth first from a .. none if b is not reached"; none for a cell that is not on the page
  unfoldable pub path : ℕ → ℕ → List Literal
  path a b = cond (ltb a G.cells && ltb b G.cells) (trace (hunt G.cells a (a ∷ []) []) b) []
