-- Laws of shapes: a turned shape is the shape moved, with a cell at the origin; turns one after the other are one turn;
-- and a shape of sorted cells is told by its places, wherever they stand.
--
--   Normal ps js        a shape made normal: shifted from one of its cells
--   TurnedBy g t u      u is t turned by g and shifted, with a cell at the origin
--   Canonical ps        ascending, with its least place at the origin: "sorted by (y,x), first at (0,0)"
--   normal-canonical, turned-canonical, canonical-same  shapes that are so; they differ by no shift
--   turned-cells        the cells of a turned shape come from its cells alone
--   turned-normal, turned-compose, turned-keep  turns before and after a shift, two of them, and none
use Rattle.std.specs.Prelude.{◌≡◌, refl, ◌⊎◌, List, [], ◌∷◌, map, T, length}
use Rattle.std.proofs.Common.{sym, ap, ap₂, ◌∙◌, subst, inl, inr, arith}
use mathlib.Core.List.Memᴰ
use Rattle.lists.specs.Lists.{◌∈◌}
use Rattle.lists.specs.ListLaws.{mem-map, map-find}
use Rattle.lists.specs.Pairs.{distinct-map}
use Rattle.lists.specs.Maps.{map-map, map_same}
use Rattle.rules.specs.Page.{Point, Shape, ◌⊕◌, opposite}
use Rattle.rules.specs.Turns.{Turn, apply, compose, keep}
use Rattle.rules.specs.Shapes.{before, sort, shift_by, normal, turned}
use Rattle.laws.specs.PointLaws.{origin, add_comm, add-origin, add-opposite, swap4, opposite-add, same-difference}
use Rattle.laws.specs.PageLaws.{Moved}
use Rattle.laws.specs.TurnLaws.{apply-compose, apply-sum, apply-keep}
use Rattle.laws.specs.OrderLaws.{before-irrefl, before-trans, before-cases, before-shift}
use Rattle.laws.specs.SortLaws.{Ascending, mem-sort, sort-mem, length-sort, sort-ascends, sort-ascending}
use Rattle.laws.specs.SortLaws.{ascending-distinct, ascending-same, sort-map-sort, shift-ascends, sort-shift}

-- a shape made normal: shifted from its first cell
pub record Normal (ps js : List Point) : Type 0 where
  pub base : Point
  pub base-in : base ∈ ps
  pub cells_are : (normal ps js).cells ≡ shift_by (opposite base) ps
  pub connections-are : (normal ps js).connections ≡ shift_by (opposite base ⊕ opposite base) js

pub is_normal : (ps js : List Point) (p : Point) → p ∈ ps → Normal ps js
unfolding normal
is_normal [] js p m = absurd (Memᴰ.not-nil m)
is_normal (q ∷ ps) js p m = record { base = q; base-in = Memᴰ.head refl; cells_are = refl; connections-are = refl }

-- the turned places in any order, shifted
moved_by : (g : Point → Point) (k : Point) (ps qs : List Point) → ((q : Point) → q ∈ qs → q ∈ map g ps)
    → ((q : Point) → q ∈ map g ps → q ∈ qs) → Moved g k ps (shift_by k qs)
unfolding shift_by
moved_by g k ps qs from to =
    record {
      there = λ a m. mem-map (λ (z : Point). z ⊕ k) (to (g a) (mem-map g m));
      back = λ p m.
          let r = map-find (λ (z : Point). z ⊕ k) qs m in
          let e = map-find g ps (from r.0 r.1) in
          (e.0, e.1, r.2 ∙ ap (λ z. z ⊕ k) e.2);
    }

-- a turned shape is moved, with a cell at the origin
pub record TurnedBy (g : Point → Point) (t u : Shape) : Type 0 where
  pub shift : Point
  pub cells-moved : Moved g shift t.cells u.cells
  pub connections-moved : Moved g (shift ⊕ shift) t.connections u.connections
  pub based : origin ∈ u.cells

pub turned_by : (g : Point → Point) (t : Shape) → origin ∈ t.cells → TurnedBy g t (turned g t)
unfolding turned shift_by
turned_by g t o =
    record {
      shift = k;
      cells-moved = subst (Moved g k t.cells) (sym M.cells_are)
          (moved_by g k t.cells (sort (map g t.cells)) (λ q m. sort-mem _ m) (λ q m. mem-sort _ m));
      connections-moved = subst (Moved g (k ⊕ k) t.connections) (sym M.connections-are)
          (moved_by g (k ⊕ k) t.connections (map g t.connections) (λ q m. m) (λ q m. m));
      based = subst (λ (l : List Point). origin ∈ l) (sym M.cells_are)
          (Memᴰ.cast (sym (add-opposite M.base)) (mem-map (λ (z : Point). z ⊕ k) M.base-in));
    }
  where
    M : Normal (sort (map g t.cells)) (map g t.connections)
    M = is_normal _ _ (g origin) (mem-sort _ (mem-map g o))

    k : Point
    k = opposite M.base

pub record Canonical (ps : List Point) : Type 0 where
  pub ascends : Ascending ps
  pub based : origin ∈ ps
  pub least : (p : Point) → p ∈ ps → T (before p origin) → ⊥

-- "first at (0,0)"
pub normal-canonical : (ps js : List Point) (p : Point) → p ∈ ps → Ascending ps → Canonical (normal ps js).cells
unfolding normal shift_by
normal-canonical [] js p m a = absurd (Memᴰ.not-nil m)
normal-canonical (q ∷ ps) js p m a =
    record {
      ascends = s;
      based = Memᴰ.head (sym (add-opposite q));
      least = λ r n b. at r b (Memᴰ.cases_cons n);
    }
  where
    s : Ascending (shift_by (opposite q) (q ∷ ps))
    s = shift-ascends (opposite q) (q ∷ ps) a

    at : (r : Point) → T (before r origin) → (r ≡ q ⊕ opposite q) ⊎ r ∈ map (λ (z : Point). z ⊕ opposite q) ps → ⊥
    at r b (inl e) = before-irrefl origin (subst (λ (z : Point). T (before z origin)) (e ∙ add-opposite q) b)
    at r b (inr n) = before-irrefl origin
        (before-trans origin r origin (subst (λ (z : Point). T (before z r)) (add-opposite q) (s.0 r n)) b)

-- one of them shifted is the other only by no shift at all
pub canonical-same : (m : Point) (ps qs : List Point) → Canonical ps → Canonical qs
    → ((p : Point) → p ∈ ps → (p ⊕ m) ∈ qs) → ((q : Point) → q ∈ qs → (p : Point) × p ∈ ps × (q ≡ p ⊕ m)) → ps ≡ qs
canonical-same m ps qs P Q f g =
    ascending-same ps qs P.ascends Q.ascends
    (λ p n. Memᴰ.cast (sym (still p)) (f p n))
    (λ q n. let r = g q n in Memᴰ.cast (r.2 ∙ still r.0) r.1)
  where
    none : T (before origin m) ⊎ ((origin ≡ m) ⊎ T (before m origin)) → m ≡ origin
    none (inl b) =
        let r = g origin Q.based in
        absurd (P.least r.0 r.1
        (subst (λ (z : Point). T (before z origin)) (add_comm origin r.0 ∙ add-origin r.0)
        (subst (λ (z : Point). T (before (origin ⊕ r.0) z)) (add_comm m r.0 ∙ sym r.2)
        (rw (before-shift origin m r.0) b))))
    none (inr (inl e)) = sym e
    none (inr (inr b)) =
        absurd (Q.least m (Memᴰ.cast (sym (add_comm origin m ∙ add-origin m)) (f origin P.based)) b)

    still : (p : Point) → p ⊕ m ≡ p
    still p = ap (λ z. p ⊕ z) (none (before-cases origin m)) ∙ add-origin p

-- a shape turned by an injective function
pub turned-canonical : (g : Point → Point) → ((p q : Point) → g p ≡ g q → p ≡ q) → (t : Shape) → Canonical t.cells
    → Canonical (turned g t).cells
unfolding turned
turned-canonical g i t C =
    normal-canonical (sort (map g t.cells)) (map g t.connections) (g origin)
    (mem-sort (map g t.cells) (mem-map g C.based))
    (sort-ascends (map g t.cells) (distinct-map g i t.cells (ascending-distinct t.cells C.ascends)))

-- the cells of a turned shape come from its cells alone
normal-cells : (ps js ks : List Point) → (normal ps js).cells ≡ (normal ps ks).cells
unfolding normal
normal-cells [] js ks = refl
normal-cells (p ∷ ps) js ks = refl

pub turned-cells : (g : Point → Point) (t u : Shape) → t.cells ≡ u.cells → (turned g t).cells ≡ (turned g u).cells
unfolding turned
turned-cells g t u e =
    ap (λ (ps : List Point). (normal (sort (map g ps)) (map g t.connections)).cells) e
    ∙ normal-cells (sort (map g u.cells)) (map g t.connections) (map g u.connections)

map-shift : (a : Turn) (v : Point) (ps : List Point)
    → map (apply a) (shift_by v ps) ≡ shift_by (apply a v) (map (apply a) ps)
unfolding shift_by
map-shift a v [] = refl
map-shift a v (p ∷ ps) = ap₂ (λ x xs. x ∷ xs) (apply-sum a p v) (map-shift a v ps)

pub shift-shift : (v u w : Point) → ((p : Point) → (p ⊕ v) ⊕ u ≡ p ⊕ w) → (ps : List Point)
    → shift_by u (shift_by v ps) ≡ shift_by w ps
unfolding shift_by
shift-shift v u w e ps = map-map (λ p. p ⊕ u) (λ p. p ⊕ v) ps ∙ map_same _ _ ps (λ p m. e p)

-- a shape does not depend on where its cells stood
normal-shift : (v p : Point) (ps js : List Point)
    → normal (shift_by v (p ∷ ps)) (shift_by (v ⊕ v) js) ≡ normal (p ∷ ps) js
unfolding normal shift_by
normal-shift v p ps js =
    ap₂ (λ x y. record { cells = x; connections = y })
    (shift-shift v (opposite (p ⊕ v)) (opposite p) (λ q. same-difference q p v) (p ∷ ps))
    (shift-shift (v ⊕ v) (opposite (p ⊕ v) ⊕ opposite (p ⊕ v)) (opposite p ⊕ opposite p) twice js)
  where
    twice : (q : Point) → (q ⊕ (v ⊕ v)) ⊕ (opposite (p ⊕ v) ⊕ opposite (p ⊕ v)) ≡ q ⊕ (opposite p ⊕ opposite p)
    twice q =
        ap (λ x. (q ⊕ (v ⊕ v)) ⊕ x) (sym (opposite-add (p ⊕ v) (p ⊕ v)) ∙ ap opposite (swap4 p v p v))
        ∙ (same-difference q (p ⊕ p) (v ⊕ v) ∙ ap (λ x. q ⊕ x) (opposite-add p p))

-- the order of the cells does not matter to a turn, and one shift at the end is enough
pub turned-normal : (a : Turn) (ps js : List Point)
    → turned (apply a) (normal ps js) ≡ normal (sort (map (apply a) ps)) (map (apply a) js)
unfolding turned normal
turned-normal a [] js = refl
turned-normal a (p ∷ ps) js =
    ap₂ normal (ap sort (map-shift a (opposite p) (p ∷ ps))
    ∙ sort-shift (apply a (opposite p)) (map (apply a) (p ∷ ps)))
    (map-shift a (opposite p ⊕ opposite p) js
    ∙ ap (λ v. shift_by v (map (apply a) js)) (apply-sum a (opposite p) (opposite p)))
    ∙ again (sort (map (apply a) (p ∷ ps))) (length-sort (map (apply a) (p ∷ ps)))
  where
    again : (ms : List Point) → length ms ≡ length (map (apply a) (p ∷ ps))
        → normal (shift_by (apply a (opposite p)) ms)
        (shift_by (apply a (opposite p) ⊕ apply a (opposite p)) (map (apply a) js))
        ≡ normal ms (map (apply a) js)
    again [] e = absurd (omega arith)
    again (m ∷ ms) e = normal-shift (apply a (opposite p)) m ms (map (apply a) js)

pub turned-compose : (a b : Turn) (t : Shape)
    → turned (apply a) (turned (apply b) t) ≡ turned (apply (compose a b)) t
unfolding turned
turned-compose a b t =
    turned-normal a (sort (map (apply b) t.cells)) (map (apply b) t.connections)
    ∙ ap₂ normal (sort-map-sort (apply a) (map (apply b) t.cells) ∙ ap sort (joined t.cells))
    (joined t.connections)
  where
    joined : (ps : List Point) → map (apply a) (map (apply b) ps) ≡ map (apply (compose a b)) ps
    joined ps = map-map (apply a) (apply b) ps ∙ map_same _ _ ps (λ p m. sym (apply-compose a b p))

-- a shape of sorted cells is its own first row
pub turned-keep : (ps js : List Point) → Ascending ps → turned (apply keep) (normal ps js) ≡ normal ps js
turned-keep ps js s =
    turned-normal keep ps js ∙ ap₂ normal (ap sort (kept ps) ∙ sort-ascending ps s) (kept js)
  where
    kept : (ps : List Point) → map (apply keep) ps ≡ ps
    kept [] = refl
    kept (p ∷ ps) = ap₂ (λ x xs. x ∷ xs) (apply-keep p) (kept ps)
