-- The connections of a shape are the sums of its near cells, so images with the same cells have the same connections,
-- in some order.
--
--   Sums ps js          the connections js are the sums of the near ones of the cells ps
--   sums_same           cells have only one such set of connections
--   shape-sums          the shape of a group is so
--   turned-sums         a shape that is so is so when turned
--   turned-connections  images of a group's shape with the same cells have the same connections
use Rattle.std.specs.Prelude.{◌≡◌, ◌⊎◌, Bool, List, [], ◌∷◌, map, ℕ, ◌≤◌, eqb}
use Rattle.std.proofs.Common.{sym, ap, ap₂, ◌∙◌, subst, inl, inr, arith}
use mathlib.Core.List.Memᴰ
use Rattle.std.proofs.Math.Dec.{eqb→eq, eqb_refl}
use Rattle.lists.specs.Lists.{◌∈◌, filter, flat_map}
use Rattle.lists.specs.ListLaws.{mem-map, map-find, mem-flat, flat-find, mem-filter, filter-mem, filter-test}
use Rattle.rules.specs.Page.{Hop, Page, Point, Shape, ◌⊕◌, opposite}
use Rattle.rules.specs.Turns.{Turn, apply, flat_table}
use Rattle.rules.specs.Flat.{flat}
use Rattle.rules.specs.Groups.{members}
use Rattle.rules.specs.Shapes.{sort, shift_by, normal, turned, connections_at, shape_of}
use Rattle.laws.specs.PointLaws.{add_comm, add_back, twice-shift}
use Rattle.laws.specs.PageLaws.{Bordered, OneStep, CellsPlaced, near-turn, near-right, near-eq}
use Rattle.laws.specs.TurnLaws.{apply-compose, apply-keep, apply-sum}
use Rattle.laws.proofs.TableRules.{table-rules}
use Rattle.laws.specs.SortLaws.{mem-sort, sort-mem, mem-shift, shift-find}
use Rattle.laws.specs.GroupLaws.{mem-members, members-lt, members-number}
use Rattle.laws.specs.FlatList.{flat-turns}
use Rattle.laws.specs.FlatPage.{flat-bordered, flat-placed}

pub record Sums (ps js : List Point) : Type 0 where
  pub are : (d : Point) → d ∈ js → (p : Point) × (q : Point) × p ∈ ps × q ∈ ps × OneStep p q × (d ≡ p ⊕ q)
  pub each : (p q : Point) → p ∈ ps → q ∈ ps → OneStep p q → (p ⊕ q) ∈ js

pub sums_same : {ps js ks : List Point} → Sums ps js → Sums ps ks → (d : Point) → d ∈ js → d ∈ ks
sums_same A B d m =
    let r = A.are d m in Memᴰ.cast r.5 (B.each r.0 r.1 r.2 r.3 r.4)

-- sorted, shifted and turned
sums-sort : {ps js : List Point} → Sums ps js → Sums (sort ps) js
sums-sort {ps} S =
    record {
      are = λ d m.
          let r = S.are d m in (r.0, r.1, mem-sort ps r.2, mem-sort ps r.3, r.4, r.5);
      each = λ p q m n k. S.each p q (sort-mem ps m) (sort-mem ps n) k;
    }

sums-shift : (v : Point) {ps js : List Point} → Sums ps js → Sums (shift_by v ps) (shift_by (v ⊕ v) js)
sums-shift v {ps} {js} S =
    record {
      are = λ d m.
          let x = shift-find (v ⊕ v) js m in
          let r = S.are x.0 x.1 in (
            r.0 ⊕ v,
            r.1 ⊕ v,
            mem-shift v r.2,
            mem-shift v r.3,
            near-right v r.4,
            x.2 ∙ (ap (λ z. z ⊕ (v ⊕ v)) r.5 ∙ twice-shift r.0 r.1 v),
          );
      each = λ p q m n k.
          let x = shift-find v ps m in
          let y = shift-find v ps n in
          Memᴰ.cast (ap₂ ◌⊕◌ x.2 y.2 ∙ sym (twice-shift x.0 y.0 v))
          (mem-shift (v ⊕ v)
          (S.each x.0 y.0 x.1 y.1 (back x.0 y.0 (near-eq (sym x.2) (sym y.2) k))));
    }
  where
    back : (x y : Point) → OneStep (x ⊕ v) (y ⊕ v) → OneStep x y
    back x y k = near-eq (sym (add_back x v)) (sym (add_back y v)) (near-right (opposite v) k)

sums-turn : (a : Turn) → a ∈ flat_table → {ps js : List Point} → Sums ps js
    → Sums (map (apply a) ps) (map (apply a) js)
sums-turn a t {ps} {js} S =
    record {
      are = λ d m.
          let x = map-find (apply a) js m in
          let r = S.are x.0 x.1 in (
            apply a r.0,
            apply a r.1,
            mem-map (apply a) r.2,
            mem-map (apply a) r.3,
            near-turn (map apply flat_table) flat-turns (apply a) (mem-map apply t) r.4,
            x.2 ∙ (ap (apply a) r.5 ∙ apply-sum a r.0 r.1),
          );
      each = λ p q m n k.
          let x = map-find (apply a) ps m in
          let y = map-find (apply a) ps n in
          Memᴰ.cast (ap₂ ◌⊕◌ x.2 y.2 ∙ sym (apply-sum a x.0 y.0))
          (mem-map (apply a)
          (S.each x.0 y.0 x.1 y.1 (back x.0 y.0 (near-eq (sym x.2) (sym y.2) k))));
    }
  where
    back : (x y : Point) → OneStep (apply a x) (apply a y) → OneStep x y
    back x y k =
        let b = table-rules.inverse a t in
        let undo : (z : Point) → z ≡ apply b.0 (apply a z) =
        λ z. sym (sym (apply-compose b.0 a z) ∙ (ap (λ d. apply d z) b.2 ∙ apply-keep z)) in
        near-eq (undo x) (undo y)
        (near-turn (map apply flat_table) flat-turns (apply b.0) (mem-map apply b.1) k)

sums-normal : (ps js : List Point) → Sums ps js → Sums (normal ps js).cells (normal ps js).connections
unfolding normal
sums-normal [] js S = S
sums-normal (p ∷ ps) js S = sums-shift (opposite p) S

pub turned-sums : (a : Turn) → a ∈ flat_table → (t : Shape) → Sums t.cells t.connections
    → Sums (turned (apply a) t).cells (turned (apply a) t).connections
unfolding turned
turned-sums a m t S =
    sums-normal (sort (map (apply a) t.cells)) (map (apply a) t.connections) (sums-sort (sums-turn a m S))

module _ (G : Page) (K : Bordered G) (P : CellsPlaced G) (number : ℕ → ℕ) (g : ℕ) where
  abbrev own : Hop → Bool
  own j = eqb (number j.to) g

  abbrev ms : List ℕ
  ms = members G number g

  abbrev places : List Point
  places = map G.place ms

  abbrev joints : List Point
  joints = flat_map (connections_at G number g) ms

  connection : (c : ℕ) (j : Hop) → c ∈ ms → j ∈ G.ahead c → j.to ∈ ms
      → (G.place c ⊕ G.place j.to) ∈ joints
  unfolding connections_at
  connection c j m n k =
      mem-flat (connections_at G number g) m
      (mem-map (λ (j : Hop). G.place c ⊕ G.place j.to)
      (mem-filter own (G.ahead c) n (rw (members-number G number g j.to k) (eqb_refl g))))

  -- two near cells of the group are ends of a hop, and one of them sees the other ahead
  near-sum : (x y : ℕ) → x ∈ ms → y ∈ ms → OneStep (G.place x) (G.place y)
      → (G.place x ⊕ G.place y) ∈ joints
  near-sum x y m n k =
      let l = members-lt G number g x m in
      let r = P.near-hop x y l (members-lt G number g y n) k in
      go r.0 r.2 (K.ahead-all x r.0 l r.1)
    where
      go : (j : Hop) → j.to ≡ y → j ∈ G.ahead x ⊎ record { border = j.border; to = x } ∈ G.ahead j.to
          → (G.place x ⊕ G.place y) ∈ joints
      go j e (inl i) =
          Memᴰ.cast (ap (λ z. G.place x ⊕ G.place z) (sym e)) (connection x j m i (Memᴰ.cast e n))
      go j e (inr i) =
          Memᴰ.cast (ap (λ z. G.place x ⊕ G.place z) (sym e) ∙ add_comm (G.place x) (G.place j.to))
          (connection j.to (record { border = j.border; to = x }) (Memᴰ.cast e n) i m)

  -- "the sums of all adjacent pairs of cells"
  own-sums : Sums (places) (joints)
  unfolding connections_at
  own-sums =
      record {
        are = λ d m.
            let c = flat-find (connections_at G number g) ms m in
            let j = map-find (λ (j : Hop). G.place c.0 ⊕ G.place j.to) (filter own (G.ahead c.0)) c.2 in
            let l = members-lt G number g c.0 c.1 in
            let a = K.ahead-around c.0 j.0 l (filter-mem own (G.ahead c.0) j.1) in
            let e = eqb→eq (number j.0.to) g (filter-test own (G.ahead c.0) j.1) in (
              G.place c.0,
              G.place j.0.to,
              mem-map G.place c.1,
              mem-map G.place (mem-members G number g j.0.to (K.hop-in c.0 j.0 l a) e),
              P.hop-near c.0 j.0 l a,
              j.2,
            );
        each = λ p q m n k.
            let x = map-find G.place ms m in
            let y = map-find G.place ms n in
            Memᴰ.cast (ap₂ ◌⊕◌ x.2 y.2)
            (near-sum x.0 y.0 x.1 y.1 (near-eq (sym x.2) (sym y.2) k));
      }

  pub shape-sums : Sums (shape_of G number g).cells (shape_of G number g).connections
  unfolding shape_of
  shape-sums = sums-normal places joints own-sums

pub turned-connections : (h w : ℕ) → 1 ≤ w → (number : ℕ → ℕ) (g : ℕ) (a b : Turn) → a ∈ flat_table → b ∈ flat_table
    → (turned (apply a) (shape_of (flat h w) number g)).cells ≡ (turned (apply b) (shape_of (flat h w) number g)).cells
    → (d : Point) → d ∈ (turned (apply a) (shape_of (flat h w) number g)).connections
    → d ∈ (turned (apply b) (shape_of (flat h w) number g)).connections
turned-connections h w index number g a b m n e =
    let t = shape_of (flat h w) number g in
    let S = shape-sums (flat h w) (flat-bordered h w (omega arith)) (flat-placed h w (omega arith)) number g in
    sums_same
    (subst (λ (ps : List Point). Sums ps (turned (apply a) t).connections) e (turned-sums a m t S))
    (turned-sums b n t S)
