-- A flat page of any height, and any width from 1 up, has what the argument asks: flat-bordered, flat-placed,
-- flat-listed. From a cell, each of the six steps leads to a neighbour, or off the page.
--
--   NextCell Y X e      the step e from (Y,X) leads over a border to a cell
--   Off Y X e           no cell lies there, and the doubled place between reads as off the page
--   Beside Y X e        the one or the other
use Rattle.std.proofs.Math.Path.{◌≡◌, refl, sym, ap}
use Rattle.std.proofs.Common.{◌∙◌, subst}
use Rattle.std.specs.Prelude.{◌⊎◌, not, ltb, leb, negsuc}
use Rattle.std.proofs.Math.Logic.{inl, inr}
use mathlib.Core.List.Memᴰ
use Rattle.std.proofs.Math.Option.{some, none}
use Prim.Native.Nat.{ℕ, zero, suc, ◌+◌, ◌-◌, ◌*◌, ◌/◌, ◌%◌, ◌<◌}
use Rattle.std.proofs.Math.Numerals.{add-one}
use native.Mathlib.Omega.{arith}
use Rattle.std.proofs.lemmas.Bool.{lt-leb}
use Rattle.std.proofs.Math.Dec.{T, ltb→lt, nltb→le}
use Rattle.std.proofs.Math.IntN.{pos}
use Rattle.lists.specs.Lists.{◌∈◌}
use Rattle.lists.specs.ListLaws.{mem-map, map-find}
use Rattle.lists.specs.Booleans.{and-fails, T-dec}
use Rattle.rules.specs.Page.{Hop, Point, ◌⊕◌}
use Rattle.rules.specs.Turns.{apply, flat_table}
use Rattle.rules.specs.Flat.{flat, cell_at, right_of, below_of, around_at}
use Rattle.rules.specs.Flat.{flat_place, flat_reads_at, flat_reads}
use Rattle.laws.specs.PointLaws.{point-eq}
use Rattle.laws.specs.PageLaws.{OneStep, six_steps, at3, Bordered, CellsPlaced, TurnsListed, Moved}
use Rattle.laws.specs.Links.{Linking, linking-hop, linking-in, linking-reads, linked-bordered, linked-near}
use Rattle.laws.specs.Links.{linked-reads}
use Rattle.laws.specs.FlatList.{flat-are, flat-cover, flat-turns}
use Rattle.laws.specs.FlatLinks.{flat-linked, down-link, right-link, place_at_lem, cell-is, row_in, column-in}
use Rattle.laws.specs.FlatLinks.{step_back, plus_none}

module _ (h w : ℕ) where
  record NextCell (Y X : ℕ) (e : Point) : Type 0 where
    cell : ℕ
    over : ℕ
    link : Linking (flat h w) over (cell_at h w Y X) cell
    spot : flat_place h w cell ≡ at3 (pos 0) (pos Y) (pos X) ⊕ e

  record Off (Y X : ℕ) (e : Point) : Type 0 where
    no_cell : (y : ℕ) → y < h * w → flat_place h w y ≡ at3 (pos 0) (pos Y) (pos X) ⊕ e → ⊥
    no-border : flat_reads h w (at3 (pos 0) (pos Y) (pos X) ⊕ (at3 (pos 0) (pos Y) (pos X) ⊕ e)) ≡ none

  abbrev Beside : ℕ → ℕ → Point → Type 0
  Beside Y X e = NextCell Y X e ⊎ Off Y X e

  too-low : (Y X : ℕ) → 2 * (h - 1) < Y → flat_reads_at h w Y X ≡ none
  unfolding flat_reads_at
  too-low Y X l = rw (lt-leb Y (2 * (h - 1)) l)

  too_far : (Y X : ℕ) → 2 * (w - 1) < X → flat_reads_at h w Y X ≡ none
  unfolding flat_reads_at
  too_far Y X l = rw (and-fails (leb Y (2 * (h - 1))) (leb X (2 * (w - 1))) (lt-leb X (2 * (w - 1)) l))

module _ (h w : ℕ) (hw : 0 < w) where
  right : (Y X : ℕ) → Y < h → X < w → Beside h w Y X (at3 (pos 0) (pos 0) (pos 1))
  unfolding ◌⊕◌ flat_reads flat_place
  right Y X l k = go (T-dec (ltb (X + 1) w))
    where
      go : T (ltb (X + 1) w) ⊎ T (not (ltb (X + 1) w))
          → Beside h w Y X (at3 (pos 0) (pos 0) (pos 1))
      go (inl t) =
          let j = ltb→lt (X + 1) w t in
          inl (record {
            cell = cell_at h w Y (X + 1);
            over = right_of h w Y X;
            link = inl (right-link h w Y X l j);
            spot = place_at_lem h w Y (X + 1) j ∙ point-eq refl (ap pos (plus_none Y)) refl;
          })
      go (inr t) =
          let j = nltb→le (X + 1) w t in
          inr (record {
            no_cell = λ y m e.
                let c = ap (λ (p : Point). p.column) e in
                let d : y % w ≡ X + 1 = cc in
                omega (arith, column-in h w hw y);
            no-border = too_far h w (Y + (Y + 0)) (X + (X + 1)) (omega arith);
          })

  down : (Y X : ℕ) → Y < h → X < w → Beside h w Y X (at3 (pos 0) (pos 1) (pos 0))
  unfolding ◌⊕◌ flat_reads flat_place
  down Y X l k = go (T-dec (ltb (Y + 1) h))
    where
      go : T (ltb (Y + 1) h) ⊎ T (not (ltb (Y + 1) h))
          → Beside h w Y X (at3 (pos 0) (pos 1) (pos 0))
      go (inl t) =
          let j = ltb→lt (Y + 1) h t in
          inl (record {
            cell = cell_at h w (Y + 1) X;
            over = below_of h w Y X;
            link = inl (down-link h w Y X j k);
            spot = place_at_lem h w (Y + 1) X k ∙ point-eq refl refl (ap pos (plus_none X));
          })
      go (inr t) =
          let j = nltb→le (Y + 1) h t in
          inr (record {
            no_cell = λ y m e.
                let c = ap (λ (p : Point). p.row) e in
                let d : y / w ≡ Y + 1 = cc in
                omega (arith, row_in h w hw y m);
            no-border = too-low h w (Y + (Y + 1)) (X + (X + 0)) (omega arith);
          })

  left : (Y X : ℕ) → Y < h → X < w
      → Beside h w Y X (at3 (pos 0) (pos 0) (negsuc 0))
  unfolding ◌⊕◌ flat_reads flat_place
  left Y zero l k =
      inr (record {
        no_cell = λ y m e.
            let c = ap (λ (p : Point). p.column) e in let z : ◌≡◌ {A = ℕ} 0 1 = cc in omega arith;
        no-border = refl;
      })
  left Y (suc X) l k =
      let e = add-one X in
      let j : X + 1 < w = omega arith in
      inl (rw (← e) (record {
        cell = cell_at h w Y X;
        over = right_of h w Y X;
        link = inr (right-link h w Y X l j);
        spot = place_at_lem h w Y X (omega arith) ∙ point-eq refl (ap pos (plus_none Y)) (step_back X);
      }))

  up : (Y X : ℕ) → Y < h → X < w
      → Beside h w Y X (at3 (pos 0) (negsuc 0) (pos 0))
  unfolding ◌⊕◌ flat_reads flat_place
  up zero X l k =
      inr (record {
        no_cell = λ y m e.
            let c = ap (λ (p : Point). p.row) e in let z : ◌≡◌ {A = ℕ} 0 1 = cc in omega arith;
        no-border = refl;
      })
  up (suc Y) X l k =
      let e = add-one Y in
      let j : Y + 1 < h = omega arith in
      inl (rw (← e) (record {
        cell = cell_at h w Y X;
        over = below_of h w Y X;
        link = inr (down-link h w Y X j k);
        spot = place_at_lem h w Y X k ∙ point-eq refl (step_back Y) (ap pos (plus_none X));
      }))

  layer : (Y X : ℕ) → Off h w Y X (at3 (pos 1) (pos 0) (pos 0))
  unfolding ◌⊕◌ flat_reads flat_place
  layer Y X =
      record {
        no_cell = λ y m e.
            let c = ap (λ (p : Point). p.layer) e in let z : ◌≡◌ {A = ℕ} 0 1 = cc in omega arith;
        no-border = refl;
      }

  under : (Y X : ℕ) → Off h w Y X (at3 (negsuc 0) (pos 0) (pos 0))
  unfolding ◌⊕◌ flat_reads flat_place
  under Y X =
      record {
        no_cell = λ y m e.
            let c = ap (λ (p : Point). p.layer) e in let z : ◌≡◌ {A = ℕ} 0 1 = cc in omega arith;
        no-border = refl;
      }

  beside : (Y X : ℕ) → Y < h → X < w → (e : Point) → e ∈ six_steps → Beside h w Y X e
  beside Y X l k e (Memᴰ.head q) = rw q (right Y X l k)
  beside Y X l k e (Memᴰ.tail (Memᴰ.head q)) = rw q (left Y X l k)
  beside Y X l k e (Memᴰ.tail (Memᴰ.tail (Memᴰ.head q))) = rw q (down Y X l k)
  beside Y X l k e (Memᴰ.tail (Memᴰ.tail (Memᴰ.tail (Memᴰ.head q)))) = rw q (up Y X l k)
  beside Y X l k e (Memᴰ.tail (Memᴰ.tail (Memᴰ.tail (Memᴰ.tail (Memᴰ.head q))))) =
      inr (rw q (layer Y X))
  beside Y X l k e
      (Memᴰ.tail (Memᴰ.tail (Memᴰ.tail (Memᴰ.tail (Memᴰ.tail (Memᴰ.head q)))))) =
      inr (rw q (under Y X))
  beside Y X l k e
      (Memᴰ.tail (Memᴰ.tail (Memᴰ.tail (Memᴰ.tail (Memᴰ.tail (Memᴰ.tail m)))))) =
      absurd (Memᴰ.not-nil m)

  -- the same from a cell by its number
  place_is : (x : ℕ) → flat_place h w x ≡ at3 (pos 0) (pos (x / w)) (pos (x % w))
  unfolding flat_place
  place_is x = refl

  from : (x : ℕ) → x < h * w → (e : Point) → e ∈ six_steps → Beside h w (x / w) (x % w) e
  from x l = beside (x / w) (x % w) (row_in h w hw x l) (column-in h w hw x)

  link-from : (x : ℕ) (e : Point) (N : NextCell h w (x / w) (x % w) e) → Linking (flat h w) N.over x N.cell
  link-from x e N = subst (λ (p : ℕ). Linking (flat h w) N.over p N.cell) (cell-is h w x) N.link

  place-inj : (x y : ℕ) → x < h * w → y < h * w → flat_place h w x ≡ flat_place h w y → x ≡ y
  unfolding flat_place
  place-inj x y l k e =
      let r = ap (λ (p : Point). p.row) e in
      let c = ap (λ (p : Point). p.column) e in
      let u : x / w ≡ y / w = cc in
      let v : x % w ≡ y % w = cc in
      sym (cell-is h w x) ∙ (ap (λ i. cell_at h w i (x % w)) u ∙ (ap (cell_at h w (y / w)) v ∙ cell-is h w y))

  near-hop : (x y : ℕ) → x < h * w → y < h * w → OneStep (flat_place h w x) (flat_place h w y)
      → (j : Hop) × j ∈ around_at h w (x / w) (x % w) × (j.to ≡ y)
  unfolding flat
  near-hop x y l k n = go (from x l n.by n.unit)
    where
      there : flat_place h w y ≡ at3 (pos 0) (pos (x / w)) (pos (x % w)) ⊕ n.by
      there = n.reach ∙ ap (λ z. z ⊕ n.by) (place_is x)

      go : Beside h w (x / w) (x % w) n.by
          → (j : Hop) × j ∈ around_at h w (x / w) (x % w) × (j.to ≡ y)
      go (inl N) =
          let L = link-from x n.by N in (
            record { border = N.over; to = N.cell },
            linking-hop (flat h w) N.over x N.cell L,
            place-inj N.cell y (linking-in (flat h w) N.over x N.cell L) k (N.spot ∙ sym there),
          )
      go (inr O) = absurd (O.no_cell y k there)

  reads-hop : (x : ℕ) (p : Point) (b : ℕ) → x < h * w → OneStep (flat_place h w x) p
      → flat_reads h w (flat_place h w x ⊕ p) ≡ some b
      → (j : Hop) × j ∈ around_at h w (x / w) (x % w) × (j.border ≡ b) × (flat_place h w j.to ≡ p)
  unfolding flat
  reads-hop x p b l n e = go (from x l n.by n.unit)
    where
      there : p ≡ at3 (pos 0) (pos (x / w)) (pos (x % w)) ⊕ n.by
      there = n.reach ∙ ap (λ z. z ⊕ n.by) (place_is x)

      go : Beside h w (x / w) (x % w) n.by
          → (j : Hop) × j ∈ around_at h w (x / w) (x % w) × (j.border ≡ b) × (flat_place h w j.to ≡ p)
      go (inl N) =
          let L = link-from x n.by N in
          let s = N.spot ∙ sym there in
          let r = sym (linking-reads (flat h w) N.over x N.cell L)
          ∙ (ap (λ z. flat_reads h w (flat_place h w x ⊕ z)) s ∙ e) in (
            record { border = N.over; to = N.cell },
            linking-hop (flat h w) N.over x N.cell L,
            (let v : N.over ≡ b = cc in v),
            s,
          )
      go (inr O) =
          let r = ap (λ z. flat_reads h w (at3 (pos 0) (pos (x / w)) (pos (x % w)) ⊕ z)) there ∙ O.no-border in
          let q = ap (λ z. flat_reads h w (z ⊕ p)) (place_is x) in
          let z : ◌≡◌ {A = ℕ} 0 1 = cc in
          absurd (omega arith)

  pub flat-bordered : Bordered (flat h w)
  flat-bordered = linked-bordered (flat h w) (flat-linked h w hw)

  pub flat-placed : CellsPlaced (flat h w)
  unfolding flat
  flat-placed =
      record {
        place-inj = place-inj;
        hop-near = linked-near (flat h w) (flat-linked h w hw);
        near-hop = near-hop;
        hop-reads = linked-reads (flat h w) (flat-linked h w hw);
        reads-hop = reads-hop;
        turns-ok = flat-turns;
      }

pub flat-listed : (h w : ℕ) → TurnsListed (flat h w)
unfolding flat
flat-listed h w =
    record {
      is_turned = λ t u o m.
          let r = flat-are t u o m in
          (apply r.0, r.2.shift, mem-map apply r.1, r.2.cells-moved, r.2.connections-moved);
      is-based = λ t u o m. (flat-are t u o m).2.based;
      has-turned = λ t g o m.
          let r = map-find apply flat_table m in
          let c = flat-cover t r.0 o r.1 in (
            c.0,
            c.2.shift,
            c.1,
            subst (λ (f : Point → Point). Moved f c.2.shift t.cells c.0.cells) (sym r.2) c.2.moved,
          );
    }
