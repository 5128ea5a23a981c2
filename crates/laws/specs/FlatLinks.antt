-- The borders of a flat page are links: right from (y,x) to (y,x+1), and down from (y,x) to (y+1,x).
use Rattle.std.specs.Prelude.{◌≡◌, ◌⊎◌, Bool, true, false, not, ◌++◌, ltb, ◌+ℤ◌}
use Rattle.std.proofs.Math.Path.{refl, sym, ap}
use Rattle.std.proofs.Common.{◌∙◌, subst, div-lt_iff_lt-mul, add-one, lt→ltb}
use Rattle.std.proofs.Math.Logic.{inl, inr}
use mathlib.Core.List.Memᴰ
use Rattle.std.proofs.Math.Option.{some}
use Prim.Native.Nat.{ℕ, zero, suc, ◌+◌, ◌-◌, ◌*◌, ◌/◌, ◌%◌, ◌<◌}
use Rattle.std.proofs.Math.Nat.{mul-zero, mod-lt, div-add-mod'}
use native.Mathlib.Omega.{arith}
use borrow.Author.Tests.{lt-ltb, le-ltb, le-leb}
use Rattle.std.proofs.Math.Arith.{digits_div, digits_mod}
use Rattle.std.proofs.Math.Dec.{T, ltb→lt, nltb→le}
use Rattle.std.proofs.Math.IntN.{pos, negsuc, -ℤ_one}
use Rattle.lists.specs.Lists.{◌∈◌}
use Rattle.lists.specs.Booleans.{T-dec}
use Rattle.rules.specs.Page.{Hop, ◌⊕◌}
use Rattle.rules.specs.Flat.{flat, cell_at, right_of, below_of, border_count, hop_if, hop_above, hop_below, hop_left}
use Rattle.rules.specs.Flat.{hop_right}
use Rattle.rules.specs.Flat.{around_at, ahead_at, flat_first, flat_second, flat_place, flat_reads_at, flat_reads}
use Rattle.laws.specs.FlatLaws.{spot}
use Rattle.laws.specs.PointLaws.{point-eq}
use Rattle.laws.specs.PageLaws.{OneStep, at3}
use Rattle.laws.specs.Links.{Link, Linking, Linked}

-- the hop, if there is one
hop-mem : (b : Bool) (n c : ℕ) → T b → record { border = n; to = c } ∈ hop_if b n c
unfolding hop_if
hop-mem true n c t = Memᴰ.head refl
hop-mem false n c t = absurd t

mem-hop : (b : Bool) (n c : ℕ) (j : Hop) → j ∈ hop_if b n c → T b × (j ≡ record { border = n; to = c })
unfolding hop_if
mem-hop true n c j (Memᴰ.head e) = (tt, e)
mem-hop true n c j (Memᴰ.tail m) = absurd (Memᴰ.not-nil m)
mem-hop false n c j m = absurd (Memᴰ.not-nil m)

-- one more, and one less again
less-more : (n : ℕ) → n + 1 - 1 ≡ n
less-more n = omega arith

more-less : (n : ℕ) → 0 < n → n - 1 + 1 ≡ n
more-less n l = omega arith

pub plus_none : (n : ℕ) → n ≡ n + 0
plus_none n = omega arith

pub step_back : (n : ℕ) → pos n ≡ pos (n + 1) +ℤ negsuc 0
step_back n = sym (ap (λ z. pos z +ℤ negsuc 0) (add-one n) ∙ -ℤ_one (pos (suc n)))

-- one step on, and back
near_down : (y x : ℕ) → OneStep (at3 (pos 0) (pos y) (pos x)) (at3 (pos 0) (pos (y + 1)) (pos x))
unfolding ◌⊕◌
near_down y x =
    record {
      by = at3 (pos 0) (pos 1) (pos 0);
      unit = Memᴰ.tail (Memᴰ.tail (Memᴰ.head refl));
      reach = point-eq refl refl (ap pos (plus_none x));
    }

near_up : (y x : ℕ) → OneStep (at3 (pos 0) (pos (y + 1)) (pos x)) (at3 (pos 0) (pos y) (pos x))
unfolding ◌⊕◌
near_up y x =
    record {
      by = at3 (pos 0) (negsuc 0) (pos 0);
      unit = Memᴰ.tail (Memᴰ.tail (Memᴰ.tail (Memᴰ.head refl)));
      reach = point-eq refl (step_back y) (ap pos (plus_none x));
    }

near-right : (y x : ℕ) → OneStep (at3 (pos 0) (pos y) (pos x)) (at3 (pos 0) (pos y) (pos (x + 1)))
unfolding ◌⊕◌
near-right y x =
    record {
      by = at3 (pos 0) (pos 0) (pos 1);
      unit = Memᴰ.head refl;
      reach = point-eq refl (ap pos (plus_none y)) refl;
    }

near-left : (y x : ℕ) → OneStep (at3 (pos 0) (pos y) (pos (x + 1))) (at3 (pos 0) (pos y) (pos x))
unfolding ◌⊕◌
near-left y x =
    record {
      by = at3 (pos 0) (pos 0) (negsuc 0);
      unit = Memᴰ.tail (Memᴰ.head refl);
      reach = point-eq refl (ap pos (plus_none y)) (step_back x);
    }

module _ (h w : ℕ) where
  -- what the page says at cell (y,x)
  abbrev cell : ℕ → ℕ → ℕ
  cell y x = cell_at h w y x

  around-at : (y x : ℕ) → x < w → around_at h w (cell y x / w) (cell y x % w) ≡ around_at h w y x
  unfolding cell_at
  around-at y x k = rw (digits_div y k, digits_mod y k)

  ahead-at : (y x : ℕ) → x < w → ahead_at h w (cell y x / w) (cell y x % w) ≡ ahead_at h w y x
  unfolding cell_at
  ahead-at y x k = rw (digits_div y k, digits_mod y k)

  pub place_at_lem : (y x : ℕ) → x < w → flat_place h w (cell_at h w y x) ≡ at3 (pos 0) (pos y) (pos x)
  unfolding flat_place cell_at
  place_at_lem y x k = rw (digits_div y k, digits_mod y k)

  above-mem : (y x : ℕ) → record { border = below_of h w y x; to = cell y x } ∈ hop_above h w (y + 1) x
  unfolding hop_above
  above-mem y x = rw (less-more y) (hop-mem (ltb 0 (y + 1)) _ _ (lt→ltb 0 (y + 1) (omega arith)))

  left-mem : (y x : ℕ) → record { border = right_of h w y x; to = cell y x } ∈ hop_left h w y (x + 1)
  unfolding hop_left
  left-mem y x = rw (less-more x) (hop-mem (ltb 0 (x + 1)) _ _ (lt→ltb 0 (x + 1) (omega arith)))

  -- reading a doubled place: an odd row lies between two rows
  reads-down : (y x : ℕ) → y + 1 < h → x < w → flat_reads_at h w (y + (y + 1)) (x + x) ≡ some (below_of h w y x)
  unfolding flat_reads_at
  reads-down y x l k =
      let r : (y + (y + 1)) % 2 ≡ 1 = omega arith in
      let a : (y + (y + 1)) / 2 ≡ y = omega arith in
      let b : (x + x) / 2 ≡ x = omega arith in
      rw (le-leb (y + (y + 1)) (2 * (h - 1)) (omega arith), le-leb (x + x) (2 * (w - 1)) (omega arith), r, a, b)

  reads-right : (y x : ℕ) → y < h → x + 1 < w → flat_reads_at h w (y + y) (x + (x + 1)) ≡ some (right_of h w y x)
  unfolding flat_reads_at
  reads-right y x l k =
      let r : (y + y) % 2 ≡ 0 = omega arith in
      let a : (y + y) / 2 ≡ y = omega arith in
      let b : (x + (x + 1)) / 2 ≡ x = omega arith in
      rw (le-leb (y + y) (2 * (h - 1)) (omega arith), le-leb (x + (x + 1)) (2 * (w - 1)) (omega arith), r, a, b)

  -- the two cells of a border
  first_below : (y x : ℕ) → flat_first h w (below_of h w y x) ≡ cell y x
  unfolding flat_first cell_at below_of
  first_below y x = rw (le-ltb (h * (w - 1) + (y * w + x)) (h * (w - 1)) (omega arith)) (omega arith)

  second_below : (y x : ℕ) → y < h → x < w → flat_second h w (below_of h w y x) ≡ cell (y + 1) x
  unfolding flat_second cell_at below_of
  second_below y x l k =
      rw (le-ltb (h * (w - 1) + (y * w + x)) (h * (w - 1)) (omega arith)) (omega (arith, spot h w y x l k))

  right-in : (y x : ℕ) → y < h → x + 1 < w → y * (w - 1) + x < h * (w - 1)
  right-in y x l k = omega (arith, spot h w y x l (omega arith))

  first-right : (y x : ℕ) → y < h → x + 1 < w → flat_first h w (right_of h w y x) ≡ cell y x
  unfolding flat_first cell_at right_of
  first-right y x l k =
      let s : x < w - 1 = omega arith in
      rw (lt-ltb (y * (w - 1) + x) (h * (w - 1)) (right-in y x l k), digits_div y s, digits_mod y s)

  second-right : (y x : ℕ) → y < h → x + 1 < w → flat_second h w (right_of h w y x) ≡ cell y (x + 1)
  unfolding flat_second cell_at right_of
  second-right y x l k =
      let s : x < w - 1 = omega arith in
      rw (lt-ltb (y * (w - 1) + x) (h * (w - 1)) (right-in y x l k), digits_div y s, digits_mod y s)

  cell_in : (y x : ℕ) → y < h → x < w → cell y x < h * w
  unfolding cell_at
  cell_in y x l k = (spot h w y x l k).cell

  below_in : (y x : ℕ) → y + 1 < h → x < w → below_of h w y x < border_count h w
  unfolding below_of border_count
  below_in y x l k = let u = (spot h w y x (omega arith) k).under l in omega arith

  beside-in : (y x : ℕ) → y < h → x + 1 < w → right_of h w y x < border_count h w
  unfolding right_of border_count
  beside-in y x l k = omega (arith, right-in y x l k)

  reads-below : (y x : ℕ) → y + 1 < h → x < w
      → flat_reads h w (at3 (pos 0) (pos y) (pos x) ⊕ at3 (pos 0) (pos (y + 1)) (pos x)) ≡ some (below_of h w y x)
  unfolding flat_reads ◌⊕◌
  reads-below y x l k = reads-down y x l k

  reads-beside : (y x : ℕ) → y < h → x + 1 < w
      → flat_reads h w (at3 (pos 0) (pos y) (pos x) ⊕ at3 (pos 0) (pos y) (pos (x + 1))) ≡ some (right_of h w y x)
  unfolding flat_reads ◌⊕◌
  reads-beside y x l k = reads-right y x l k

  pub down-link : (y x : ℕ) → y + 1 < h → x < w
      → Link (flat h w) (below_of h w y x) (cell_at h w y x) (cell_at h w (y + 1) x)
  unfolding flat around_at ahead_at hop_below
  down-link y x l k =
      let m = hop-mem (ltb (y + 1) h) (below_of h w y x) (cell (y + 1) x) (lt→ltb (y + 1) h l) in
      record {
        border-in = below_in y x l k;
        first-in = cell_in y x (omega arith) k;
        second-in = cell_in (y + 1) x l k;
        first-is = first_below y x;
        second_is = second_below y x (omega arith) k;
        forward = rw (ahead-at y x k) (Memᴰ.append_left _ m);
        around-first = rw (around-at y x k) (Memᴰ.append_right (hop_above h w y x) (Memᴰ.append_left _ m));
        around-second = rw (around-at (y + 1) x k) (Memᴰ.append_left _ (above-mem y x));
        near = rw (place_at_lem y x k, place_at_lem (y + 1) x k) (near_down y x);
        near-back = rw (place_at_lem y x k, place_at_lem (y + 1) x k) (near_up y x);
        reads-it = rw (place_at_lem y x k, place_at_lem (y + 1) x k) (reads-below y x l k);
      }

  pub right-link : (y x : ℕ) → y < h → x + 1 < w
      → Link (flat h w) (right_of h w y x) (cell_at h w y x) (cell_at h w y (x + 1))
  unfolding flat around_at ahead_at hop_right
  right-link y x l k =
      let j : x < w = omega arith in
      let m = hop-mem (ltb (x + 1) w) (right_of h w y x) (cell y (x + 1)) (lt→ltb (x + 1) w k) in
      record {
        border-in = beside-in y x l k;
        first-in = cell_in y x l j;
        second-in = cell_in y (x + 1) l k;
        first-is = first-right y x l k;
        second_is = second-right y x l k;
        forward = rw (ahead-at y x j) (Memᴰ.append_right (hop_below h w y x) m);
        around-first = rw (around-at y x j)
            (Memᴰ.append_right (hop_above h w y x) (Memᴰ.append_right (hop_below h w y x)
            (Memᴰ.append_right (hop_left h w y x) m)));
        around-second = rw (around-at y (x + 1) k)
            (Memᴰ.append_right (hop_above h w y (x + 1)) (Memᴰ.append_right (hop_below h w y (x + 1))
            (Memᴰ.append_left _ (left-mem y x))));
        near = rw (place_at_lem y x j, place_at_lem y (x + 1) k) (near-right y x);
        near-back = rw (place_at_lem y x j, place_at_lem y (x + 1) k) (near-left y x);
        reads-it = rw (place_at_lem y x j, place_at_lem y (x + 1) k) (reads-beside y x l k);
      }

  -- a cell's row and column
  pub cell-is : (c : ℕ) → cell_at h w (c / w) (c % w) ≡ c
  unfolding cell_at
  cell-is c = div-add-mod' c w

module _ (h w : ℕ) (hw : 0 < w) where
  pub row_in : (c : ℕ) → c < h * w → c / w < h
  row_in c l = (div-lt_iff_lt-mul hw).1 l

  pub column-in : (c : ℕ) → c % w < w
  column-in c = mod-lt c hw

  -- a link that ends, or begins, at a cell by its row and column
  ends_at : (b p x : ℕ) → Link (flat h w) b p (cell_at h w (x / w) (x % w)) → Link (flat h w) b p x
  ends_at b p x k = subst (Link (flat h w) b p) (cell-is h w x) k

  begins-at : (b q x : ℕ) → Link (flat h w) b (cell_at h w (x / w) (x % w)) q → Link (flat h w) b x q
  begins-at b q x k = subst (λ (p : ℕ). Link (flat h w) b p q) (cell-is h w x) k

  above-link : (x : ℕ) (j : Hop) → x < h * w → j ∈ hop_above h w (x / w) (x % w) → Link (flat h w) j.border j.to x
  unfolding hop_above
  above-link x j l m =
      let r = mem-hop _ _ _ j m in
      let z = ltb→lt 0 (x / w) r.0 in
      let d = down-link h w (x / w - 1) (x % w) (omega (arith, row_in x l)) (column-in x) in
      rw r.1 (ends_at _ _ x (rw (more-less (x / w) z) at d))

  left-link : (x : ℕ) (j : Hop) → x < h * w → j ∈ hop_left h w (x / w) (x % w) → Link (flat h w) j.border j.to x
  unfolding hop_left
  left-link x j l m =
      let r = mem-hop _ _ _ j m in
      let z = ltb→lt 0 (x % w) r.0 in
      let d = right-link h w (x / w) (x % w - 1) (row_in x l) (omega (arith, column-in x)) in
      rw r.1 (ends_at _ _ x (rw (more-less (x % w) z) at d))

  below-link : (x : ℕ) (j : Hop) → j ∈ hop_below h w (x / w) (x % w) → Link (flat h w) j.border x j.to
  unfolding hop_below
  below-link x j m =
      let r = mem-hop _ _ _ j m in
      rw r.1 (begins-at _ _ x (down-link h w (x / w) (x % w) (ltb→lt (x / w + 1) h r.0) (column-in x)))

  beside-link : (x : ℕ) (j : Hop) → x < h * w → j ∈ hop_right h w (x / w) (x % w) → Link (flat h w) j.border x j.to
  unfolding hop_right
  beside-link x j l m =
      let r = mem-hop _ _ _ j m in
      rw r.1 (begins-at _ _ x (right-link h w (x / w) (x % w) (row_in x l) (ltb→lt (x % w + 1) w r.0)))

  -- every border is the one right of a cell, or below one
  rightwards : (b v : ℕ) → v ≡ w - 1 → b < h * v → (p : ℕ) × (q : ℕ) × Link (flat h w) b p q
  unfolding right_of
  rightwards b zero e l = absurd (omega (arith, mul-zero h))
  rightwards b (suc v) e l =
      let k = mod-lt b {m = suc v} (omega arith) in
      let j = (div-lt_iff_lt-mul {k = suc v} {x = b} {y = h} (omega arith)).1 l in
      let q : right_of h w (b / suc v) (b % suc v) ≡ b =
      ap (λ i. b / suc v * i + b % suc v) (sym e) ∙ div-add-mod' b (suc v) in (
        cell_at h w (b / suc v) (b % suc v),
        cell_at h w (b / suc v) (b % suc v + 1),
        rw q at (right-link h w (b / suc v) (b % suc v) j (omega arith)),
      )

  downwards : (b d : ℕ) → b ≡ h * (w - 1) + d → d < (h - 1) * w → (p : ℕ) × (q : ℕ) × Link (flat h w) b p q
  unfolding below_of
  downwards b d e l =
      let j = (div-lt_iff_lt-mul {k = w} {x = d} {y = h - 1} hw).1 l in
      let q : below_of h w (d / w) (d % w) ≡ b = ap (λ i. h * (w - 1) + i) (div-add-mod' d w) ∙ sym e in (
        cell_at h w (d / w) (d % w),
        cell_at h w (d / w + 1) (d % w),
        rw q at (down-link h w (d / w) (d % w) (omega arith) (mod-lt d hw)),
      )

  border-link : (b : ℕ) → b < border_count h w → (p : ℕ) × (q : ℕ) × Link (flat h w) b p q
  unfolding border_count
  border-link b l = go (T-dec (ltb b (h * (w - 1))))
    where
      go : T (ltb b (h * (w - 1))) ⊎ T (not (ltb b (h * (w - 1)))) → (p : ℕ) × (q : ℕ) × Link (flat h w) b p q
      go (inl t) = rightwards b (w - 1) refl (ltb→lt b (h * (w - 1)) t)
      go (inr t) =
          let k = nltb→le b (h * (w - 1)) t in downwards b (b - h * (w - 1)) (omega arith) (omega arith)

  pub flat-linked : Linked (flat h w)
  unfolding flat around_at ahead_at
  flat-linked =
      record {
        of-around = λ x j l m. first x j l (Memᴰ.append_cases (hop_above h w (x / w) (x % w)) m);
        of-ahead = λ x j l m. ahead x j l (Memᴰ.append_cases (hop_below h w (x / w) (x % w)) m);
        of-border = border-link;
      }
    where
      third : (x : ℕ) (j : Hop) → x < h * w → j ∈ hop_left h w (x / w) (x % w) ⊎ j ∈ hop_right h w (x / w) (x % w)
          → Linking (flat h w) j.border x j.to
      third x j l (inl m) = inr (left-link x j l m)
      third x j l (inr m) = inl (beside-link x j l m)

      second : (x : ℕ) (j : Hop) → x < h * w
          → j ∈ hop_below h w (x / w) (x % w) ⊎ j ∈ (hop_left h w (x / w) (x % w) ++ hop_right h w (x / w) (x % w))
          → Linking (flat h w) j.border x j.to
      second x j l (inl m) = inl (below-link x j m)
      second x j l (inr m) = third x j l (Memᴰ.append_cases (hop_left h w (x / w) (x % w)) m)

      first : (x : ℕ) (j : Hop) → x < h * w
          → j ∈ hop_above h w (x / w) (x % w) ⊎ j ∈ (hop_below h w (x / w) (x % w)
          ++ (hop_left h w (x / w) (x % w) ++ hop_right h w (x / w) (x % w)))
          → Linking (flat h w) j.border x j.to
      first x j l (inl m) = inr (above-link x j l m)
      first x j l (inr m) = second x j l (Memᴰ.append_cases (hop_below h w (x / w) (x % w)) m)

      ahead : (x : ℕ) (j : Hop) → x < h * w
          → j ∈ hop_below h w (x / w) (x % w) ⊎ j ∈ hop_right h w (x / w) (x % w)
          → Link (flat h w) j.border x j.to
      ahead x j l (inl m) = below-link x j m
      ahead x j l (inr m) = beside-link x j l m
