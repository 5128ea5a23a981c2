-- Laws of the flags on a flat page: they say which borders join, and the pass over them leads to the labels.
use Rattle.std.specs.Prelude.{◌≡◌, Bool, false, ◌⊎◌, length, set, take, drop, replicate}
use Rattle.std.proofs.Math.Path.{sym, ap}
use Rattle.std.proofs.Common.{◌∙◌, inl, inr, add-zero, add-mul, mul-zero, div-lt_iff_lt-mul, length-set}
use Rattle.std.proofs.Common.{get_or-take, length-take-le, length-drop}
use Rattle.std.proofs.Math.Bool.{true}
use mathlib.Core.List.{List}
use Prim.Native.Nat.{ℕ, ◌+◌, ◌-◌, ◌*◌, ◌/◌, ◌%◌, ◌<◌, ◌≤◌}
use Rattle.std.proofs.Math.Nat.{div-add-mod', mod-lt}
use native.Mathlib.Omega.{arith}
use Rattle.std.proofs.Math.Decide.{ℕ_discrete, dec_lt}
use borrow.Author.Tests.{eq-eqb, ne_eqb, lt-ltb, le-ltb}
use Rattle.std.proofs.Math.Arith.{digits_lt, digits_div, digits_mod}
use borrow.Rule.Slice.PartMut.{put_mid, same_len_mid}
use Rattle.std.proofs.Math.ListN.{get_or, get_or-append}
use Rattle.std.proofs.lemmas.List.{length-replicate, get_or-append_right}
use Rattle.lists.specs.TableLaws.{stored_more}
use Rattle.lists.specs.PaddedLaws.{replicate-at}
use Rattle.lists.specs.Booleans.{false-true}
use Rattle.rules.specs.Flat.{Sized, flat, flat_first, flat_second, border_count}
use Rattle.rules.specs.Groups.{entry}
use Rattle.laws.specs.FlatLaws.{counts}
use Rattle.laws.specs.LabelLaws.{labels_after, Labelled, labelled-after, labels-one, after-meets, after-sound}
use Rattle.groups.specs.Forests.{Forest, Rep}
use Rattle.groups.specs.Ties.{tied_left, above_at, TieFlags, Tied, Scanned, joined}
use Rattle.groups.specs.GridLaws.{right-first, right-second, right_lt, below-first, below-second, below-lt}
use Rattle.groups.specs.MergeLaws.{joined-labels, joined_keeps, joined_meets, joined-sound}

-- one more flag
pub tie-flags-more : (n m : ℕ) (f : ℕ → Bool) (flags : List Bool) (v : Bool) → n < 1024 → v ≡ f n → m ≡ n + 1
    → TieFlags n f flags → TieFlags m f (set flags n v)
tie-flags-more n m f flags v h e q s =
    rw q
    (record {
      long = length-set flags n v ∙ s.long;
      at = stored_more f false v flags n (omega (arith, s.long)) e s.at;
    })

-- k flags in a row, of which the first m matter
pub tie-flags-put : (n k m : ℕ) (f : ℕ → Bool) (flags new : List Bool) → m ≤ k → n + k ≤ 1024 → length new ≡ k
    → ((i : ℕ) → i < m → get_or new i false ≡ f (n + i)) → TieFlags n f flags
    → TieFlags (n + m) f (put_mid n k flags new)
tie-flags-put n k m f flags new h room e at s =
    record {
      long = same_len_mid n k flags new (e
          ∙ sym (length-take-le k (drop n flags) (omega (arith, length-drop n flags, s.long)))) ∙ s.long;
      at = λ x l. elim (dec_lt x n) [
        | yes i ↦ get_or-append (take n flags) _ false x (omega (arith, front)) ∙ get_or-take n flags x false i
            ∙ s.at x i
        | no i ↦
            let j : n + (x - n) ≡ x = omega arith in
            get_or-append_right (take n flags) _ n x false front (omega arith)
            ∙ get_or-append new _ false (x - n) (omega arith) ∙ at (x - n) (omega arith) ∙ ap f j
      ];
    }
  where
    front : length (take n flags) ≡ n
    front = length-take-le n flags (omega (arith, s.long))

pub tie-flags-none : (f : ℕ → Bool) (flags : List Bool) → length flags ≡ 1024 → TieFlags 0 f flags
tie-flags-none f flags e = record { long = e; at = λ x h. absurd (omega arith) }

-- the flags at a place
module _ (h w : ℕ) (link : ℕ → Bool) where
  left-none : (c : ℕ) → c % w ≡ 0 → tied_left h w link c ≡ false
  unfolding tied_left
  left-none c e = rw (eq-eqb (c % w) 0 e)

  pub left-start : (y : ℕ) → 1 ≤ w → tied_left h w link (y * w) ≡ false
  left-start y s = left-none (y * w) (rw add-zero at (digits_mod y {m = w} {r = 0} s))

  pub left_at_lem : (y x : ℕ) → x + 1 < w → tied_left h w link (y * w + x + 1) ≡ link (y * (w - 1) + x)
  unfolding tied_left
  left_at_lem y x hx =
      let e : y * w + x + 1 ≡ y * w + (x + 1) = omega arith in
      let z : x + 1 - 1 ≡ x = omega arith in
      rw (e, digits_div y hx, digits_mod y hx, ne_eqb (x + 1) 0 (λ q. omega arith), z)

  above-first : (c : ℕ) → c < w → above_at h w link c ≡ false
  unfolding above_at
  above-first c l = rw (lt-ltb c w l)

  pub above_at_lem : (c : ℕ) → above_at h w link (c + w) ≡ link (h * (w - 1) + c)
  unfolding above_at
  above_at_lem c = let e : c + w - w ≡ c = omega arith in rw (le-ltb (c + w) w (omega arith), e)

  -- the first row's flags are those of an array without flags
  pub tied-above-none : (flags : List Bool) → flags ≡ replicate 1024 false → TieFlags w (above_at h w link) flags
  tied-above-none flags e =
      rw e (record {
        long = length-replicate 1024 false;
        at = λ x l. replicate-at false 1024 x ∙ sym (above-first x l);
      })

-- a border is right of a cell or below one
record Right (h w b : ℕ) : Type 0 where
  row : ℕ
  column : ℕ
  high : row < h
  slim : column + 1 < w
  is : b ≡ row * (w - 1) + column

record Below (h w b : ℕ) : Type 0 where
  cell : ℕ
  high : cell < (h - 1) * w
  is : b ≡ h * (w - 1) + cell

border-side : (h w b : ℕ) → b < border_count h w → Right h w b ⊎ Below h w b
unfolding border_count
border-side h w b l = go (dec_lt b (h * (w - 1))) (ℕ_discrete (w - 1) 0)
  where
    go : Dec (b < h * (w - 1)) → Dec (w - 1 ≡ 0) → Right h w b ⊎ Below h w b
    go (yes k) (yes e) = let z : h * (w - 1) ≡ 0 = rw e (mul-zero h) in absurd (omega arith)
    go (yes k) (no e) =
        let s : 0 < w - 1 = omega arith in
        inl (record {
          row = b / (w - 1);
          column = b % (w - 1);
          high = (div-lt_iff_lt-mul s).1 k;
          slim = omega (arith, mod-lt b s);
          is = sym (div-add-mod' b (w - 1));
        })
    go (no k) d = inr (record { cell = b - h * (w - 1); high = omega arith; is = omega arith })

module _ (h w : ℕ) (link : ℕ → Bool) (sized : Sized h w) where
  -- the cells of a border are on the page
  inside : (b : ℕ) → b < border_count h w → (flat_first h w b < h * w) × (flat_second h w b < h * w)
  inside b l = go (border-side h w b l)
    where
      go : Right h w b ⊎ Below h w b → (flat_first h w b < h * w) × (flat_second h w b < h * w)
      go (inl r) =
          let k : r.row * w + (r.column + 1) < h * w = digits_lt r.high r.slim in
          rw (
            r.is,
            right-first h w r.row r.column r.high r.slim,
            right-second h w r.row r.column r.high r.slim,
          ) (omega arith, omega arith)
      go (inr r) =
          let k = below-lt h w r.cell sized.rows r.high in
          rw (r.is, below-first h w r.cell, below-second h w r.cell) (omega arith, k)

  -- labels that part no joined cells have one label on both sides of each border that joins
  closed : (M : List ℕ) → Tied (h * w) w (tied_left h w link) (above_at h w link) M → (b : ℕ) → b < border_count h w
      → link b ≡ true → get_or M (flat_first h w b) 0 ≡ get_or M (flat_second h w b) 0
  closed M t b l e = go (border-side h w b l)
    where
      go : Right h w b ⊎ Below h w b → get_or M (flat_first h w b) 0 ≡ get_or M (flat_second h w b) 0
      go (inl r) =
          let k : r.row * w + (r.column + 1) < h * w = digits_lt r.high r.slim in
          let z : r.row * w + r.column + 1 - 1 ≡ r.row * w + r.column = omega arith in
          rw (
            r.is,
            right-first h w r.row r.column r.high r.slim,
            right-second h w r.row r.column r.high r.slim,
          )
          (rw z at (t.beside (r.row * w + r.column + 1) (omega arith)
          (left_at_lem h w link r.row r.column r.slim ∙ ap link (sym r.is) ∙ e)))
      go (inr r) =
          let z : r.cell + w - w ≡ r.cell = omega arith in
          rw (r.is, below-first h w r.cell, below-second h w r.cell)
          (rw z at (t.over (r.cell + w) (below-lt h w r.cell sized.rows r.high) (omega arith)
          (above_at_lem h w link r.cell ∙ ap link (sym r.is) ∙ e)))

  abbrev all : List ℕ
  all = labels_after (flat h w) link (border_count h w)

  meets : (b : ℕ) → b < border_count h w → link b ≡ true
      → get_or all (flat_first h w b) 0 ≡ get_or all (flat_second h w b) 0
  unfolding flat
  meets = after-meets (flat h w) link (counts sized).some inside (border_count h w) (omega arith)

  -- the labels part no joined cells
  tied : Tied (h * w) w (tied_left h w link) (above_at h w link) all
  unfolding border_count
  tied = record { beside = λ c l e. beside c l (ℕ_discrete (c % w) 0) e; over = over }
    where
      beside : (c : ℕ) → c < h * w → Dec (c % w ≡ 0) → tied_left h w link c ≡ true → get_or all (c - 1) 0
          ≡ get_or all c 0
      beside c l (yes z) e = false-true (left-none h w link c z) e
      beside c l (no z) e =
          let s : 0 < w = sized.columns in
          let x : ℕ = c % w - 1 in
          let hx : x + 1 < w = omega (arith, mod-lt c s) in
          let hy : c / w < h = (div-lt_iff_lt-mul s).1 l in
          let q : c / w * w + x + 1 ≡ c = omega (arith, div-add-mod' c w) in
          let o : c / w * w + x ≡ c - 1 = omega arith in
          let on : link (c / w * (w - 1) + x) ≡ true =
          sym (left_at_lem h w link (c / w) x hx) ∙ ap (tied_left h w link) q ∙ e in
          let m : get_or all (c / w * w + x) 0 ≡ get_or all (c / w * w + x + 1) 0 =
          rw (right-first h w (c / w) x hy hx, right-second h w (c / w) x hy hx) at
          (meets (c / w * (w - 1) + x) (omega (arith, right_lt h w (c / w) x hy hx)) on) in
          ap (λ (i : ℕ). get_or all i 0) (sym o) ∙ m ∙ ap (λ (i : ℕ). get_or all i 0) q

      over : (c : ℕ) → c < h * w → w ≤ c → above_at h w link c ≡ true → get_or all (c - w) 0 ≡ get_or all c 0
      over c l k e =
          let q : c - w + w ≡ c = omega arith in
          let g : h - 1 + 1 ≡ h = omega (arith, sized.rows) in
          let m : (h - 1 + 1) * w ≡ (h - 1) * w + w = add-mul (h - 1) 1 w ∙ omega arith in
          let on : link (h * (w - 1) + (c - w)) ≡ true =
          sym (above_at_lem h w link (c - w)) ∙ ap (above_at h w link) q ∙ e in
          (rw (below-first h w (c - w), below-second h w (c - w)) at
          (meets (h * (w - 1) + (c - w)) (omega (arith, rw g at m)) on))
          ∙ ap (λ (i : ℕ). get_or all i 0) q

  -- the parents that the pass gave, and the labels once the cells of its list are joined to those left of them
  module _ (p cs : List ℕ) (k : ℕ) (f : Forest p)
      (s : Scanned (h * w) w (tied_left h w link) (above_at h w link) p cs k) where
    abbrev first : List ℕ
    first = take (h * w) p

    at : (x : ℕ) → x < h * w → get_or first x 0 ≡ get_or p x 0
    at x l = get_or-take (h * w) p x 0 l

    pub scan-rep : Rep (h * w) p (take (h * w) p)
    scan-rep =
        record {
          labelled = record {
            size = length-take-le (h * w) p (omega (arith, f.long, (counts sized).cells));
            least = λ x l. omega (arith, at x l, f.down x);
            twice = λ x l. rw (at x l) (at (get_or p x 0) (omega (arith, f.down x)) ∙ s.twice x l);
          };
          same = λ x l. at (get_or p x 0) (omega (arith, f.down x)) ∙ s.twice x l ∙ sym (at x l);
          root = λ x l e. at x l ∙ e;
        }

    pub scan-labels : joined (take (h * w) p) (entry cs) k ≡ labels_after (flat h w) link (border_count h w)
    unfolding entry flat
    scan-labels =
        let some : 1 ≤ h * w = (counts sized).some in
        let lab : Labelled (h * w) first = scan-rep.labelled in
        let few : (i : ℕ) → i < k → get_or cs i 0 < h * w = λ i l. (s.few i l).1 in
        let M : List ℕ = joined first (entry cs) k in
        let follows : (x : ℕ) → x < h * w → get_or M (get_or p x 0) 0 ≡ get_or M x 0 =
        λ x l. joined_keeps (h * w) some first lab (entry cs) k few k (omega arith) (get_or p x 0) x
        (omega (arith, f.down x)) l (scan-rep.same x l) in
        let t : Tied (h * w) w (tied_left h w link) (above_at h w link) M =
        s.whole M follows (joined_meets (h * w) some first lab (entry cs) k few k (omega arith)) in
        labels-one (h * w) M all (joined-labels (h * w) some first lab (entry cs) k)
        (labelled-after (flat h w) link some (border_count h w))
        (joined-sound (h * w) some first lab (entry cs) k few all
        (λ i l. tied.beside (get_or cs i 0) (few i l) (s.joins i l))
        (λ x l. ap (λ (j : ℕ). get_or all j 0) (at x l) ∙ s.sound all tied x l) k (omega arith))
        (after-sound (flat h w) link some inside M (border_count h w) (omega arith) (closed M t))
