-- The search over the planes answers as the plain one: some origin fits.
use Rattle.std.specs.Prelude.{◌≡◌, refl, Bool, ◌&&◌, List, [], ◌∷◌, ℕ, suc, ◌+◌, ◌-◌, ◌*◌, ◌/◌, ◌%◌, ◌<◌, ◌≤◌, eqb}
use Rattle.std.specs.Prelude.{length, drop}
use Rattle.std.proofs.Math.Path.{ap, ap₂, sym}
use Rattle.std.proofs.Common.{◌∙◌, div-lt_iff_lt-mul, length-take, get_or-take, get_or-drop}
use Rattle.std.proofs.Math.Bool.{true}
use mathlib.Core.List.Memᴰ
use Rattle.std.proofs.Math.Nat.{mod-lt}
use native.Mathlib.Omega.{arith}
use borrow.Author.Tests.{eqb-true}
use Rattle.std.proofs.Math.ListN.{get_or}
use Rattle.lists.specs.Lists.{◌∈◌, any, all}
use Rattle.lists.specs.ListLaws.{flat-find}
use Rattle.lists.specs.Tests.{all_below}
use Rattle.lists.specs.TableLaws.{get_d-table}
use Rattle.lists.specs.TestLaws.{all-cong, any_some, any-witness}
use Rattle.lists.specs.Booleans.{and_left, and_right, same_true}
use Rattle.lists.specs.Parts.{part}
use Rattle.lists.specs.AnyAll.{any-holds, holds-any, all-range, any-flat}
use Rattle.rules.specs.declared.Placement.TheVariants.{Fits}
use Rattle.rules.specs.Page.{Puzzle, State}
use Rattle.rules.specs.Codes.{states_in, unclued}
use Rattle.rules.specs.Check.{is_fit}
use Rattle.groups.specs.declared.Grouping.{Grouping}
use Rattle.groups.specs.Grouping.{cells_in, starts_in}
use Rattle.groups.specs.Pages.{Drawn}
use Rattle.groups.specs.Parts.{part_of}
use Rattle.reasons.specs.Arrays.{Cells}
use Rattle.reasons.specs.CellLaws.{cells_at}
use Rattle.shapes.specs.Raising.{ys_in, xs_in, Raised, spelled}
use Rattle.adjacent.specs.Mates.{mate_count, mates_in, Beside}
use Rattle.planes.specs.declared.Reading.{Reading}
use Rattle.planes.specs.declared.Reading.TheVariants.{Ends, Clear, Walled}
use Rattle.planes.specs.JudgeLaws.{judged_after, blocked-never, read_at, read_from, laid-after}
use Rattle.planes.specs.Placing.{bare, read_raised, reading_of, is_clear, fits_of}
use Rattle.planes.specs.Laying.{fits_among, fits_beside}
use Rattle.planes.specs.Bits.{bit_at}
use Rattle.planes.specs.Planes.{plane_word, planes_of}
use Rattle.planes.specs.PlaneLaws.{plane-clear}
use Rattle.planes.specs.Masks.{cell_is, Masked, MaskAnswers, origins_in, plane_bit, line_fits, mask_fits}
use Rattle.planes.specs.MaskLaws.{masked-here}

-- a placement fits exactly if every connection is clear
pub after-clear : (Z : Puzzle) (s : ℕ → State) (rs : List Reading) → is_fit Z s (judged_after Fits rs) ≡ all is_clear rs
unfolding judged_after all
after-clear Z s [] = refl
after-clear Z s (Ends ∷ rs) = refl
after-clear Z s (Clear ∷ rs) = after-clear Z s rs
after-clear Z s (Walled b ∷ rs) = blocked-never Z s b rs

module _ (h w : ℕ) (cs : List ℕ) (s : ℕ → State) (ts : List ℕ) (o n : ℕ) where
  fits-clear : fits_of (unclued h w cs) s (bare (spelled ts n)) o
      ≡ all_below n (λ j. is_clear (read_at h w cs s ts o j))
  unfolding fits_of read_from
  fits-clear =
      let e : n - 0 ≡ n = omega arith in
      ap (is_fit (unclued h w cs) s) (laid-after h w cs s ts o n)
      ∙ (after-clear (unclued h w cs) s (read_from h w cs s ts o 0 (n - 0))
      ∙ (ap (λ m. all is_clear (read_from h w cs s ts o 0 m)) e
      ∙ (all-range is_clear (read_at h w cs s ts o) 0 n
      ∙ all-cong n (λ j. is_clear (read_at h w cs s ts o (0 + j))) (λ j. is_clear (read_at h w cs s ts o j))
      (λ j l. ap (λ k. is_clear (read_at h w cs s ts o k)) (omega arith)))))

module _ {h w : ℕ} {cs : List ℕ} (d : Drawn h w cs) (bs ts : List ℕ) (n : ℕ) (r : Raised ts n) where
  abbrev Z : Puzzle
  Z = unclued h w cs

  abbrev s : ℕ → State
  s = states_in bs

  abbrev p : List ℕ
  p = planes_of h w cs bs

  -- connection j, laid with its origin at (y,x), is clear
  abbrev clear : ℕ → ℕ → ℕ → Bool
  clear y x j = plane_bit p (2 * y + get_or (ys_in ts) j 0) (get_or (xs_in ts) j 0 / 2 + x)

  pub spot-clear : (y x j : ℕ) → y < 32 → j < n
      → clear y x j
      ≡ is_clear (reading_of Z s (read_raised h w (2 * y + get_or (ys_in ts) j 0) (2 * x + get_or (xs_in ts) j 0)))
  unfolding planes_of
  spot-clear y x j l m =
      let a = r j m in
      let e : get_or (xs_in ts) j 0 / 2 + x ≡ (2 * x + get_or (xs_in ts) j 0) / 2 = omega arith in
      ap₂ bit_at (get_d-table 192 (plane_word h w cs bs) (2 * y + get_or (ys_in ts) j 0) 0 (omega (arith, a.row))) e
      ∙ plane-clear h w cs bs d (2 * y + get_or (ys_in ts) j 0) (2 * x + get_or (xs_in ts) j 0) (omega (arith, a.odd))

  cell-fits : (o : ℕ) → o / w < 32
      → all_below n (clear (o / w) (o % w)) ≡ fits_of Z s (bare (spelled ts n)) o
  unfolding read_at
  cell-fits o l =
      all-cong n (clear (o / w) (o % w)) (λ j. is_clear (read_at h w cs s ts o j))
      (λ j m. spot-clear (o / w) (o % w) j l m)
      ∙ sym (fits-clear h w cs s ts o n)

  module _ (os : List ℕ) (page : (c : ℕ) → c ∈ os → c < h * w) {m : List ℕ} (k : Masked w os m) where
    row_of : (c : ℕ) → c ∈ os → c / w < h
    row_of c i = (div-lt_iff_lt-mul {k = w} (omega (arith, d.sized.columns))).1 (page c i)

    cell-there : (y x c : ℕ) → cell_is w y x c ≡ true → (c / w ≡ y) × (c % w ≡ x)
    unfolding cell_is
    cell-there y x c e = (
      eqb-true (c / w) y (and_left (eqb (c / w) y) (eqb (c % w) x) e),
      eqb-true (c % w) x (and_right (eqb (c / w) y) (eqb (c % w) x) e),
    )

    abbrev fit : ℕ → Bool
    fit = fits_of Z s (bare (spelled ts n))

    sound-at : (y x c : ℕ) → y < 32 → c ∈ os → cell_is w y x c ≡ true → all_below n (clear y x) ≡ true
        → any fit os ≡ true
    sound-at y x c l i e f =
        let t = cell-there y x c e in
        let low : c / w < 32 = rw t.0 l in
        let g : all_below n (clear (c / w) (c % w)) ≡ true = rw (t.0, t.1) f in
        holds-any fit i (sym (cell-fits c low) ∙ g)

    sound : mask_fits p m h ts n ≡ true → any fit os ≡ true
    unfolding mask_fits line_fits
    sound e =
        let a = any-witness h (λ y. line_fits p y ts n (get_or m y 0)) e in
        let y = a.0 in
        let tall : y < 32 = omega (arith, a.1, d.sized.tall) in
        let b = any-witness 64 (λ x. bit_at (get_or m y 0) x && all_below n (clear y x)) a.2 in
        let x = b.0 in
        let q = any-holds (cell_is w y x) os
        (sym (k.each y x tall) ∙ and_left (bit_at (get_or m y 0) x) (all_below n (clear y x)) b.2) in
        sound-at y x q.0 tall q.1 q.2 (and_right (bit_at (get_or m y 0) x) (all_below n (clear y x)) b.2)

    complete : any fit os ≡ true → mask_fits p m h ts n ≡ true
    unfolding mask_fits line_fits
    complete e =
        let q = any-holds fit os e in
        let c = q.0 in
        let y = c / w in
        let x = c % w in
        let l : y < h = row_of c q.1 in
        let tall : y < 32 = omega (arith, d.sized.tall) in
        let some : 0 < w = omega (arith, d.sized.columns) in
        let narrow : x < 64 = omega (arith, mod-lt c some, d.sized.broad) in
        let here : bit_at (get_or m y 0) x ≡ true = masked-here w c tall q.1 k in
        let f : all_below n (clear y x) ≡ true = cell-fits c tall ∙ q.2 in
        any_some h (λ y. line_fits p y ts n (get_or m y 0)) y l
        (any_some 64 (λ x. bit_at (get_or m y 0) x && all_below n (clear y x)) x narrow (rw (here, f)))

    pub mask_fits_lem : mask_fits (planes_of h w cs bs) m h ts n
        ≡ any (fits_of (unclued h w cs) (states_in bs) (bare (spelled ts n))) os
    mask_fits_lem = same_true (mask_fits p m h ts n) (any fit os) sound complete

mem_index : (xs : List ℕ) {x : ℕ} → x ∈ xs → (i : ℕ) × (i < length xs) × (get_or xs i 0 ≡ x)
mem_index [] m = absurd (Memᴰ.not-nil m)
mem_index (y ∷ ys) (Memᴰ.head q) = (0, omega arith, sym q)
mem_index (y ∷ ys) (Memᴰ.tail m) = let r = mem_index ys m in (suc r.0, omega (arith, r.1), r.2)

mem-part : (l : List ℕ) (from to : ℕ) {x : ℕ} → x ∈ part l from to
    → (i : ℕ) × (from ≤ i) × (i < to) × (get_or l i 0 ≡ x)
mem-part l from to {x} m =
    let r = mem_index (part l from to) m in
    let i = r.0 in
    let h : i < to - from = omega (arith, r.1, length-take (to - from) (drop from l)) in
    let e : get_or l (from + i) 0 ≡ x =
    sym (get_or-take (to - from) (drop from l) i 0 h ∙ get_or-drop from l i 0) ∙ r.2 in
    (from + i, omega arith, omega arith, e)

module _ {h w : ℕ} {potential : Grouping} {mates : List ℕ} (b : Beside h w potential mates) where
  abbrev cells : List ℕ
  cells = cells_in potential

  abbrev offs : List ℕ
  offs = starts_in potential

  -- the origins are cells of the page
  pub origins-on : (c : ℕ) → c ∈ origins_in (cells_in potential) (starts_in potential) (mates_in mates) → c < h * w
  unfolding origins_in part_of
  origins-on c m =
      let f = flat-find (part_of cells offs) (mates_in mates) m in
      let i = mem-part mates 0 (mate_count mates) f.1 in
      let q = f.0 in
      let g : Cells h w cells (get_or offs q 0) (get_or offs (q + 1) 0) = rw i.3 at (b.each i.0 i.2) in
      let j = mem-part cells (get_or offs q 0) (get_or offs (q + 1) 0) f.2 in
      rw j.3 at (cells_at g j.0 j.1 j.2)

  -- the planes of a page and the mask of the groups beside a unit answer whether some connections fit there
  pub beside-answers : {cs m : List ℕ} (bs : List ℕ) → Drawn h w cs
      → Masked w (origins_in (cells_in potential) (starts_in potential) (mates_in mates)) m
      → MaskAnswers h (planes_of h w cs bs) m
      (λ js. fits_beside (unclued h w cs) (states_in bs) (bare js) (cells_in potential) (starts_in potential)
      (mates_in mates))
  unfolding fits_beside fits_among origins_in
  beside-answers {cs} {m} bs d k ts n r =
      mask_fits_lem d bs ts n r (origins_in cells offs (mates_in mates)) origins-on k
      ∙ any-flat (fits_of (unclued h w cs) (states_in bs) (bare (spelled ts n))) (part_of cells offs) (mates_in mates)
