-- Laws of masks: one cell more, and the loops that flag the cells of a group and of some groups.
use Rattle.std.specs.Prelude.{◌≡◌, Bool, true, false, ◌||◌, ◌≢◌, ℕ, zero, ◌+◌, ◌-◌, ◌*◌, ◌/◌, ◌%◌, ◌^◌, ◌<◌, ◌≤◌, eqb}
use Rattle.std.specs.Prelude.{length, get_or, set, replicate}
use Rattle.std.proofs.Math.Path.{refl, ap, sym}
use Rattle.std.proofs.Common.{ap₂, ◌∙◌, subst, take_all, mod-lt, div-lt_iff_lt-mul, arith, get_or-set_same}
use Rattle.std.proofs.Common.{get_or-set_other}
use Rattle.std.proofs.Math.Bool.{or-false}
use mathlib.Core.List.{List, [], ◌∷◌, ◌++◌, append_assoc, append-nil}
use Rattle.std.proofs.Math.Logic.{⊎_elim}
use borrow.Author.Tests.{eq-eqb, ne_eqb}
use Rattle.std.specs.Int.Bits.{bit_or}
use Rattle.std.proofs.Common.{take, drop, length-take, length-take-le, get_or-take, get_or-drop}
use Rattle.std.proofs.Math.ListN.{length-set, length-replicate}
use Rattle.adjacent.specs.Mates.{mate_count}
use Rattle.lists.specs.Lists.{◌∈◌, any, flat_map}
use Rattle.lists.specs.PaddedLaws.{zeros}
use Rattle.lists.specs.Parts.{part}
use Rattle.lists.specs.Appends.{any_append, flat_append}
use Rattle.lists.specs.PartLaws.{part_none, part-one, part-split, part_length}
use Rattle.lists.specs.Arithmetic.{eq-or-not, eqb_swap}
use Rattle.lists.specs.AnyAll.{holds-any}
use Rattle.rules.specs.Flat.{Sized}
use Rattle.groups.specs.Parts.{part_of}
use Rattle.reasons.specs.Arrays.{Cells}
use Rattle.planes.specs.Bits.{bit_at}
use Rattle.planes.specs.BitLaws.{bit-zero, bit-with}
use Rattle.planes.specs.Masks.{cell_is, Masked, origins_in}

pub place_in : {h w : ℕ} (c : ℕ) → Sized h w → c < h * w → (c / w < 32) × (c % w < 32)
place_in {h} {w} c s l =
    let some : 0 < w = omega (arith, s.columns) in
    (omega (arith, (div-lt_iff_lt-mul {k = w} some).1 l, s.tall), omega (arith, mod-lt c some, s.broad))

module _ (w : ℕ) where
  pub masked-none : {m : List ℕ} → m ≡ replicate 33 0 → Masked w [] m
  unfolding any
  masked-none e =
      rw e
      (record {
        size = length-replicate 33 zero;
        each = λ y x l. ap (λ (v : ℕ). bit_at v x) (zeros 33 y) ∙ bit-zero x;
      })

  -- place 32 is no row
  pub masked-tag : {xs m : List ℕ} (v : ℕ) → Masked w xs m → Masked w xs (set m 32 v)
  masked-tag {xs} {m} v d =
      record {
        size = length-set m 32 v ∙ d.size;
        each =
            λ y x l.
            ap (λ (k : ℕ). bit_at k x) (get_or-set_other m 32 y v 0 (λ (e : y ≡ 32). omega arith)) ∙ d.each y x l;
      }

  cell_row : (y x c : ℕ) → y ≡ c / w → eqb x (c % w) ≡ cell_is w y x c
  unfolding cell_is
  cell_row y x c e = rw (eq-eqb (c / w) y (sym e)) (eqb_swap x (c % w))

  cell_other : (y x c : ℕ) → y ≢ c / w → false ≡ cell_is w y x c
  unfolding cell_is
  cell_other y x c e = rw (ne_eqb (c / w) y (λ (d : c / w ≡ y). e (sym d)))

  -- one cell more
  pub masked-more : {xs m : List ℕ} (c : ℕ) → c / w < 32 → c % w < 64 → Masked w xs m
      → Masked w (xs ++ (c ∷ []))
      (set m (c / w) (bit_or (get_or m (c / w) 0) ((1 * 2 ^ (c % w)) % 18446744073709551616)))
  unfolding any
  masked-more {xs} {m} c p q d =
      let v = bit_or (get_or m (c / w) 0) ((1 * 2 ^ (c % w)) % 18446744073709551616) in
      record {
        size = length-set m (c / w) v ∙ d.size;
        each =
            λ y x l.
            ⊎_elim
            (λ (e : y ≡ c / w).
            ap (λ (k : ℕ). bit_at (get_or (set m (c / w) v) k 0) x) e
            ∙ (ap (λ (k : ℕ). bit_at k x) (get_or-set_same m (c / w) v 0 (omega (arith, d.size)))
            ∙ (bit-with (get_or m (c / w) 0) (c % w) x q
            ∙ (ap₂ (λ (a b : Bool). a || b)
            (ap (λ (k : ℕ). bit_at (get_or m k 0) x) (sym e) ∙ d.each y x l)
            (cell_row y x c e ∙ sym (or-false (cell_is w y x c)))
            ∙ sym (any_append (cell_is w y x) xs (c ∷ []))))))
            (λ (e : y ≢ c / w).
            ap (λ (k : ℕ). bit_at k x) (get_or-set_other m (c / w) y v 0 e)
            ∙ (d.each y x l
            ∙ (sym (or-false (any (cell_is w y x) xs))
            ∙ (ap (λ (b : Bool). any (cell_is w y x) xs || b)
            (cell_other y x c e ∙ sym (or-false (cell_is w y x c)))
            ∙ sym (any_append (cell_is w y x) xs (c ∷ []))))))
            (eq-or-not y (c / w));
      }

  -- the bit_at of a cell
  cell-here : (c : ℕ) → cell_is w (c / w) (c % w) c ≡ true
  unfolding cell_is
  cell-here c = rw (eq-eqb (c / w) (c / w) refl, eq-eqb (c % w) (c % w) refl)

  pub masked-here : {xs m : List ℕ} (c : ℕ) → c / w < 32 → c ∈ xs → Masked w xs m
      → bit_at (get_or m (c / w) 0) (c % w) ≡ true
  masked-here c l i k = k.each (c / w) (c % w) l ∙ holds-any (cell_is w (c / w) (c % w)) i (cell-here c)

-- the cells of a group, one after the other
module _ (w : ℕ) (cells : List ℕ) (from : ℕ) (xs : List ℕ) where
  pub group-none : {m : List ℕ} → Masked w xs m → Masked w (xs ++ part cells from from) m
  group-none {m} d = rw (part_none cells from from (omega arith), append-nil xs) d

  pub group-more : {m : List ℕ} (i : ℕ) → from ≤ i → i < length cells
      → Masked w ((xs ++ part cells from i) ++ (get_or cells i 0 ∷ [])) m
      → Masked w (xs ++ part cells from (i + 1)) m
  group-more {m} i l k d =
      rw (part-split cells from i (i + 1) l (omega arith), part-one cells i k)
      (subst (λ (l : List ℕ). Masked w l m) (append_assoc xs (part cells from i) (get_or cells i 0 ∷ [])) d)

module _ (w : ℕ) (cells xs : List ℕ) where
  pub group-all : {m : List ℕ} (i : ℕ) → length cells ≤ i → Masked w (xs ++ part cells 0 i) m → Masked w (xs ++ cells) m
  group-all {m} i l d = subst (λ (ys : List ℕ). Masked w (xs ++ ys) m) (take_all (i - 0) cells (omega arith)) d

-- the cells of some groups
module _ (w : ℕ) (cells offs mates : List ℕ) (from : ℕ) where
  pub mates-none : {m : List ℕ} → Masked w [] m → Masked w (origins_in cells offs (part mates from from)) m
  unfolding origins_in flat_map
  mates-none d = rw (part_none mates from from (omega arith)) d

  pub mates-more : {m : List ℕ} (i : ℕ) → from ≤ i → i < length mates
      → Masked w (origins_in cells offs (part mates from i) ++ part_of cells offs (get_or mates i 0)) m
      → Masked w (origins_in cells offs (part mates from (i + 1))) m
  unfolding origins_in flat_map
  mates-more i l k d =
      rw (
        part-split mates from i (i + 1) l (omega arith),
        part-one mates i k,
        flat_append (part_of cells offs),
        append-nil (part_of cells offs (get_or mates i 0)),
      )
      d

-- a list is the whole of itself
pub part-all : {A : Type 0} (l : List A) → part l 0 (length l) ≡ l
part-all l = take_all (length l - 0) l (omega arith)

-- each cell of a part of a list of cells is on the page
pub listed-cells : {h w : ℕ} {cells : List ℕ} {from to : ℕ} → Cells h w cells from to
    → (i : ℕ) → i < length (part cells from to) → get_or (part cells from to) i 0 < h * w
listed-cells {h} {w} {cells} {from} {to} p i l =
    let m : i < to - from = omega (arith, part_length cells from to) in
    rw (get_or-take (to - from) (drop from cells) i 0 m, get_or-drop from cells i 0) (p.each i m)

-- the units in a list of mates, as the slice of its first places has them
module _ (mates : List ℕ) where
  pub mate-listed : (i : ℕ) → i < length (take (mate_count mates) mates) → i < mate_count mates
  mate-listed i l = omega (arith, length-take (mate_count mates) mates)

  pub mate-read : (i : ℕ) → i < mate_count mates → get_or (take (mate_count mates) mates) i 0 ≡ get_or mates i 0
  mate-read i l = get_or-take (mate_count mates) mates i 0 l

  pub mates-passed : (i : ℕ) → mate_count mates ≤ length mates → i ≤ length (take (mate_count mates) mates)
      → length (take (mate_count mates) mates) ≤ i → i ≡ mate_count mates
  mates-passed i r p q = omega (arith, length-take-le (mate_count mates) mates r)
