-- A unit shifted fits exactly if the connections of each of its cells are clear where the shift lays them.
--
--   copy-cell-yes, copy-cell-no  the connections of a cell: below, then right
--   copy-unit-low       the unit's cells are on the page
--   shift_of            the shift from the unit's first cell to an origin
--   copied-cells        the unit's shape fits at an origin exactly if each cell's connections are clear
--   soon-cells          the first cells of a group are cells of the page
--   soon-turned         what fits there is a listed transform that fits
use Rattle.std.specs.Prelude.{◌≡◌, Bool, ◌&&◌, List, map, ℕ, ◌+◌, ◌-◌, ◌*◌, ◌/◌, ◌%◌, ◌≤◌, ◌<◌, pos, negsuc}
use Rattle.std.proofs.Math.Path.{refl, ap, ap₂}
use Rattle.std.proofs.lemmas.List.{take-take}
use Rattle.std.proofs.Common.{length, take, drop, get_or-take, get_or-drop, min}
use Rattle.std.proofs.Common.{sym, ◌∙◌, ⊎_elim, div-add-mod', arith, lt-ltb, le-ltb}
use Rattle.std.proofs.Math.Bool.{true, false, cond, and-true}
use mathlib.Core.List.Memᴰ
use Rattle.std.proofs.Math.Dec.{eqb, ltb}
use Rattle.std.proofs.Math.IntN.{+ℤ_assoc}
use Rattle.std.proofs.Math.ListN.{get_or}
use Rattle.lists.specs.Lists.{◌∈◌, all, any, flat_map}
use Rattle.lists.specs.Parts.{part}
use Rattle.lists.specs.Appends.{any_append, all_append}
use Rattle.lists.specs.PartLaws.{part-next, part-split, part_count, part_length}
use Rattle.lists.specs.Arithmetic.{le-or-lt}
use Rattle.lists.specs.AnyAll.{holds-any, all_same, all_map, all-flat}
use Rattle.rules.specs.Page.{State, Point, Puzzle, Shape, ◌⊕◌, opposite}
use Rattle.rules.specs.Flat.{Sized, flat, flat_place, flat_reads}
use Rattle.rules.specs.Groups.{entry}
use Rattle.rules.specs.Shapes.{shift_by, normal, connections_at, shape_of}
use Rattle.rules.specs.Codes.{unclued}
use Rattle.laws.specs.PointLaws.{point-eq, add_assoc, add_comm}
use Rattle.laws.specs.GroupLaws.{members-lt}
use Rattle.laws.specs.FlatLaws.{row_of_lem}
use Rattle.groups.specs.declared.Grouping.{Grouping}
use Rattle.groups.specs.Grouping.{numbers_in, cells_in, starts_in, start_in, group_cells}
use Rattle.groups.specs.Parts.{part_of}
use Rattle.reasons.specs.Arrays.{Cells}
use Rattle.shapes.specs.Raising.{raised}
use Rattle.shapes.specs.ConnectionLaws.{connections-at}
use Rattle.shapes.specs.Joints.{joint_if}
use Rattle.shapes.specs.Spots.{place_at}
use Rattle.shapes.specs.ImageLaws.{lower-raise}
use Rattle.adjacent.specs.Homes.{UnitIn}
use Rattle.planes.specs.JudgeLaws.{place-raised}
use Rattle.planes.specs.Placing.{read_raised, reading_of, is_clear, fits_of}
use Rattle.planes.specs.Laying.{fits_among, fits_beside}
use Rattle.fitting.specs.SameCells.{fits-clear}
use Rattle.fitting.specs.Fitting.{fits_turned}
use Rattle.fitting.specs.FitLaws.{turned-own}
use Rattle.fitting.specs.Copies.{Shift, clear_shifted, cell_clear, soon_end, soon_in}

-- the connections of a cell
module _ (h w : ℕ) (cs : List ℕ) (s : ℕ → State) (y x : ℕ) where
  -- the raised doubled place (a,b) is clear
  abbrev reading : ℕ → ℕ → Bool
  reading a b = is_clear (reading_of (unclued h w cs) s (read_raised h w a b))

  place-clear : (Y X : ℕ) → clear_shifted h w cs s y x (place_at Y X) ≡ reading (Y + y) (X + x)
  unfolding clear_shifted read_raised flat ◌⊕◌
  place-clear Y X =
      ap (λ (p : Point). is_clear (reading_of (unclued h w cs) s (flat_reads h w p)))
      (point-eq refl (sym (+ℤ_assoc (pos Y) (pos y) (negsuc 63))) (sym (+ℤ_assoc (pos X) (pos x) (negsuc 63))))

  joint-is : (b : Bool) (Y X : ℕ) → all (clear_shifted h w cs s y x) (joint_if b Y X)
      ≡ cond b (reading (Y + y) (X + x)) true
  unfolding all
  joint-is true Y X = and-true (clear_shifted h w cs s y x (place_at Y X)) ∙ place-clear Y X
  joint-is false Y X = refl

  module _ (number : ℕ → ℕ) (g c : ℕ) (l : c % w < w) where
    abbrev below : Bool
    below = cond (ltb (c / w + 1) h && eqb (number (c + w)) g) (reading (2 * (c / w) + y + 1) (2 * (c % w) + x)) true

    abbrev right : Bool
    right = cond (ltb (c % w + 1) w && eqb (number (c + 1)) g) (reading (2 * (c / w) + y) (2 * (c % w) + x + 1)) true

    cell-is : cell_clear h w cs s number g y x c ≡ below && right
    unfolding cell_clear
    cell-is =
        let p = ltb (c / w + 1) h && eqb (number (c + w)) g in
        let q = ltb (c % w + 1) w && eqb (number (c + 1)) g in
        ap (all (clear_shifted h w cs s y x)) (connections-at h w number g c (c / w) (c % w) (sym (div-add-mod' c w)) l)
        ∙ (all_append (clear_shifted h w cs s y x) (joint_if p (2 * (c / w) + 1) (2 * (c % w)))
        (joint_if q (2 * (c / w)) (2 * (c % w) + 1))
        ∙ ap₂ (λ a b. a && b)
        (joint-is p (2 * (c / w) + 1) (2 * (c % w))
        ∙ ap (λ a. cond p (reading a (2 * (c % w) + x)) true) (omega arith))
        (joint-is q (2 * (c / w)) (2 * (c % w) + 1)
        ∙ ap (λ b. cond q (reading (2 * (c / w) + y) b) true) (omega arith)))

    pub copy-cell-yes : {a b : Bool} → a ≡ below → a ≡ true → b ≡ right → b ≡ cell_clear h w cs s number g y x c
    copy-cell-yes {a} {b} d t e = sym (cell-is ∙ (ap₂ (λ a b. a && b) (sym d ∙ t) (sym e)))

    pub copy-cell-no : {a : Bool} → a ≡ below → a ≡ false → false ≡ cell_clear h w cs s number g y x c
    copy-cell-no {a} d t = sym (cell-is ∙ ap (λ a. a && right) (sym d ∙ t))

module _ {h w g : ℕ} {us : Grouping} (z : Sized h w) (u : UnitIn h w us g) where
  abbrev ids : List ℕ
  ids = numbers_in us

  abbrev units : List ℕ
  units = cells_in us

  abbrev first : ℕ
  first = get_or (starts_in us) g 0

  abbrev last : ℕ
  last = get_or (starts_in us) (g + 1) 0

  pub copy-unit-low : (i : ℕ) → first ≤ i → i < last → get_or units i 0 < h * w
  unfolding flat
  copy-unit-low i a b =
      members-lt (flat h w) (entry ids) g (get_or units i 0)
      (rw (
        ← u.group,
        part-split units first i last a (omega arith),
        part-next units i last b (omega (arith, u.end, u.long)),
      )
      (Memᴰ.append_right (part units first i) (Memᴰ.head refl)))

  module _ (o : ℕ) where
    -- the shift from the unit's first cell to the origin, doubled and raised
    abbrev down : ℕ
    down = 2 * (o / w) + (64 - 2 * (get_or units first 0 / w))

    abbrev across : ℕ
    across = 2 * (o % w) + (64 - 2 * (get_or units first 0 % w))

    pub shift_of : o < h * w → Shift down across
    shift_of l =
        let a = row_of_lem h w (get_or units first 0) (copy-unit-low first (omega arith) u.some) in
        let b = row_of_lem h w o l in
        record {
          down = omega (arith, b.row, z.tall);
          across = omega (arith, b.column, z.broad);
          even = (omega (arith, a.row, z.tall), omega (arith, a.column, z.broad));
        }

    module _ (cs : List ℕ) (s : ℕ → State) where
      abbrev Z : Puzzle
      Z = unclued h w cs

      abbrev f : ℕ
      f = get_or units first 0

      abbrev to : Point
      to = (flat h w).place o ⊕ (flat h w).place o

      -- the shift back by twice the first cell
      abbrev back : Point
      back = opposite ((flat h w).place f) ⊕ opposite ((flat h w).place f)

      back_is : back ≡ raised (64 - 2 * (f / w)) (64 - 2 * (f % w))
      unfolding flat flat_place ◌⊕◌ opposite
      back_is =
          let r = row_of_lem h w f (copy-unit-low first (omega arith) u.some) in
          point-eq refl (sym (lower-raise (pos (f / w)) (omega (arith, r.row, z.tall))))
          (sym (lower-raise (pos (f % w)) (omega (arith, r.column, z.broad))))

      shifted : (d : Point) → to ⊕ (d ⊕ back) ≡ d ⊕ raised down across
      shifted d =
          sym (add_assoc to d back)
          ∙ (ap (λ p. p ⊕ back) (add_comm to d)
          ∙ (add_assoc d to back
          ∙ ap (λ p. d ⊕ p)
          (ap (λ p. to ⊕ p) back_is ∙ place-raised h w o (64 - 2 * (f / w)) (64 - 2 * (f % w)))))

      abbrev joints : List ℕ → List Point
      joints ms = flat_map (connections_at (flat h w) (entry ids) g) ms

      connections-are : (shape_of (flat h w) (entry ids) g).connections ≡ shift_by back (joints (part units first last))
      unfolding shape_of normal
      connections-are =
          let e = part-next units first last u.some (omega (arith, u.end, u.long)) in
          ap (λ ms. (normal (map (flat h w).place ms) (joints ms)).connections) (sym u.group ∙ e)
          ∙ ap (λ ms. shift_by back (joints ms)) (sym e)

      abbrev read : Point → Bool
      read d = is_clear (reading_of Z s ((flat h w).reads (to ⊕ d)))

      all-shifted : (js : List Point)
          → all is_clear (map (reading_of Z s) (map (λ d. (flat h w).reads (to ⊕ d)) (shift_by back js)))
          ≡ all (clear_shifted h w cs s down across) js
      unfolding shift_by clear_shifted
      all-shifted js =
          all_map is_clear (reading_of Z s) _
          ∙ (all_map (λ o. is_clear (reading_of Z s o)) (λ d. (flat h w).reads (to ⊕ d)) _
          ∙ (all_map read (λ d. d ⊕ back) js
          ∙ all_same (λ d. read (d ⊕ back)) (clear_shifted h w cs s down across)
          js (λ d m. ap (λ p. is_clear (reading_of Z s ((flat h w).reads p))) (shifted d))))

      pub copied-cells : fits_of (unclued h w cs) s (shape_of (flat h w) (entry ids) g) o
          ≡ all (cell_clear h w cs s (entry ids) g down across) (part units first last)
      unfolding cell_clear
      copied-cells =
          fits-clear Z s (shape_of (flat h w) (entry ids) g) o
          ∙ (ap (λ js. all is_clear (map (reading_of Z s) (map (λ d. (flat h w).reads (to ⊕ d)) js))) connections-are
          ∙ (all-shifted (joints (part units first last))
          ∙ all-flat (clear_shifted h w cs s down across) (connections_at (flat h w) (entry ids) g)
          (part units first last)))

-- the first cells of a group
soon-end : (first last : ℕ) → first ≤ last → (first ≤ soon_end first last) × (soon_end first last ≤ last)
soon-end first last l =
    ⊎_elim
    (λ (k : first + 8 ≤ last). rw (le-ltb last (first + 8) k) (omega arith, k))
    (λ (k : last < first + 8). rw (lt-ltb last (first + 8) k) (l, omega arith))
    (le-or-lt (first + 8) last)

pub soon-cells : {h w first last : ℕ} {cells : List ℕ} → Cells h w cells first last
    → Cells h w cells first (soon_end first last)
soon-cells {first = first} {last = last} c =
    let b = soon-end first last c.order in
    record {
      long = c.long;
      order = b.0;
      end = omega (arith, b.1, c.end);
      each = λ i l. c.each i (omega (arith, b.1));
    }

module _ (Z : Puzzle) (s : ℕ → State) (cells offs : List ℕ) (t : Shape) where
  soon-group : (Q : ℕ) → get_or offs Q 0 ≤ get_or offs (Q + 1) 0
      → fits_among Z s t (soon_in cells offs Q) ≡ true → fits_among Z s t (part_of cells offs Q) ≡ true
  unfolding fits_among soon_in part_of
  soon-group Q l e =
      let first = get_or offs Q 0 in
      let last = get_or offs (Q + 1) 0 in
      let end = soon_end first last in
      let b = soon-end first last l in
      ap (any (fits_of Z s t)) (part-split cells first end last b.0 b.1)
      ∙ (any_append (fits_of Z s t) (part cells first end) (part cells end last) ∙ rw e)

  pub soon-turned : {gs : List ℕ} {Q : ℕ} → Q ∈ gs → get_or offs Q 0 ≤ get_or offs (Q + 1) 0
      → fits_among Z s t (soon_in cells offs Q) ≡ true → fits_turned Z s cells offs gs t ≡ true
  unfolding fits_beside
  soon-turned {gs} {Q} m l e =
      turned-own Z s cells offs t gs
      (holds-any (λ q. fits_among Z s t (part_of cells offs q)) m (soon-group Q l e))

-- the cells of a group as a list of their own
module _ {h w : ℕ} {us : Grouping} {g : ℕ} (z : Sized h w) (u : UnitIn h w us g) where
  abbrev own : List ℕ
  own = group_cells us g

  group-read : (i : ℕ) → i < start_in us (g + 1) - start_in us g
      → get_or own i 0 ≡ get_or (cells_in us) (start_in us g + i) 0
  group-read i l =
      get_or-take (start_in us (g + 1) - start_in us g) (drop (start_in us g) (cells_in us)) i 0 l
      ∙ get_or-drop (start_in us g) (cells_in us) i 0

  pub group-some : 0 < length own
  group-some =
      omega (arith, u.some, u.end, u.long, part_count (cells_in us) (start_in us g) (start_in us (g + 1)))

  pub group-one : length own ≡ 1 → start_in us (g + 1) ≡ start_in us g + 1
  group-one e =
      let n : length own ≡ start_in us (g + 1) - start_in us g =
      part_count (cells_in us) (start_in us g) (start_in us (g + 1)) (omega (arith, u.some))
      (omega (arith, u.end, u.long)) in
      omega (arith, u.some)

  pub group-first : get_or own 0 0 ≡ get_or (cells_in us) (start_in us g) 0
  group-first =
      let e : start_in us g + 0 ≡ start_in us g = omega arith in
      rw e at (group-read 0 (omega (arith, u.some)))

  pub group-low : (i : ℕ) → i < length own → get_or own i 0 < h * w
  group-low i l =
      let m : i < start_in us (g + 1) - start_in us g =
      omega (arith, part_length (cells_in us) (start_in us g) (start_in us (g + 1))) in
      rw (group-read i m) (copy-unit-low z u (start_in us g + i) (omega arith) (omega arith))

-- the first eight cells of a group
pub part-soon : (cells : List ℕ) (first last : ℕ) → first ≤ last → last ≤ length cells
    → part cells first (soon_end first last) ≡ take (min (length (part cells first last)) 8) (part cells first last)
part-soon cells first last a b =
    let n : length (part cells first last) ≡ last - first = part_count cells first last a b in
    let e : soon_end first last - first ≡ min (length (part cells first last)) 8 =
    ⊎_elim
    (λ (k : first + 8 ≤ last). rw (le-ltb last (first + 8) k) (omega arith))
    (λ (k : last < first + 8). rw (lt-ltb last (first + 8) k) (omega arith))
    (le-or-lt (first + 8) last) in
    let m : min (length (part cells first last)) 8 ≤ last - first = omega arith in
    rw e (sym (take-take (min (length (part cells first last)) 8) (last - first) (drop first cells) m))
