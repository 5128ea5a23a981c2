-- A unit's part of the list of cells: its entries, and from its places to the unit on the page.
use Rattle.std.specs.Prelude.{◌≡◌, List, map, ℕ, ◌+◌, ◌-◌, ◌*◌, ◌/◌, ◌%◌, ◌<◌, ◌≤◌, eqb, nat_abs, length, set}
use Rattle.std.proofs.Math.Path.{refl, sym, ap₂}
use Rattle.std.proofs.Common.{ap, ◌∙◌, subst, mod-lt, div-lt_iff_lt-mul, arith, get_or-set_same}
use mathlib.Core.List.Memᴰ
use Rattle.std.proofs.Math.ListN.{get_or, length-set}
use Rattle.std.proofs.lemmas.List.{length-map, length-take, length-drop}
use Rattle.lists.specs.Lists.{◌∈◌, filter, range}
use Rattle.lists.specs.SectionLaws.{section-set, section-low, section-high, front-set}
use Rattle.lists.specs.ListLaws.{filter-mem, map-find, get_d-mem}
use Rattle.lists.specs.Ranges.{range-lt}
use Rattle.lists.specs.TableLaws.{get_d-table, table-cong, table_is, map-table}
use Rattle.lists.specs.Maps.{get_d_map}
use Rattle.rules.specs.Page.{Point}
use Rattle.rules.specs.Flat.{Sized, flat, flat_place}
use Rattle.rules.specs.Groups.{entry, members}
use Rattle.laws.specs.PointLaws.{origin}
use Rattle.groups.specs.declared.Grouping.{Grouping}
use Rattle.groups.specs.Grouping.{numbers_in, start_in, group_cells}
use Rattle.shapes.specs.Outlines.{rows_in, columns_in, cell_count}
use Rattle.shapes.specs.Spots.{place_at, spot_at, spots, cell_spot, cell_spots, places, UnitAt}
use Rattle.shapes.specs.SpotLaws.{length-spots}
use Rattle.shapes.specs.Parts.{UnitPart, place_of, OutlinePlaced}

-- the row and the column of one cell more are stored
module _ (o : List ℕ) (i a b : ℕ) (h : i < 1024) where
  pub row-stored : rows_in (set (set o i a) (1024 + i) b) ≡ set (rows_in o) i a
  row-stored = section-high 0 1024 (set o i a) (1024 + i) b (omega arith) ∙ front-set 1024 o i a h

  pub column-stored : columns_in (set (set o i a) (1024 + i) b) ≡ set (columns_in o) i b
  column-stored =
      section-set 1024 1024 (set o i a) i b h ∙ ap (λ (l : List ℕ). set l i b) (section-low 1024 1024 o i a h)

-- how many cells the part has
pub part-count : {units : Grouping} {g w : ℕ} → UnitPart units g w
    → length (group_cells units g) ≡ start_in units (g + 1) - start_in units g
part-count {units} {g} p = simp (length-take, length-drop) (omega (arith, p.order, p.long, p.inside))

-- the outline as the loop leaves it, and then with the count of the cells
module _ (w : ℕ) (L o : List ℕ) (long : length o ≡ 6146)
    (f : (j : ℕ) → j < length L → get_or (rows_in o) j 0 ≡ get_or L j 0 / w)
    (k : (j : ℕ) → j < length L → get_or (columns_in o) j 0 ≡ get_or L j 0 % w) where
  pub placed-count : cell_count (set o 6144 (length L)) ≡ length L
  placed-count = get_or-set_same o 6144 (length L) 0 (omega arith)

  pub placed-is : OutlinePlaced w L (set o 6144 (length L))
  unfolding spots
  placed-is =
      let n = length L in
      record {
        long = length-set o 6144 n ∙ long;
        here =
            rw (
              placed-count,
              section-high 0 1024 o 6144 n (omega arith),
              section-high 1024 1024 o 6144 n (omega arith),
            )
            (table-cong n (cell_spot o) (λ j. place_of w (get_or L j 0)) (λ j l. ap₂ place_at (f j l) (k j l))
            ∙ sym (ap (map (place_of w)) (table_is n (λ j. get_or L j 0) 0 L refl (λ j l. refl))
            ∙ map-table (place_of w) n (λ j. get_or L j 0)));
      }

spot_of : (R C : List ℕ) (n i : ℕ) → i < n → get_or (spots R C n) i origin ≡ spot_at R C i
unfolding spots
spot_of R C n i l = get_d-table n (spot_at R C) i origin l

pub mem-spots : (R C : List ℕ) (n i : ℕ) → i < n → spot_at R C i ∈ spots R C n
mem-spots R C n i l =
    Memᴰ.cast (sym (spot_of R C n i l)) (get_d-mem (spots R C n) i origin (rw (length-spots R C n) l))

-- the places of a group's part are the group's unit
pub unit-at : (h w : ℕ) (units : Grouping) (g : ℕ) (L o : List ℕ) → Sized h w → length (numbers_in units) ≡ 1024
    → L ≡ members (flat h w) (entry (numbers_in units)) g → OutlinePlaced w L o → 1 ≤ cell_count o → cell_count o ≤ 1024
    → UnitAt h w units g o
unfolding places members flat flat_place
unit-at h w units g L o s long e p some most =
    record {
      sized = s;
      long = long;
      here = p.here ∙ ap (map (place_of w)) e;
      spotted =
          record {
            long = p.long;
            some = some;
            most = most;
            down =
                λ i l.
                let k : get_or (rows_in o) i 0 ≡ get_or L i 0 / w = ap (λ q. nat_abs q.row) (at i l) in
                let d : get_or L i 0 / w < h = (div-lt_iff_lt-mul {k = w} (omega (arith, s.columns))).1 (cell i l) in
                omega (arith, s.tall);
            across =
                λ i l.
                let k : get_or (columns_in o) i 0 ≡ get_or L i 0 % w = ap (λ q. nat_abs q.column) (at i l) in
                let d : get_or L i 0 % w < w = mod-lt (get_or L i 0) (omega (arith, s.columns)) in
                omega (arith, s.broad);
          };
    }
  where
    count : length L ≡ cell_count o
    count =
        sym (length-map L (place_of w))
        ∙ (ap length (sym p.here) ∙ length-spots (rows_in o) (columns_in o) (cell_count o))

    at : (i : ℕ) → i < cell_count o → cell_spot o i ≡ place_of w (get_or L i 0)
    at i l =
        sym (spot_of (rows_in o) (columns_in o) (cell_count o) i l) ∙ (ap (λ l. get_or l i origin) p.here
        ∙ get_d_map (place_of w) L i 0 origin (omega (arith, count)))

    cell : (i : ℕ) → i < cell_count o → get_or L i 0 < h * w
    cell i l =
        range-lt (h * w) (filter-mem (λ x. eqb (entry (numbers_in units) x) g) (range (h * w))
        (subst (λ (M : List ℕ). get_or L i 0 ∈ M) e (get_d-mem L i 0 (omega (arith, count)))))

-- each place of a unit is on the page
pub unit-bounds : {h w : ℕ} {units : Grouping} {g : ℕ} {o : List ℕ} (i : ℕ) → UnitAt h w units g o → i < cell_count o
    → (get_or (rows_in o) i 0 < h) × (get_or (columns_in o) i 0 < w)
unfolding places members flat flat_place
unit-bounds {h} {w} {units} {g} {o} i u l =
    let number = entry (numbers_in units) in
    let m : cell_spot o i ∈ cell_spots o = mem-spots (rows_in o) (columns_in o) (cell_count o) i l in
    let c = map-find (flat_place h w) (filter (λ x. eqb (number x) g) (range (h * w)))
    (subst (λ (ps : List Point). cell_spot o i ∈ ps) u.here m) in
    let k : get_or (rows_in o) i 0 ≡ c.0 / w = ap (λ q. nat_abs q.row) c.2 in
    let j : get_or (columns_in o) i 0 ≡ c.0 % w = ap (λ q. nat_abs q.column) c.2 in
    let b : c.0 < h * w = range-lt (h * w) (filter-mem (λ x. eqb (number x) g) (range (h * w)) c.1) in (
      rw k ((div-lt_iff_lt-mul {k = w} (omega (arith, u.sized.columns))).1 b),
      rw j (mod-lt c.0 (omega (arith, u.sized.columns))),
    )
