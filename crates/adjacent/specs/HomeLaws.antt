-- A unit's part of the list of cells, its first cell, and its potential unit, from the groupings of a page.
use Rattle.std.specs.Prelude.{◌≡◌, refl, Bool, List, length}
use Rattle.std.proofs.Common.{sym, ◌∙◌, arith, lt-ltb}
use Rattle.std.proofs.Math.Path.{ap}
use mathlib.Core.List.Memᴰ
use Rattle.std.proofs.Math.Option.{none}
use Prim.Native.Nat.{ℕ, ◌+◌, ◌*◌, ◌<◌, ◌≤◌, ◌-◌}
use Rattle.std.proofs.Math.ListN.{get_or}
use Rattle.lists.specs.Lists.{◌∈◌}
use Rattle.lists.specs.Parts.{part}
use Rattle.lists.specs.PartLaws.{part-next}
use Rattle.rules.specs.Page.{State, Puzzle}
use Rattle.rules.specs.Flat.{Sized, flat}
use Rattle.rules.specs.Codes.{states_in, unclued}
use Rattle.rules.specs.Groups.{entry, numbers, members, unit_of, unit_count, potential_of}
use Rattle.rules.specs.Shapes.{shape_of, flat_transforms}
use Rattle.rules.specs.Check.{transforms_of}
use Rattle.laws.specs.FlatLaws.{counts}
use Rattle.groups.specs.declared.Grouping.{Grouping}
use Rattle.groups.specs.declared.Kind.TheVariants.{Units, Potential}
use Rattle.groups.specs.Kinds.{link_of, joins_in}
use Rattle.groups.specs.Parts.{Groups, groups_of, part_of}
use Rattle.groups.specs.Grouping.{numbers_in, cells_in, starts_in, count_in, Filled, start_in, group_cells}
use Rattle.groups.specs.PartLaws.{ids-entry, ids-length, ids-lt, groups-le, cells-long, cells-lt, part-members}
use Rattle.groups.specs.Pages.{head_of}
use Rattle.groups.specs.PageLaws.{cells-some, cells-few, full, rises, ends, head_at, kind-ids, kind-count}
use Rattle.reasons.specs.Arrays.{Cells}
use Rattle.reasons.specs.CellLaws.{cells-reach}
use Rattle.reasons.specs.GroupReasons.{group-cells}
use Rattle.shapes.specs.Parts.{UnitPart, OutlinePlaced}
use Rattle.shapes.specs.PartLaws.{unit-at}
use Rattle.shapes.specs.Outlines.{cell_count}
use Rattle.shapes.specs.Spots.{UnitAt}
use Rattle.adjacent.specs.Mates.{Known, Grouped}
use Rattle.adjacent.specs.Homes.{UnitIn, home_in, Home, Sorted}

-- the groups of a flat page, by any test of its borders
module _ {h w : ℕ} (z : Sized h w) (link : ℕ → Bool) where
  abbrev L : Groups
  L = groups_of (flat h w) link

  abbrev number : ℕ → ℕ
  number = entry (numbers (flat h w) link)

  -- a group's part
  part-is : (g : ℕ) → part L.cells (get_or L.offs g 0) (get_or L.offs (g + 1) 0) ≡ members (flat h w) number g
  unfolding part_of
  part-is g = part-members (flat h w) link (cells-some z) (cells-few z) g

  -- a group's part of the list of cells
  pub own-part : {us : Grouping} → Filled L us → (g : ℕ) → g < L.count → UnitIn h w us g
  unfolding flat
  own-part f g l =
      record {
        low = omega (arith, l, groups-le (flat h w) link (cells-some z) (cells-few z), (counts z).cells);
        numbers = rw f.numbers (ids-length (flat h w) link (cells-some z) (cells-few z));
        long = rw f.cells (cells-long (flat h w) link (cells-some z) (cells-few z));
        some = rw f.starts (rises z link g l);
        end = rw f.starts (omega (arith, ends z link g l, (counts z).cells));
        group =
            rw (f.numbers, f.cells, f.starts)
            (part-is g ∙ ap (λ f. members (flat h w) f g)
            (sym (ids-entry (flat h w) link (cells-some z) (cells-few z))));
      }

-- what the unit's part gives to its places
module _ {h w : ℕ} {us : Grouping} {g : ℕ} (z : Sized h w) (u : UnitIn h w us g) where
  pub unit-part : UnitPart us g w
  unit-part =
      record {
        group = u.low;
        long = u.long;
        order = omega (arith, u.some);
        inside = u.end;
        some = z.columns;
        broad = z.broad;
      }

  pub unit-placed : {o : List ℕ} → OutlinePlaced w (group_cells us g) o → cell_count o
      ≡ start_in us (g + 1) - start_in us g
      → UnitAt h w us g o
  unit-placed {o} p e =
      unit-at h w us g (group_cells us g) o z u.numbers u.group p (omega (arith, u.some, e))
      (omega (arith, u.some, u.end, e))

-- a potential unit that the arrays have
module _ {h w : ℕ} {cs bs : List ℕ} {ps : Grouping} {p : ℕ} (k : Home h w cs bs ps p) where
  pub home-few : p < 1024
  home-few = omega (arith, k.low, k.known.few)

  pub home-cells : Cells h w (cells_in ps) (get_or (starts_in ps) p 0) (get_or (starts_in ps) (p + 1) 0)
  home-cells = k.grouped.each p k.low

-- the potential units are what is asked for
module _ {h w : ℕ} (z : Sized h w) (cs bs : List ℕ) where
  abbrev joins : ℕ → Bool
  joins = joins_in Potential h w cs bs

  pub known_of : Known h w cs bs (groups_of (flat h w) joins).ids
  unfolding groups_of joins_in link_of entry flat
  known_of =
      record {
        number = λ c l. ap (λ (f : ℕ → ℕ). f c) (ids-entry (flat h w) joins (cells-some z) (cells-few z));
        few = omega (arith, groups-le (flat h w) joins (cells-some z) (cells-few z), (counts z).cells);
        below = λ c l. ids-lt (flat h w) joins (cells-some z) (cells-few z) c l;
      }

  pub grouped-of : Grouped h w cs bs (groups_of (flat h w) joins).cells (groups_of (flat h w) joins).offs
      (groups_of (flat h w) joins).count
  unfolding groups_of joins_in link_of
  grouped-of =
      record {
        all = refl;
        each = group-cells z joins;
        group = λ p l. part-is z joins p;
      }

-- the units are those of the definitions, and so are their transforms
module _ {h w : ℕ} (z : Sized h w) (cs bs : List ℕ) where
  abbrev mine : ℕ → Bool
  mine = joins_in Units h w cs bs

  pub own-few : (groups_of (flat h w) mine).count ≤ 1024
  unfolding flat
  own-few = omega (arith, groups-le (flat h w) mine (cells-some z) (cells-few z), (counts z).cells)

  pub own-transforms : (u : ℕ) → u < (groups_of (flat h w) mine).count
      → transforms_of (unclued h w cs) (states_in bs) u
      ≡ flat_transforms (shape_of (flat h w) (entry (groups_of (flat h w) mine).ids) u)
  unfolding transforms_of flat
  own-transforms u l =
      rw (lt-ltb u (unit_count (unclued h w cs) (states_in bs)) (rw (kind-count z cs (λ c. none) bs Units) at l))
      (ap (λ f. flat_transforms (shape_of (flat h w) f u)) (sym (kind-ids z cs (λ c. none) bs Units)))

-- the arrays together
module _ {h w : ℕ} {cs bs : List ℕ} {us ps : Grouping} (r : Sorted h w cs bs us ps) where
  abbrev ids : List ℕ
  ids = numbers_in us

  abbrev cells : List ℕ
  cells = cells_in us

  abbrev offs : List ℕ
  offs = starts_in us

  abbrev pcells : List ℕ
  pcells = cells_in ps

  abbrev poffs : List ℕ
  poffs = starts_in ps

  abbrev Z : Puzzle
  Z = unclued h w cs

  abbrev s : ℕ → State
  s = states_in bs

  abbrev size : Sized h w
  size = r.drawn.sized

  abbrev own : ℕ → Bool
  own = joins_in Units h w cs bs

  abbrev possible : ℕ → Bool
  possible = joins_in Potential h w cs bs

  pub units-are : entry ids ≡ unit_of Z s
  units-are = ap entry r.units.numbers ∙ kind-ids size cs (λ c. none) bs Units

  pub unit-few : count_in us ≤ 1024
  unit-few = rw r.units.count (own-few size cs bs)

  pub potential-known : Known h w cs bs (numbers_in ps)
  potential-known = rw r.potential.numbers (known_of size cs bs)

  pub potential-grouped : Grouped h w cs bs pcells poffs (count_in ps)
  potential-grouped = rw (r.potential.cells, r.potential.starts, r.potential.count) (grouped-of size cs bs)

  -- each of the potential units is in the arrays
  pub home_at : (p : ℕ) → p < count_in ps → Home h w cs bs ps p
  home_at p l =
      record {
        drawn = r.drawn;
        known = potential-known;
        grouped = rw potential-grouped.all at potential-grouped;
        low = rw potential-grouped.all at l;
      }

  -- a potential unit has a first cell
  pub potential-first : (q : ℕ) → q < count_in ps
      → get_or pcells (get_or poffs q 0) 0 ∈ part_of pcells poffs q
  unfolding part_of
  potential-first q l =
      let c = potential-grouped.each q l in
      rw (part-next pcells (get_or poffs q 0) (get_or poffs (q + 1) 0) potential-rises (cells-reach c))
      (Memᴰ.head refl)
    where
      potential-rises : get_or poffs q 0 < get_or poffs (q + 1) 0
      potential-rises = rw r.potential.starts (rises size possible q (rw r.potential.count at l))

  module _ (u : ℕ) (l : u < count_in us) where
    mine-low : u < (groups_of (flat h w) own).count
    mine-low = rw r.units.count at l

    pub unit-in : UnitIn h w us u
    unit-in = own-part size own r.units u mine-low

    pub head-low : get_or cells (get_or offs u 0) 0 < h * w
    unfolding flat
    head-low =
        rw (r.units.cells, r.units.starts)
        (cells-lt (flat h w) own (cells-some size) (cells-few size) (get_or (groups_of (flat h w) own).offs u 0)
        (omega (arith, rises size own u mine-low, ends size own u mine-low)))

    -- the unit's potential unit
    pub home-is : home_in us ps u ≡ potential_of Z s (get_or cells (get_or offs u 0) 0)
    home-is = potential-known.number (get_or cells (get_or offs u 0) 0) head-low

    pub home-count : home_in us ps u < count_in ps
    home-count = rw potential-grouped.all (potential-known.below (get_or cells (get_or offs u 0) 0) head-low)

    pub home_of : Home h w cs bs ps (home_in us ps u)
    home_of = home_at (home_in us ps u) home-count

    pub transforms-are : transforms_of Z s u ≡ flat_transforms (shape_of (flat h w) (entry ids) u)
    transforms-are =
        own-transforms size cs bs u mine-low
        ∙ ap (λ l. flat_transforms (shape_of (flat h w) (entry l) u)) (sym r.units.numbers)

    pub head-of : get_or cells (get_or offs u 0) 0 ≡ head_of (members (flat h w) (unit_of Z s) u)
    unfolding joins_in link_of
    head-of = rw (r.units.cells, r.units.starts) (head_at size own u mine-low)

    pub own-full : 1 ≤ length (members (flat h w) (unit_of Z s) u)
    unfolding joins_in link_of
    own-full = full size own u mine-low
