-- The adjacent units in the list of mates: they are groups of the page.
use Rattle.std.specs.Prelude.{◌≡◌, List, ℕ, ◌-◌, ◌≤◌, ◌<◌, length, get_or, drop}
use Rattle.std.proofs.Common.{sym, ap, ◌∙◌, arith, length-drop, get_or-take, length-take-le}
use Rattle.lists.specs.Lists.{◌∈◌}
use Rattle.lists.specs.ListLaws.{filter-mem, get_d-mem}
use Rattle.lists.specs.Ranges.{range-lt}
use Rattle.rules.specs.Codes.{states_in, unclued}
use Rattle.rules.specs.Check.{mates}
use Rattle.groups.specs.declared.Grouping.{Grouping}
use Rattle.groups.specs.Grouping.{cells_in, starts_in}
use Rattle.adjacent.specs.Mates.{Gathered, Grouped, Known, mate_count, Beside}

pub mates-reach : {h w : ℕ} {potential : Grouping} {mates : List ℕ} → Beside h w potential mates
    → mate_count mates ≤ length mates
mates-reach p = omega (arith, p.end, p.long)

-- the mates of p stand in the list
pub mates-low : {h w : ℕ} {cs bs cells offs : List ℕ} {count : ℕ} → Grouped h w cs bs cells offs count
    → (p q : ℕ) → q ∈ mates (unclued h w cs) (states_in bs) p → q < count
unfolding mates
mates-low g p q m = rw g.all (range-lt _ (filter-mem _ _ m))

module _ {h w : ℕ} {cs bs ids : List ℕ} (potential : Grouping) {count : ℕ}
    (g : Grouped h w cs bs (cells_in potential) (starts_in potential) count) (k : Known h w cs bs ids) where
  -- the mates of p stand from the start of a list
  module _ {list : List ℕ} (p : ℕ) (l : Gathered (mates (unclued h w cs) (states_in bs) p) list) where
    pub entry-low : (i : ℕ) → i < mate_count list → get_or list i 0 < count
    entry-low i b =
        let f = mates (unclued h w cs) (states_in bs) p in
        let n = mate_count list in
        let m : length f ≡ n - 0 =
        sym (ap length l.first)
        ∙ length-take-le (n - 0) (drop 0 list) (omega (arith, length-drop 0 list, l.long, l.few)) in
        let v : get_or f i 0 ≡ get_or list i 0 =
        rw (← l.first, get_or-take (n - 0) (drop 0 list) i 0 (omega arith)) in
        rw v at (mates-low g p _ (get_d-mem f i 0 (omega arith)))

    pub beside-gathered : Beside h w potential list
    beside-gathered =
        let c : count ≤ 1024 = rw g.all k.few in
        record {
          long = l.long;
          end = l.few;
          low = λ i b. omega (arith, entry-low i b);
          each = λ i b. g.each (get_or list i 0) (entry-low i b);
        }
