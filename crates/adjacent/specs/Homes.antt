-- Homes: a unit and its potential unit, in the groupings of a page.
--
--   UnitIn h w us g     the grouping has a unit g: its part of the list is its cells, at least one
--   home_in us ps u     the potential unit of unit u: that of its first cell
--   Home .. ps p        p is one of the potential units, whose grouping is ps
--   Sorted .. us ps     the groupings are those of the units and of the potential units
use Rattle.std.specs.Prelude.{◌≡◌, List, ℕ, ◌+◌, ◌<◌, ◌≤◌, length, get_or}
use Rattle.lists.specs.Parts.{part}
use Rattle.rules.specs.Flat.{flat}
use Rattle.rules.specs.Groups.{entry, members, potential_count}
use Rattle.rules.specs.Codes.{states_in, unclued}
use Rattle.groups.specs.Grouping.{numbers_in, cells_in, starts_in, Filled}
use Rattle.groups.specs.Pages.{Drawn}
use Rattle.groups.specs.declared.Grouping.{Grouping}
use Rattle.groups.specs.declared.Kind.TheVariants.{Units, Potential}
use Rattle.groups.specs.Kinds.{joins_in}
use Rattle.groups.specs.Parts.{groups_of}
use Rattle.adjacent.specs.Mates.{Known, Grouped}

pub record UnitIn (h w : ℕ) (us : Grouping) (g : ℕ) : Type 0 where
  pub low : g < 1024
  pub numbers : length (numbers_in us) ≡ 1024
  pub long : length (cells_in us) ≡ 1024
  pub some : get_or (starts_in us) g 0 < get_or (starts_in us) (g + 1) 0
  pub end : get_or (starts_in us) (g + 1) 0 ≤ 1024
  pub group : part (cells_in us) (get_or (starts_in us) g 0) (get_or (starts_in us) (g + 1) 0)
      ≡ members (flat h w) (entry (numbers_in us)) g

abbrev pub home_in : Grouping → Grouping → ℕ → ℕ
home_in us ps u = get_or (numbers_in ps) (get_or (cells_in us) (get_or (starts_in us) u 0) 0) 0

pub record Home (h w : ℕ) (cs bs : List ℕ) (ps : Grouping) (p : ℕ) : Type 0 where
  pub drawn : Drawn h w cs
  pub known : Known h w cs bs (numbers_in ps)
  pub grouped : Grouped h w cs bs (cells_in ps) (starts_in ps) (potential_count (unclued h w cs) (states_in bs))
  pub low : p < potential_count (unclued h w cs) (states_in bs)

pub record Sorted (h w : ℕ) (cs bs : List ℕ) (us ps : Grouping) : Type 0 where
  pub drawn : Drawn h w cs
  pub units : Filled (groups_of (flat h w) (joins_in Units h w cs bs)) us
  pub potential : Filled (groups_of (flat h w) (joins_in Potential h w cs bs)) ps
