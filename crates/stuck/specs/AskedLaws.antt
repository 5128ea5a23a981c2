-- What a caller gives for a unit makes the arrays that its reason is read from; its potential unit asks no clue.
use Rattle.std.specs.Prelude.{◌≡◌, List, length}
use Rattle.std.proofs.Math.Path.{refl, ap}
use Rattle.std.proofs.Common.{◌∙◌, arith}
use Rattle.std.proofs.Math.Option.{Option}
use Prim.Native.Nat.{ℕ, ◌<◌}
use Rattle.rules.specs.Codes.{clued_by, states_in, unclued}
use Rattle.rules.specs.Page.{Puzzle, State}
use Rattle.rules.specs.Flat.{flat}
use Rattle.rules.specs.Rules.{one_colour, joins_unit}
use Rattle.rules.specs.Groups.{entry, joins_potential, potential_of}
use Rattle.rules.specs.Shapes.{shape_of}
use Rattle.rules.specs.Check.{mates, unit_reason}
use Rattle.groups.specs.declared.Grouping.{Grouping}
use Rattle.groups.specs.declared.Kind.TheVariants.{Potential}
use Rattle.groups.specs.Kinds.{joins_in}
use Rattle.groups.specs.Grouping.{numbers_in}
use Rattle.groups.specs.PartLaws.{ids-length}
use Rattle.groups.specs.Pages.{potential_in}
use Rattle.groups.specs.PageLaws.{cells-some, cells-few}
use Rattle.reasons.specs.Memory.{Wrote}
use Rattle.shapes.specs.Rows.{rows_of}
use Rattle.shapes.specs.Spots.{UnitAt}
use Rattle.shapes.specs.Joints.{OutlineJoined}
use Rattle.adjacent.specs.Mates.{Gathered}
use Rattle.adjacent.specs.Homes.{UnitIn, home_in, Home}
use Rattle.adjacent.specs.HomeLaws.{units-are, unit-few, unit-in, home-is, home_of, head-of, transforms-are}
use Rattle.stuck.specs.Writing.{Arranged, Imaged, StuckAt}

-- the units and the potential unit of a unit ask no clue
module _ (h w : ℕ) (cs : List ℕ) (c : ℕ → Option ℕ) (s : ℕ → State) where
  pub potential-clue : (u : ℕ) → potential_in (clued_by h w cs c) s u ≡ potential_in (unclued h w cs) s u
  unfolding potential_in joins_unit joins_potential one_colour
  potential-clue u = refl

module _ {h w : ℕ} {cs bs : List ℕ} {us ps : Grouping} {u : ℕ} (q : StuckAt h w cs bs us ps u) where
  abbrev Z : Puzzle
  Z = unclued h w cs

  abbrev s : ℕ → State
  s = states_in bs

  pub unit-low : u < 1024
  unit-low = omega (arith, q.low, unit-few q.ready)

  -- its part of the list of units
  pub stuck-part : UnitIn h w us u
  stuck-part = unit-in q.ready u q.low

  pub at_home : {p : ℕ} → p ≡ home_in us ps u → Home h w cs bs ps p
  at_home e = rw e (home_of q.ready u q.low)

  potential-long : length (numbers_in ps) ≡ 1024
  potential-long =
      let z = q.ready.drawn.sized in
      let link = joins_in Potential h w cs bs in
      rw q.ready.potential.numbers (ids-length (flat h w) link (cells-some z) (cells-few z))

  pub arranged : {list : List ℕ} {p : ℕ} → p ≡ home_in us ps u → Gathered (mates Z s p) list
      → Arranged h w cs bs us ps list u p
  unfolding entry
  arranged e l =
      let k = at_home e in
      record {
        drawn = q.ready.drawn;
        colours = q.colours;
        borders = q.borders;
        numbers = potential-long;
        unit =
            record {
              few = unit-low;
              numbers = stuck-part.numbers;
              is =
                  record {
                    long = stuck-part.long;
                    order = omega (arith, stuck-part.some);
                    end = stuck-part.end;
                    group = stuck-part.group;
                  };
            };
        number = λ c l. ap (λ (f : ℕ → ℕ). f c) (units-are q.ready);
        known = k.known;
        grouped = k.grouped;
        one = k.low;
        mates = l;
      }

  pub imaged : {o t : List ℕ} → UnitAt h w us u o → OutlineJoined h w us u o
      → t ≡ rows_of (shape_of (flat h w) (entry (numbers_in us)) u) → Imaged h w cs bs us o t u
  imaged a j e = record { cells = a; connections = j; rows = e; transforms = transforms-are q.ready u q.low }

  pub home-in : home_in us ps u ≡ potential_in Z s u
  unfolding potential_in
  home-in = home-is q.ready u q.low ∙ ap (potential_of Z s) (head-of q.ready u q.low)

  pub home-written : {p : ℕ} (c : ℕ → Option ℕ) {m m' : List ℕ} {r : ℕ} → p ≡ home_in us ps u
      → Wrote m 0 (unit_reason (clued_by h w cs c) s u p) m' r
      → Wrote m 0 (unit_reason (clued_by h w cs c) s u (potential_in (clued_by h w cs c) s u)) m' r
  home-written c e x = rw (potential-clue h w cs c s u) (rw (e ∙ home-in) at x)
