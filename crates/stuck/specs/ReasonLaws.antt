-- What the arrays give is the reason of the unit: its blockers, its Inside, and the walls of its potential unit.
use Rattle.std.specs.Prelude.{◌≡◌, ℕ, ◌*◌, ◌<◌, ◌≤◌, get_or}
use Rattle.std.proofs.Math.Path.{refl, ap}
use Rattle.std.proofs.Common.{sym, ◌∙◌, arith}
use mathlib.Core.List.{List, ◌++◌, map}
use Rattle.std.proofs.Math.Option.{Option, none}
use Rattle.lists.specs.Lists.{flat_map}
use Rattle.lists.specs.Flats.{flat-map, flat-flat, flat-same}
use Rattle.rules.specs.Codes.{clued_by, states_in, colours_in, unclued}
use Rattle.rules.specs.declared.Literal.{Literal}
use Rattle.rules.specs.Page.{Puzzle, Point, Shape, State}
use Rattle.rules.specs.Flat.{flat}
use Rattle.rules.specs.Shapes.{shape_of}
use Rattle.rules.specs.Groups.{entry, members, unit_of, potential_of, potential_count}
use Rattle.rules.specs.Check.{laid, blockers, placements, transforms_of, inside_unit, edge_of, mates, far_walls}
use Rattle.rules.specs.Check.{unit_reason}
use Rattle.rules.specs.Check.{adjacent as is_adjacent}
use Rattle.laws.specs.FlatReasons.{flat-edge-same, flat-inside-same, flat-members-same}
use Rattle.groups.specs.declared.Grouping.{Grouping}
use Rattle.groups.specs.Grouping.{numbers_in, cells_in, starts_in, group_cells}
use Rattle.reasons.specs.Arrays.{GroupAt, inside_in, edge_in, is_flagged}
use Rattle.reasons.specs.FarLaws.{far-walls}
use Rattle.reasons.specs.Memory.{Wrote}
use Rattle.reasons.proofs.MemoryLaws.{naming-more}
use Rattle.shapes.specs.Rows.{image, rows_of}
use Rattle.shapes.specs.Spots.{cell_spots, joint_spots}
use Rattle.shapes.specs.UnitLaws.{transforms-flat}
use Rattle.shapes.specs.ImageLaws.{image-is}
use Rattle.adjacent.specs.Mates.{mates_in, Beside}
use Rattle.adjacent.specs.BesideLaws.{mates-low, entry-low, beside-gathered}
use Rattle.planes.specs.Placing.{bare}
use Rattle.planes.specs.Laying.{block_at, blocks_among, blocks_beside}
use Rattle.planes.specs.LayingLaws.{placed-blocks}
use Rattle.stuck.specs.Writing.{Mated, flags_of, edges_in, far_in, walls_in, Arranged, blocks_by, blocks_listed, Imaged}
use Rattle.stuck.specs.FlagLaws.{flagged-is}
use Rattle.stuck.specs.ClueLaws.{reason-clue}

module _ {h w : ℕ} {cs bs : List ℕ} {us ps : Grouping} {list : List ℕ} {u p : ℕ}
    (a : Arranged h w cs bs us ps list u p) where
  abbrev ids : List ℕ
  ids = numbers_in us

  abbrev pids : List ℕ
  pids = numbers_in ps

  abbrev pcells : List ℕ
  pcells = cells_in ps

  abbrev poffs : List ℕ
  poffs = starts_in ps

  abbrev Z : Puzzle
  Z = unclued h w cs

  abbrev s : ℕ → State
  s = states_in bs

  number_same : (x : ℕ) → x < h * w → entry pids x ≡ potential_of Z s x
  unfolding entry
  number_same x l = a.known.number x l

  unit-same : (x : ℕ) → x < h * w → entry ids x ≡ unit_of Z s x
  unfolding entry
  unit-same x l = a.number x l

  edge-is : (q : ℕ) → edge_in h w cs bs pids q ≡ edge_of Z s q
  unfolding edge_in edge_of
  edge-is q = flat-edge-same a.drawn.sized (entry pids) (potential_of Z s) number_same q (colours_in cs) s

  inside_is : inside_in h w bs ids u ≡ inside_unit Z s u
  unfolding inside_in inside_unit
  inside_is = flat-inside-same a.drawn.sized (entry ids) (unit_of Z s) unit-same u s

  mates-are : mates_in list ≡ mates Z s p
  mates-are = a.mates.first

  cells_are : group_cells ps p ≡ members (flat h w) (potential_of Z s) p
  cells_are = a.grouped.group p a.one

  pub count-few : potential_count Z s ≤ 1024
  count-few = a.known.few

  numbered : (q : ℕ) → q < potential_count Z s → GroupAt h w ps q
  numbered q l =
      let e = a.grouped.each q l in
      record {
        few = omega (arith, count-few);
        numbers = a.numbers;
        is =
            record {
              long = e.long;
              order = e.order;
              end = e.end;
              group =
                  a.grouped.group q l
                  ∙ sym (flat-members-same a.drawn.sized (entry pids) (potential_of Z s) number_same q);
            };
      }

  pub own : GroupAt h w ps p
  own = numbered p a.one

  pub beside : Beside h w ps list
  beside = beside-gathered ps a.grouped a.known p a.mates

  pub mated : Mated h w ps list
  mated =
      record {
        low = record { long = beside.long; end = beside.end; each = beside.low };
        each = λ i y. numbered (get_or list i 0) (entry-low ps a.grouped a.known p a.mates i y);
      }

  -- the flags of the mates
  flag : (x : ℕ) → x < h * w
      → is_flagged (flags_of (mates Z s p)) (entry pids x) ≡ is_adjacent Z s p (entry pids x)
  unfolding mates entry
  flag x l =
      flagged-is (is_adjacent Z s p) (potential_count Z s) (get_or pids x 0) a.known.few
      (a.known.below x l)

  far-is : far_in h w cs bs pids (mates_in list) (group_cells ps p) ≡ far_walls Z s p
  unfolding far_in
  far-is =
      rw (mates-are, cells_are)
      (sym (far-walls a.drawn.sized cs bs pids (λ c. none) p (flags_of (mates Z s p)) number_same flag))

  edges_are : edges_in h w cs bs pids (mates_in list) ≡ flat_map (edge_of Z s) (mates Z s p)
  unfolding edges_in
  edges_are =
      flat-same (edge_in h w cs bs pids) (edge_of Z s) (mates_in list) (λ q m. edge-is q)
      ∙ ap (flat_map (edge_of Z s)) mates-are

  walls-are : walls_in h w cs bs pids p (mates_in list) (group_cells ps p)
      ≡ edge_of Z s p ++ (flat_map (edge_of Z s) (mates Z s p) ++ far_walls Z s p)
  unfolding walls_in
  walls-are = rw (edge-is p, edges_are, far-is)

  module _ {o t : List ℕ} (b : Imaged h w cs bs us o t u) where
    abbrev shape : Shape
    shape = shape_of (flat h w) (entry ids) u

    -- a placement looks at the connections only
    abbrev blocks_of : List Point → List Literal
    blocks_of js = blocks_beside Z s (bare js) pcells poffs (mates_in list)

    abbrev blocks_row : ℕ → List Literal
    blocks_row r = blocks_by Z s pcells poffs (mates_in list) (cell_spots o) (joint_spots o) r

    abbrev joints : Shape → List Point
    joints x = x.connections

    by-joints : (x : Shape)
        → blocks_beside Z s x pcells poffs (mates_in list) ≡ blocks_of (joints x)
    unfolding blocks_beside blocks_among block_at laid
    by-joints x = refl

    one-shape : (x : Shape)
        → flat_map (blockers Z s)
        (flat_map (λ Q. map (laid Z s x) (members (flat h w) (potential_of Z s) Q)) (mates Z s p))
        ≡ blocks_of (joints x)
    one-shape x =
        placed-blocks a.grouped x (mates Z s p) (mates-low a.grouped p)
        ∙ ap (blocks_beside Z s x pcells poffs) (sym mates-are)
        ∙ by-joints x

    row_is : (r : ℕ) → blocks_of (image r shape).connections ≡ blocks_row r
    unfolding blocks_by
    row_is r = ap blocks_of (image-is b.cells b.connections r)

    blocks-are : flat_map (blockers Z s) (placements Z s u p)
        ≡ blocks_listed Z s pcells poffs (mates_in list) (cell_spots o) (joint_spots o) t
    unfolding placements blocks_listed
    blocks-are =
        flat-flat (blockers Z s)
        (λ x. flat_map (λ Q. map (laid Z s x) (members (flat h w) (potential_of Z s) Q)) (mates Z s p))
        (transforms_of Z s u)
        ∙ flat-same _ (λ x. blocks_of (joints x)) (transforms_of Z s u) (λ x m. one-shape x)
        ∙ ap (flat_map (λ (x : Shape). blocks_of (joints x)))
        (b.transforms ∙ transforms-flat h w (entry ids) u b.cells.sized.columns)
        ∙ flat-map (λ x. blocks_of (joints x)) (λ r. image r shape) (rows_of shape)
        ∙ flat-same _ blocks_row (rows_of shape) (λ r m. row_is r)
        ∙ ap (flat_map blocks_row) (sym b.rows)

    abbrev inner : List Literal
    inner = inside_in h w bs ids u

    abbrev walls : List Literal
    walls = walls_in h w cs bs pids p (mates_in list) (group_cells ps p)

    abbrev blocked : List Literal
    blocked = blocks_listed Z s pcells poffs (mates_in list) (cell_spots o) (joint_spots o) t

    reason-is : unit_reason Z s u p ≡ blocked ++ (inner ++ walls)
    unfolding unit_reason
    reason-is = rw (blocks-are, inside_is, walls-are)

    pub reason-written : (c : ℕ → Option ℕ) {m m' m'' m''' : List ℕ} {i j r : ℕ} → Wrote m 0 blocked m' i
        → Wrote m' i inner m'' j → Wrote m'' j walls m''' r → Wrote m 0 (unit_reason (clued_by h w cs c) s u p) m''' r
    reason-written c x y z =
        rw (reason-clue h w cs c s u p, reason-is) (naming-more x (naming-more y z))
