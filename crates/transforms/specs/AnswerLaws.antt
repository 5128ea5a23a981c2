-- What is handed back, case by case.
use Rattle.std.specs.Prelude.{◌≡◌, true, false, List, [], map, ℕ, ◌<◌, ◌≤◌, ℤ, Ok, Err}
use Rattle.std.proofs.Math.Path.{refl, sym, ap, ap₂}
use Rattle.std.proofs.Common.{◌∙◌}
use Rattle.std.proofs.Math.Option.{none}
use borrow.Author.Tests.{lt-ltb, le-ltb}
use Rattle.std.proofs.Math.ListN.{length, get_or, get_or-eq_default}
use Rattle.std.proofs.lemmas.List.{length-map}
use Rattle.std.proofs.Math.Seq.{sets}
use Rattle.lists.specs.Lists.{flat_map}
use Rattle.lists.specs.Maps.{get_d_map}
use Rattle.rules.specs.Page.{Shape}
use Rattle.rules.specs.Rules.{one_colour, joins_unit}
use Rattle.rules.specs.Flat.{Sized, flat}
use Rattle.rules.specs.Codes.{states_in, unclued}
use Rattle.rules.specs.Groups.{entry, unit_count}
use Rattle.rules.specs.Shapes.{shape_of, flat_transforms}
use Rattle.rules.specs.Check.{transforms_of}
use Rattle.board.specs.declared.Board.{Board}
use Rattle.board.specs.declared.Refusal.TheVariants.{Alien, Short}
use Rattle.board.specs.Alien.{is_alien}
use Rattle.board.specs.View.{puzzle_of, states_of}
use Rattle.groups.specs.declared.Grouping.{Grouping}
use Rattle.groups.specs.declared.Kind.TheVariants.{Units}
use Rattle.groups.specs.Kinds.{joins_in}
use Rattle.groups.specs.Parts.{groups_of}
use Rattle.groups.specs.Grouping.{numbers_in, count_in, Filled}
use Rattle.groups.specs.PageLaws.{kind-count}
use Rattle.shapes.specs.Rows.{image, rows_of}
use Rattle.shapes.specs.UnitLaws.{transforms-flat}
use Rattle.adjacent.specs.Homes.{UnitIn}
use Rattle.adjacent.specs.HomeLaws.{own-part, own-transforms}
use Rattle.transforms.specs.Transforms.{nothing, kth, words, room, transformed, kth_answer, kth_memory, transform_of}
use Rattle.transforms.specs.Transforms.{memory_after}

-- no transform
module _ (ts : List Shape) (k : ℕ) (l : length ts ≤ k) where
  past : kth ts k ≡ nothing
  unfolding kth
  past = get_or-eq_default ts nothing l

  pub past-answer : {n : ℕ} → n ≡ length ts → transformed n nothing ≡ kth_answer ts k
  unfolding kth_answer
  past-answer e = ap₂ transformed e (sym past)

  pub past_memory : (m : List ℤ) → m ≡ kth_memory ts k m
  unfolding kth_memory words flat_map
  past_memory m = rw past

-- a unit's listed rows
module _ (h w : ℕ) (ids : List ℕ) (g : ℕ) (index : 1 ≤ w) {rows : List ℕ}
    (listed : rows ≡ rows_of (shape_of (flat h w) (entry ids) g)) where
  abbrev shape : Shape
  shape = shape_of (flat h w) (entry ids) g

  abbrev ts : List Shape
  ts = flat_transforms shape

  transforms-are : ts ≡ map (λ r. image r shape) rows
  transforms-are = transforms-flat h w (entry ids) g index ∙ ap (map (λ r. image r shape)) (sym listed)

  pub listed-count : length rows ≡ length (flat_transforms (shape_of (flat h w) (entry ids) g))
  listed-count = sym (ap length transforms-are ∙ length-map rows (λ r. image r shape))

  module _ (k : ℕ) (l : k < length rows) where
    kth-image : kth ts k ≡ image (get_or rows k 0) shape
    unfolding kth
    kth-image =
        ap (λ xs. get_or xs k nothing) transforms-are ∙ get_d_map (λ r. image r shape) rows k 0 nothing l

    pub listed_answer : {n j : ℕ} → length (image (get_or rows k 0) (shape_of (flat h w) (entry ids) g)).cells ≡ n
        → length (image (get_or rows k 0) (shape_of (flat h w) (entry ids) g)).connections ≡ j
        → record { listed = length rows; cells = n; connections = j }
        ≡ kth_answer (flat_transforms (shape_of (flat h w) (entry ids) g)) k
    unfolding kth_answer
    listed_answer {n} {j} a c =
        (λ i. record { listed = listed-count i; cells = sym a i; connections = sym c i })
        ∙ ap (transformed (length ts)) (sym kth-image)

    pub listed-memory : (m : List ℤ) {m' : List ℤ}
        → m' ≡ sets m 0 (words (image (get_or rows k 0) (shape_of (flat h w) (entry ids) g)))
        → m' ≡ kth_memory (flat_transforms (shape_of (flat h w) (entry ids) g)) k m
    unfolding kth_memory
    listed-memory m e = e ∙ ap (λ s. sets m 0 (words s)) (sym kth-image)

-- the units of a page
module _ {h w : ℕ} (z : Sized h w) (cs bs : List ℕ) {units : Grouping}
    (all : Filled (groups_of (flat h w) (joins_in Units h w cs bs)) units) (u : ℕ) where
  -- "A unit number that no unit has gives no transforms"
  pub no-unit : count_in units ≤ u → transforms_of (unclued h w cs) (states_in bs) u ≡ []
  unfolding transforms_of
  no-unit l =
      rw (le-ltb u (unit_count (unclued h w cs) (states_in bs))
      (rw (all.count ∙ kind-count z cs (λ c. none) bs Units) at l))

  module _ (l : u < count_in units) where
    pub unit-transforms : transforms_of (unclued h w cs) (states_in bs) u
        ≡ flat_transforms (shape_of (flat h w) (entry (numbers_in units)) u)
    unit-transforms = rw all.numbers (own-transforms z cs bs u (rw all.count at l))

    pub unit-part-in : UnitIn h w units u
    unit-part-in = own-part z (joins_in Units h w cs bs) all u (rw all.count at l)

-- a board's answer
module _ (b : Board) (u k : ℕ) (m : List ℤ) where
  -- the transforms ask no clue
  pub board-transforms : transforms_of (unclued b.height b.width b.colours) (states_in b.borders) u
      ≡ transforms_of (puzzle_of b) (states_of b) u
  unfolding transforms_of puzzle_of states_of joins_unit one_colour
  board-transforms = refl

  pub alien-answer : is_alien b ≡ true → Err Alien ≡ transform_of b u k (length m)
  unfolding transform_of
  alien-answer e = rw e

  pub alien-memory : is_alien b ≡ true → m ≡ memory_after b u k m
  unfolding memory_after
  alien-memory e = rw e

  pub short-answer : is_alien b ≡ false → length m < room → Err Short ≡ transform_of b u k (length m)
  unfolding transform_of
  short-answer e l = rw (e, lt-ltb (length m) room l)

  pub short-memory : is_alien b ≡ false → length m < room → m ≡ memory_after b u k m
  unfolding memory_after
  short-memory e l = rw (e, lt-ltb (length m) room l)

  pub done-answer : is_alien b ≡ false → room ≤ length m
      → Ok (kth_answer (transforms_of (puzzle_of b) (states_of b) u) k) ≡ transform_of b u k (length m)
  unfolding transform_of
  done-answer e l = rw (e, le-ltb (length m) room l)

  pub done-memory : is_alien b ≡ false → room ≤ length m
      → kth_memory (transforms_of (puzzle_of b) (states_of b) u) k m ≡ memory_after b u k m
  unfolding memory_after
  done-memory e l = rw (e, le-ltb (length m) room l)
