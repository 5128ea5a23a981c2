-- What the probes write, and what they give.
--
--   board_from s          the board that the image s spells; the all-zero board, which is alien, where s has another
--                         length
--   places_of n l         a list of n places: the list l, cut off or filled up with 0
--   probe_fits h w room   h and w are a page's, and the memory has 16,384 places
--   kind_of k             the kind of groups with the number k: blocks, units, potential units
--   kind_groups h w cs bs k  the groups of that kind, for lists of colours and borders
--   words_in g            a grouping as words: the cells' numbers, the cells group by group, where each group's cells
--                         start, and the count
--   reason_words ..       Inside(G) (open) or Edge(G) (wall) of the group g, each literal once, as literal codes
--   path_words ..         Path(a, b), each literal once, as literal codes
--   ProbeAnswered h w m ws m' r  where the call fits, the words ws were written into the memory m from its start:
--                         m' is the memory afterwards, and r their number; otherwise m' is m, and r is 65,535
use Rattle.std.specs.Prelude.{◌≡◌, Bool, ◌&&◌, cond, List, [], ◌∷◌, ◌++◌, map, ℕ, eqb, leb, length}
use Rattle.std.proofs.lemmas.List.Edits.{sets}
use Rattle.lists.specs.Table.{table}
use Rattle.rules.specs.declared.Side.{Side}
use Rattle.rules.specs.Flat.{flat}
use Rattle.rules.specs.Codes.{literal_code}
use Rattle.rules.specs.Groups.{entry}
use Rattle.rules.specs.Check.{once}
use Rattle.board.specs.declared.Board.{Board}
use Rattle.board.specs.Alien.{cells_of}
use Rattle.board.specs.Board.{zero_board}
use Rattle.groups.specs.declared.Grouping.{Grouping}
use Rattle.groups.specs.declared.Kind.{Kind}
use Rattle.groups.specs.declared.Kind.TheVariants.{Blocks, Units, Potential}
use Rattle.groups.specs.Grouping.{numbers_in, cells_in, starts_in, count_in}
use Rattle.groups.specs.Kinds.{joins_in}
use Rattle.groups.specs.Parts.{Groups, groups_of}
use Rattle.reasons.specs.Arrays.{group_reason}
use Rattle.reasons.specs.Search.{path_in}
use Rattle.image.specs.Image.{right_length, spelled_board}

unfoldable pub board_from : List ℕ → Board
board_from s = cond (right_length s) (spelled_board s) zero_board

unfoldable pub places_of : ℕ → List ℕ → List ℕ
places_of n l = table n (entry l)

-- another size has 0 cells
unfoldable pub probe_fits : ℕ → ℕ → ℕ → Bool
probe_fits h w room = leb 1 (cells_of h w) && leb 16384 room

unfoldable pub kind_of : ℕ → Kind
kind_of k = cond (eqb k 0) Blocks (cond (eqb k 1) Units Potential)

module _ (h w : ℕ) (cs bs : List ℕ) (k : ℕ) where
  unfoldable pub kind_groups : Groups
  kind_groups = groups_of (flat h w) (joins_in (kind_of k) h w (places_of 1024 cs) (places_of 1984 bs))

  unfoldable pub reason_words : Side → ℕ → List ℕ
  reason_words side g =
      map literal_code (once (group_reason h w (places_of 1024 cs) (places_of 1984 bs) kind_groups.ids side g))

abbrev pub words_in : Grouping → List ℕ
words_in g = numbers_in g ++ (cells_in g ++ (starts_in g ++ (count_in g ∷ [])))

unfoldable pub path_words : ℕ → ℕ → List ℕ → ℕ → ℕ → List ℕ
path_words h w bs a b = map literal_code (once (path_in h w (places_of 1984 bs) a b))

pub record ProbeAnswered (h w : ℕ) (m words after : List ℕ) (r : ℕ) : Type 0 where
  pub memory : after ≡ cond (probe_fits h w (length m)) (sets m 0 words) m
  pub count : r ≡ cond (probe_fits h w (length m)) (length words) 65535
