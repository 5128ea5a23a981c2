-- What the probes of a board's groups and of their parts write, and what they give.
--
--   which_of n          the list with the number n: 0 is the unit list, any other the potential list
--   asked_in s k        what the board that the image s spells gives, asked for its groups of the kind k; an image of
--                       another length is alien
--   told_words o        the groups as words; a refusal as it is
--   part_among which g us ps  the cells of the group g, as the part of the unit list or of the potential list, where
--                       both are given; no cells where the board is refused
--   part_in s which g   those of the board that the image s spells
--   asked_memory o m, asked_number o m  where o is a refusal the memory m is left, and its number is given; where m has
--                       under 16,384 places it is left, and 65,535 is given; otherwise the words of o are written from
--                       the start of m, and their number is given
--   AskedTold o m m' r  m' is the memory afterwards, and r the number given
use Rattle.std.specs.Prelude.{◌≡◌, cond, List, [], ℕ, eqb, leb, length, Result, Ok, Err}
use Rattle.std.proofs.lemmas.List.Edits.{sets}
use Rattle.board.specs.declared.Refusal.{Refusal}
use Rattle.board.specs.declared.Refusal.TheVariants.{Alien}
use Rattle.board.specs.Board.{refusal_number}
use Rattle.groups.specs.declared.Grouping.{Grouping}
use Rattle.groups.specs.declared.Kind.{Kind}
use Rattle.groups.specs.declared.Kind.TheVariants as kind
use Rattle.groups.specs.declared.Which.{Which}
use Rattle.groups.specs.declared.Which.TheVariants.{Units, Potential}
use Rattle.groups.specs.Grouping.{group_cells}
use Rattle.groups.specs.Asked.{asked_of}
use Rattle.groups.specs.Parts.{part_from}
use Rattle.image.specs.Image.{right_length, spelled_board}
use Rattle.probe.specs.Probe.{words_in}

unfoldable pub which_of : ℕ → Which
which_of n = cond (eqb n 0) Units Potential

-- "Groups or transforms asked of an alien board give 5 and none"
unfoldable pub asked_in : List ℕ → Kind → Result Grouping Refusal
asked_in s k = cond (right_length s) (asked_of (spelled_board s) k) (Err Alien)

abbrev pub told_words : Result Grouping Refusal → Result (List ℕ) Refusal
told_words (Ok g) = Ok (words_in g)
told_words (Err e) = Err e

-- "A group's cells are handed back as a part of the unit list or of the potential list"
abbrev pub part_among : Which → ℕ → Result Grouping Refusal → Result Grouping Refusal → List ℕ
part_among which g (Ok us) (Ok ps) = part_from which (group_cells us g) (group_cells ps g)
part_among which g (Ok us) (Err e) = []
part_among which g (Err e) ps = []

unfoldable pub part_in : List ℕ → Which → ℕ → List ℕ
part_in s which g = part_among which g (asked_in s kind.Units) (asked_in s kind.Potential)

abbrev pub asked_memory : Result (List ℕ) Refusal → List ℕ → List ℕ
asked_memory (Ok words) m = cond (leb 16384 (length m)) (sets m 0 words) m
asked_memory (Err e) m = m

abbrev pub asked_number : Result (List ℕ) Refusal → List ℕ → ℕ
asked_number (Ok words) m = cond (leb 16384 (length m)) (length words) 65535
asked_number (Err e) m = refusal_number e

pub record AskedTold (o : Result (List ℕ) Refusal) (m after : List ℕ) (r : ℕ) : Type 0 where
  pub memory : after ≡ asked_memory o m
  pub number : r ≡ asked_number o m
