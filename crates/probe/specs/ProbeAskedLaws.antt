-- Laws of the probes of a board's groups: a part's length, and the cases of what is given.
use Rattle.std.specs.Prelude.{◌≡◌, refl, Bool, true, false, List, [], ℕ, ◌-◌, ◌+◌, ◌<◌, ◌≤◌, length, drop, Result, Ok}
use Rattle.std.specs.Prelude.{Err}
use Rattle.std.proofs.Common.{subst, arith, ne_eqb, le-leb, length-take, length-drop}
use Rattle.std.proofs.Math.Nat.{min-le_right}
use Rattle.std.proofs.lemmas.Bool.{lt-leb}
use Rattle.rules.specs.Flat.{flat}
use Rattle.laws.specs.FlatLaws.{Counts, counts}
use Rattle.board.specs.declared.Board.{Board}
use Rattle.board.specs.declared.Refusal.{Refusal}
use Rattle.board.specs.declared.Refusal.TheVariants.{Alien}
use Rattle.board.specs.Alien.{is_alien}
use Rattle.board.specs.Board.{refusal_number}
use Rattle.board.specs.NativeLaws.{native-has}
use Rattle.groups.specs.declared.Grouping.{Grouping}
use Rattle.groups.specs.declared.Kind.{Kind}
use Rattle.groups.specs.declared.Kind.TheVariants as kind
use Rattle.groups.specs.declared.Which.{Which}
use Rattle.groups.specs.declared.Which.TheVariants.{Units, Potential}
use Rattle.groups.specs.Asked.{asked_of}
use Rattle.groups.specs.AskedLaws.{asked-alien, asked-done}
use Rattle.groups.specs.Grouping.{cells_in, start_in, group_cells, grouping_of}
use Rattle.groups.specs.Kinds.{joins_in}
use Rattle.groups.specs.PartLaws.{cells-long}
use Rattle.groups.specs.Parts.{part_from, groups_of}
use Rattle.image.specs.Image.{right_length, spelled_board}
use Rattle.image.specs.RoundLaws.{long-is}
use Rattle.reasons.specs.Memory.{WordsWritten}
use Rattle.probe.specs.ProbeAsked.{asked_in, part_among, part_in, AskedTold}

-- ---- the two cases of an image's length
module _ (s : List ℕ) (k : Kind) where
  pub asked-other : (length s ≡ 11082 → ⊥) → Err Alien ≡ asked_in s k
  unfolding asked_in right_length
  asked-other e = rw (ne_eqb (length s) 11082 e)

  pub asked-right : length s ≡ 11082 → asked_of (spelled_board s) k ≡ asked_in s k
  unfolding asked_in
  asked-right e = rw (long-is s e)

-- ---- a part is no longer than its list
part-le : (grouping : Grouping) → length (cells_in grouping) ≡ 1024 → (g : ℕ)
    → length (group_cells grouping g) ≤ 1024
part-le grouping long g =
    let from = start_in grouping g in
    let n = start_in grouping (g + 1) - from in
    let rest = drop from (cells_in grouping) in
    omega (arith, length-take n rest, min-le_right n (length rest), length-drop from (cells_in grouping), long)

-- the groupings that a board gives have 1,024 places for cells
abbrev Long : Result Grouping Refusal → Type 0
Long (Ok grouping) = length (cells_in grouping) ≡ 1024
Long (Err e) = Unit {0}

flat-some : {h w : ℕ} → Counts h w → 1 ≤ (flat h w).cells
unfolding flat
flat-some n = n.some

flat-small : {h w : ℕ} → Counts h w → (flat h w).cells ≤ 1024
unfolding flat
flat-small n = n.cells

board-long : (b : Board) (k : Kind) (a : Bool) → is_alien b ≡ a → Long (asked_of b k)
unfolding grouping_of groups_of
board-long b k true e = subst Long (asked-alien b k e) tt
board-long b k false e =
    let z = (native-has b e).size in
    let n = counts z in
    subst Long (asked-done b k e)
    (cells-long (flat b.height b.width) (joins_in k b.height b.width b.colours b.borders) (flat-some n) (flat-small n))

given-long : (s : List ℕ) (k : Kind) (r : Bool) → right_length s ≡ r → Long (asked_in s k)
unfolding asked_in
given-long s k true e = rw e (board-long (spelled_board s) k (is_alien (spelled_board s)) refl)
given-long s k false e = rw e tt

pub part-few : (s : List ℕ) (which : Which) (g : ℕ) → length (part_in s which g) ≤ 1024
unfolding part_in part_from
part-few s which g =
    go (asked_in s kind.Units) (asked_in s kind.Potential) which (given-long s kind.Units (right_length s) refl)
    (given-long s kind.Potential (right_length s) refl)
  where
    go : (us ps : Result Grouping Refusal) (w : Which) → Long us → Long ps → length (part_among w g us ps) ≤ 1024
    go (Ok us) (Ok ps) Units u p = part-le us u g
    go (Ok us) (Ok ps) Potential u p = part-le ps p g
    go (Ok us) (Err e) w u p = omega arith
    go (Err e) ps w u p = omega arith

-- a board that is refused has no part
module _ (s : List ℕ) (which : Which) (g : ℕ) where
  pub refused-units : (e : Refusal) → Err e ≡ asked_in s kind.Units → [] ≡ part_in s which g
  unfolding part_in
  refused-units e p = rw (← p)

  pub refused-potential : (us : Grouping) (e : Refusal) → Ok us ≡ asked_in s kind.Units
      → Err e ≡ asked_in s kind.Potential → [] ≡ part_in s which g
  unfolding part_in
  refused-potential us e p q = rw (← p, ← q)

  pub part-given : (us ps : Grouping) → Ok us ≡ asked_in s kind.Units → Ok ps ≡ asked_in s kind.Potential
      → part_from which (group_cells us g) (group_cells ps g) ≡ part_in s which g
  unfolding part_in
  part-given us ps p q = rw (← p, ← q)

-- ---- the cases of what is given
module _ {m : List ℕ} where
  pub told-refusal : (e : Refusal) {o : Result (List ℕ) Refusal} → Err e ≡ o → AskedTold o m m (refusal_number e)
  told-refusal e p = record { memory = rw (← p); number = rw (← p) }

  module _ (words : List ℕ) {o : Result (List ℕ) Refusal} (p : Ok words ≡ o) where
    pub told-short : length m < 16384 → AskedTold o m m 65535
    told-short l = let z = lt-leb 16384 (length m) l in record { memory = rw (← p, z); number = rw (← p, z) }

    pub told-words : {after : List ℕ} {r : ℕ} → 16384 ≤ length m → WordsWritten m words after r → AskedTold o m after r
    told-words l w =
        let z = le-leb 16384 (length m) l in
        record { memory = rw (← p, z) w.memory; number = rw (← p, z) w.count }

    pub told-none : 16384 ≤ length m → words ≡ [] → AskedTold o m m 0
    told-none l e = let z = le-leb 16384 (length m) l in record { memory = rw (← p, z, e); number = rw (← p, z, e) }
