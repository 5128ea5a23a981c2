-- What steps 1 and 2 find over the arrays of a board is the hit of the definitions.
use Rattle.std.specs.Prelude.{◌≡◌, Bool, List, ◌++◌, map, ℕ, ◌*◌, ◌≤◌, ℤ, length, take, drop, replicate}
use Rattle.std.specs.Prelude.{Option, None, Some}
use Rattle.std.proofs.Common.{sym, ◌∙◌}
use Rattle.std.proofs.Math.Path.{ap}
use Rattle.std.proofs.lemmas.Option.{none-some}
use Rattle.std.proofs.Math.Option.{Option as Maybe, some, none}
use Rattle.std.proofs.lemmas.List.{length-map}
use Rattle.lists.specs.Lists.{or_else}
use Rattle.rules.specs.Flat.{Sized, flat}
use Rattle.rules.specs.Page.{Puzzle, Contains}
use Rattle.rules.specs.Codes.{states_in, puzzle_in, literal_code, put}
use Rattle.rules.specs.Check.{Reason, once}
use Rattle.laws.specs.FlatLaws.{counts}
use Rattle.laws.specs.FlatReasons.{bordered}
use Rattle.argument.specs.Hits.{Each, each-some}
use Rattle.argument.specs.Forms.{Forms, blocks-form, walls-form, units-form}
use Rattle.argument.specs.Held.{held-forms}
use Rattle.argument.specs.EarlyOnce.{NoTwice}
use Rattle.argument.proofs.FlatDemand.{flat-blocks-once, flat-walls-once}
use Rattle.groups.specs.declared.Grouping.{Grouping}
use Rattle.groups.specs.declared.Kind.TheVariants.{Blocks, Potential}
use Rattle.groups.specs.Parts.{groups_of}
use Rattle.groups.specs.Grouping.{numbers_in, Filled, Vacant}
use Rattle.groups.specs.PartLaws.{ids-length, filled-ids, filled-cells, filled-offs}
use Rattle.groups.specs.Pages.{groups_in}
use Rattle.reasons.specs.Arrays.{Arrays, GroupAt}
use Rattle.reasons.specs.Memory.{Wrote, WordsWritten}
use Rattle.reasons.proofs.MemoryLaws.{once-handed, plain-handed}
use Rattle.blocks.specs.declared.Faulty.{Faulty}
use Rattle.blocks.specs.Written.{fault_unit, faulty_literals}
use Rattle.blocks.specs.BlockHits.{faulty_in, block_at_lem, fault-unit-at, one_hit, one_none}
use Rattle.walls.specs.declared.Breach.{Breach}
use Rattle.walls.specs.Written.{breach_literals}
use Rattle.walls.specs.WallHits.{breach_in, two-hit, two_none}
use Rattle.steps.specs.Found.{found_of, written_by, blocks_hit, walls_hit, units_hit, Answers}

pub answers-none : {o : Maybe Reason} (m : List ℕ) → o ≡ none → Answers o m m None
unfolding found_of written_by
answers-none m e = record { found = rw e; memory = rw e }

-- a hit's reason, each literal once, was written from the start of the memory
answers-words : {o : Maybe Reason} {m after : List ℕ} {r : Reason} {k : ℕ} → o ≡ some r
    → WordsWritten m (map literal_code (once r)) after k → Answers o m after (Some k)
unfolding found_of written_by put
answers-words {r = r} e w =
    record { found = rw (e, w.count) (ap Some (length-map (once r) literal_code)); memory = rw e w.memory }

-- by way of working memory, which has it so
pub answers-some : {o : Maybe Reason} (bs : List ℕ) {m work after : List ℕ} {r : Reason} {n k : ℕ} → length bs ≡ 1984
    → Each (Contains (states_in bs)) o → o ≡ some r → Wrote (replicate 3968 0) 0 r work n
    → WordsWritten m (take n work) after k → Answers o m after (Some k)
answers-some bs {r = r} l h e w p =
    answers-words e (once-handed bs l r (each-some (Contains (states_in bs)) r (rw e at h)) w p)

-- straight away, where the reason names no border twice
pub answers-plain : {o : Maybe Reason} (bs : List ℕ) {m after : List ℕ} {r : Reason} {n : ℕ} → length bs ≡ 1984
    → 1984 ≤ length m → Each (Contains (states_in bs)) o → Each NoTwice o → o ≡ some r
    → Wrote (take 1984 m) 0 r after n → Answers o m (after ++ drop 1984 m) (Some n)
answers-plain bs {r = r} l room h d e w =
    answers-words e
    (plain-handed bs l r (each-some (Contains (states_in bs)) r (rw e at h)) room (each-some NoTwice r (rw e at d)) w)

-- every reason of a step holds on its board, and those of steps 1 and 2 name no border twice
module _ {h w : ℕ} (z : Sized h w) (cs : List ℕ) (ks : List ℤ) (bs : List ℕ) where
  abbrev Z : Puzzle
  Z = puzzle_in h w cs ks

  forms : Forms Z (states_in bs) (Contains (states_in bs))
  forms = held-forms Z (bordered z) (states_in bs)

  pub blocks-held : Each (Contains (states_in bs)) (blocks_hit Z (states_in bs))
  unfolding blocks_hit
  blocks-held = blocks-form Z (states_in bs) _ forms.early

  pub walls-held : Each (Contains (states_in bs)) (walls_hit Z (states_in bs))
  unfolding walls_hit
  walls-held = walls-form Z (states_in bs) _ forms.early

  pub blocks-plain : Each NoTwice (blocks_hit Z (states_in bs))
  unfolding blocks_hit
  blocks-plain = flat-blocks-once h w z.columns _ _ (states_in bs)

  pub walls-plain : Each NoTwice (walls_hit Z (states_in bs))
  unfolding walls_hit
  walls-plain = flat-walls-once h w z.columns _ _ (states_in bs)

  pub units-held : Each (Contains (states_in bs)) (units_hit Z (states_in bs))
  unfolding units_hit
  units-held = units-form Z (states_in bs) _ forms

-- one search after another: the first one's hit stands, and where there was none the memory is still the old one
pub answers-first : (a b : Maybe Reason) {m after : List ℕ} (n : ℕ) → Answers a m after (Some n)
    → Answers (or_else a b) m after (Some n)
unfolding found_of or_else
answers-first (some q) b n t = t
answers-first none b n t = absurd (none-some n (sym t.found))

pub answers_next : (a b : Maybe Reason) {m mid after : List ℕ} {r : Option ℕ} → Answers a m mid None
    → Answers b mid after r → Answers (or_else a b) m after r
unfolding found_of written_by or_else
answers_next none b t u = record { found = u.found; memory = u.memory ∙ ap (written_by b) t.memory }
answers_next (some q) b t u = absurd (none-some _ t.found)

-- where nothing was found the memory is as it was
pub answers-kept : (o : Maybe Reason) {m after : List ℕ} → Answers o m after None → after ≡ m
unfolding found_of written_by
answers-kept none a = a.memory
answers-kept (some r) a = absurd (none-some _ a.found)

-- a grouping that holds the groups of a page: the length of its numbers, and it may be lent again
module _ {h w : ℕ} (z : Sized h w) (link : ℕ → Bool) {g : Grouping}
    (f : Filled (groups_of (flat h w) link) g) where
  one : 1 ≤ (flat h w).cells
  unfolding flat
  one = (counts z).some

  few : (flat h w).cells ≤ 1024
  unfolding flat
  few = (counts z).cells

  pub arrays-of : {bs : List ℕ} → length bs ≡ 1984 → Arrays bs (numbers_in g)
  arrays-of l = record { borders = l; numbers = rw f.numbers (ids-length (flat h w) link one few) }

  pub vacant-of : Vacant (h * w) g
  unfolding flat
  vacant-of = record {
    numbers = rw f.numbers (filled-ids (flat h w) link one few);
    cells = rw f.cells (filled-cells (flat h w) link one few);
    starts = rw f.starts (filled-offs (flat h w) link one few);
  }

-- step 1: o is what first_faulty found
module _ {h w : ℕ} (z : Sized h w) (cs : List ℕ) (ks : List ℤ) (bs : List ℕ) (o : Option Faulty)
    (is : o ≡ faulty_in z cs ks bs) where
  pub blocks-clear : o ≡ None → blocks_hit (puzzle_in h w cs ks) (states_in bs) ≡ none
  unfolding blocks_hit
  blocks-clear e = one_none z cs ks bs (sym is ∙ e)

  module _ (r : Faulty) (e : o ≡ Some r) where
    pub blocks-fault : blocks_hit (puzzle_in h w cs ks) (states_in bs)
        ≡ some (faulty_literals h w cs bs (groups_in Blocks h w cs bs).ids (groups_in Potential h w cs bs).ids r)
    unfolding blocks_hit
    blocks-fault = one_hit z cs ks bs r (sym is ∙ e)

    -- the block and the potential unit that a fault names have their parts
    pub fault-block : {blocks : Grouping} → Filled (groups_in Blocks h w cs bs) blocks → GroupAt h w blocks r.block
    fault-block f = block_at_lem z cs ks bs r (sym is ∙ e) f

    pub fault-unit : {potential : Grouping} → Filled (groups_in Potential h w cs bs) potential
        → GroupAt h w potential (fault_unit r.fault)
    fault-unit f = fault-unit-at z cs ks bs r (sym is ∙ e) f

-- step 2: nothing, or b, is what first_breach found
module _ {h w : ℕ} (z : Sized h w) (cs : List ℕ) (ks : List ℤ) (bs : List ℕ) where
  pub walls-clear : None ≡ breach_in z cs ks bs → walls_hit (puzzle_in h w cs ks) (states_in bs) ≡ none
  unfolding walls_hit
  walls-clear e = two_none z cs ks bs e

  pub walls-breach : {b : Breach} → Some b ≡ breach_in z cs ks bs
      → walls_hit (puzzle_in h w cs ks) (states_in bs) ≡ some (breach_literals (flat h w) (states_in bs) b)
  unfolding walls_hit
  walls-breach e = two-hit z cs ks bs e
