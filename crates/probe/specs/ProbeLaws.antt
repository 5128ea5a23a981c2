-- Laws of the probes: the two cases of an image's length, the lengths of their arrays, what is handed out, a group, and
-- the two cases of an answer.
use Rattle.std.specs.Prelude.{◌≡◌, ◌⊎◌, Bool, true, false, ◌&&◌, cond, List, [], map, ℕ, ◌*◌, ◌<◌, ◌≤◌, leb, length}
use Rattle.std.specs.Prelude.{◌++◌, ◌-◌, min, get_or, take, drop, replicate}
use Rattle.std.proofs.Math.Path.{refl}
use Rattle.std.proofs.Common.{inl, inr, ap, sym, ◌∙◌, arith, leb-true}
use Rattle.std.proofs.Common.{ne_eqb, length-take-le, length-drop, length-append}
use Rattle.std.proofs.Math.Decide.{dec_lt}
use Rattle.std.proofs.Math.ListN.{get_or-append}
use Rattle.std.proofs.lemmas.List.{get_or-take, get_or-drop, get_or_past, get_or-append_right, length-replicate}
use Rattle.lists.specs.PaddedLaws.{zeros}
use Rattle.rules.specs.declared.Side.{Side}
use Rattle.rules.specs.declared.Side.TheVariants.{Wall, Open}
use Rattle.rules.specs.declared.Literal.{Literal}
use Rattle.rules.specs.Flat.{Sized, flat}
use Rattle.rules.specs.Page.{State, Contains}
use Rattle.rules.specs.Codes.{literal_code, states_in, unclued}
use Rattle.rules.specs.Check.{once}
use Rattle.lists.specs.Lists.{flat_map}
use Rattle.lists.specs.Arithmetic.{le-or-lt}
use Rattle.lists.specs.TableLaws.{length-table, table_is}
use Rattle.rules.specs.Groups.{entry, group_count, members}
use Rattle.rules.specs.Reasons.{inside, edge}
use Rattle.laws.specs.FlatLaws.{counts}
use Rattle.laws.specs.GroupLaws.{members-none}
use Rattle.laws.specs.FlatReasons.{bordered}
use Rattle.argument.specs.Held.{held-nil, held-inside, held-edge, held-path}
use Rattle.board.specs.Alien.{size_right, cells_of}
use Rattle.board.specs.Board.{zero_board}
use Rattle.board.specs.ConditionLaws.{sized}
use Rattle.groups.specs.Kinds.{joins_in}
use Rattle.groups.specs.declared.Grouping.{Grouping}
use Rattle.groups.specs.Grouping.{count_in, Filled}
use Rattle.groups.specs.Parts.{groups_of}
use Rattle.groups.specs.PartLaws.{ids-entry}
use Rattle.reasons.specs.GroupReasons.{group_at}
use Rattle.reasons.specs.Arrays.{GroupAt, group_reason, inside_in, edge_in}
use Rattle.reasons.specs.Memory.{Wrote, WordsWritten}
use Rattle.reasons.proofs.MemoryLaws.{once-handed}
use Rattle.reasons.proofs.PathLaws.{path-off-a, path-off-b}
use Rattle.reasons.specs.Search.{path_in}
use Rattle.image.specs.Image.{right_length, spelled_board}
use Rattle.image.specs.RoundLaws.{long-is}
use Rattle.probe.specs.Probe.{board_from, places_of, probe_fits, kind_of, kind_groups, reason_words}
use Rattle.probe.specs.Probe.{ProbeAnswered}

pub from-other : (s : List ℕ) → (length s ≡ 11082 → ⊥) → zero_board ≡ board_from s
unfolding board_from right_length
from-other s e = rw (ne_eqb (length s) 11082 e)

pub from-right : (s : List ℕ) → length s ≡ 11082 → spelled_board s ≡ board_from s
unfolding board_from
from-right s e = rw (long-is s e)

pub places-length : (n : ℕ) (l : List ℕ) → length (places_of n l) ≡ n
unfolding places_of
places-length n l = length-table n (entry l)

-- the first n of the list, and 0 after them
module _ (m : ℕ) (l : List ℕ) (n : ℕ) (e : n ≡ min (length l) m) where
  abbrev front : List ℕ
  front = take n l

  abbrev back : List ℕ
  back = drop n (replicate m 0)

  front-long : length front ≡ n
  front-long = length-take-le n l (omega arith)

  back-long : length back ≡ m - n
  back-long = length-drop n (replicate m 0) ∙ ap (λ k. k - n) (length-replicate {A = ℕ} m 0)

  below : (i : ℕ) → i < n → get_or (front ++ back) i 0 ≡ entry l i
  unfolding entry
  below i k = get_or-append front back 0 i (omega (arith, front-long)) ∙ get_or-take n l i 0 k

  beyond : (i : ℕ) → i < m → n ≤ i → get_or (front ++ back) i 0 ≡ entry l i
  unfolding entry
  beyond i h k =
      get_or-append_right front back n i 0 front-long k
      ∙ get_or-drop n (replicate m 0) (i - n) 0
      ∙ zeros m _
      ∙ sym (get_or_past l i 0 (omega arith))

  pub places-filled : front ++ back ≡ places_of m l
  unfolding places_of
  places-filled =
      table_is m (entry l) 0 (front ++ back) (omega (arith, length-append front back, front-long, back-long))
      (λ i h. elim (dec_lt i n) [ yes k ↦ below i k | no k ↦ beyond i h (omega arith) ])

-- a size that has cells is a page's
pub sized_of : {h w : ℕ} → 1 ≤ cells_of h w → Sized h w
unfolding cells_of
sized_of {h} {w} l = sized (go (size_right h w) l)
  where
    go : (v : Bool) → 1 ≤ cond v (h * w) 0 → v ≡ true
    go true k = refl
    go false k = absurd (omega arith)

-- what a fit call may count on
pub record ProbeFit (h w room : ℕ) : Type 0 where
  pub size : Sized h w
  pub large : 16384 ≤ room

pub probe-fit : {h w room : ℕ} → probe_fits h w room ≡ true → ProbeFit h w room
unfolding probe_fits
probe-fit {h} {w} {room} e = go (leb 1 (cells_of h w)) (leb 16384 room) refl refl e
  where
    go : (a b : Bool) → leb 1 (cells_of h w) ≡ a → leb 16384 room ≡ b → (a && b) ≡ true → ProbeFit h w room
    go true true p q r = record { size = sized_of (leb-true _ _ p); large = leb-true _ _ q }
    go true false p q r = let z : ◌≡◌ {A = ℕ} 0 1 = cc in absurd (omega arith)
    go false b p q r = let z : ◌≡◌ {A = ℕ} 0 1 = cc in absurd (omega arith)

module _ {h w : ℕ} {m words : List ℕ} where
  pub unfit : probe_fits h w (length m) ≡ false → ProbeAnswered h w m words m 65535
  unfit e = record { memory = rw e; count = rw e }

  pub done : {after : List ℕ} {r : ℕ} → probe_fits h w (length m) ≡ true → WordsWritten m words after r
      → ProbeAnswered h w m words after r
  done e a = record { memory = rw e a.memory; count = rw e a.count }

-- what stands in working memory is handed out: each literal once
pub literals : (bs : List ℕ) {r : List Literal} → Contains (states_in (places_of 1984 bs)) r
    → {m work after : List ℕ} {n k : ℕ} → Wrote (replicate 3968 0) 0 r work n
    → WordsWritten m (take n work) after k → WordsWritten m (map literal_code (once r)) after k
literals bs {r} c w = once-handed (places_of 1984 bs) (places-length 1984 bs) r c w

-- a page's groups
module _ {h w : ℕ} (z : Sized h w) (cs bs : List ℕ) (k : ℕ) where
  abbrev link : ℕ → Bool
  link = joins_in (kind_of k) h w (places_of 1024 cs) (places_of 1984 bs)

  some : 1 ≤ (flat h w).cells
  unfolding flat
  some = (counts z).some

  small : (flat h w).cells ≤ 1024
  unfolding flat
  small = (counts z).cells

  count-is : (kind_groups h w cs bs k).count ≡ group_count (flat h w) link
  unfolding kind_groups groups_of
  count-is = refl

  -- what reasons ask of a group
  pub group-is : {grouping : Grouping} → Filled (kind_groups h w cs bs k) grouping → (g : ℕ) → g < count_in grouping
      → GroupAt h w grouping g
  unfolding kind_groups
  group-is f g l = group_at z link f g (rw f.count at l)

  -- "A number that no group has gives an empty part"
  no-members : (g : ℕ) → (kind_groups h w cs bs k).count ≤ g
      → members (flat h w) (entry (kind_groups h w cs bs k).ids) g ≡ []
  unfolding kind_groups
  no-members g l =
      rw (ids-entry (flat h w) link some small) (members-none (flat h w) link g (omega (arith, count-is)))

  pub no-reason : (side : Side) (g : ℕ) → (kind_groups h w cs bs k).count ≤ g → reason_words h w cs bs k side g ≡ []
  unfolding reason_words inside_in edge_in inside edge flat_map once
  no-reason Wall g l = rw (no-members g l)
  no-reason Open g l = rw (no-members g l)

  -- Inside and Edge hold on their board
  pub reason-held : (side : Side) (g : ℕ)
      → Contains (states_in (places_of 1984 bs))
      (group_reason h w (places_of 1024 cs) (places_of 1984 bs) (kind_groups h w cs bs k).ids side g)
  unfolding inside_in edge_in
  reason-held Wall g = held-edge (unclued h w (places_of 1024 cs)) (bordered z) (states_in (places_of 1984 bs)) _ g
  reason-held Open g = held-inside (unclued h w (places_of 1024 cs)) (bordered z) (states_in (places_of 1984 bs)) _ g

-- so does Path
pub path-held : {h w : ℕ} → Sized h w → (bs : List ℕ) (a b : ℕ)
    → Contains (states_in (places_of 1984 bs)) (path_in h w (places_of 1984 bs) a b)
unfolding path_in flat
path-held {h} {w} z bs a b = go (le-or-lt (h * w) a) (le-or-lt (h * w) b)
  where
    s : ℕ → State
    s = states_in (places_of 1984 bs)

    go : (h * w ≤ a) ⊎ (a < h * w) → (h * w ≤ b) ⊎ (b < h * w) → Contains s (path_in h w (places_of 1984 bs) a b)
    go (inl p) y = rw (path-off-a h w (places_of 1984 bs) a b p) (held-nil (unclued h w []) (bordered z) s)
    go (inr p) (inl q) = rw (path-off-b h w (places_of 1984 bs) a b q) (held-nil (unclued h w []) (bordered z) s)
    go (inr p) (inr q) = held-path (unclued h w []) (bordered z) s a b p q
