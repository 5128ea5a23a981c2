-- Laws of a placement as a whole: its connections' readings, one after the other.
use Rattle.std.specs.Prelude.{◌≡◌, Bool, true, false, cond, pos, negsuc, get_or}
use Rattle.std.proofs.Math.Path.{refl, sym, ap, ap₂}
use Rattle.std.proofs.Common.{◌∙◌}
use mathlib.Core.List.{List, [], ◌∷◌, map}
use Rattle.std.proofs.Math.Option.{Option, some, none}
use Prim.Native.Nat.{ℕ, zero, suc, ◌+◌, ◌-◌, ◌*◌, ◌/◌, ◌%◌}
use native.Mathlib.Omega.{arith}
use Rattle.std.proofs.Math.IntN.{+ℤ_assoc}
use Rattle.lists.specs.Lists.{range_from}
use Rattle.rules.specs.declared.Placement.{Placement}
use Rattle.rules.specs.declared.Placement.TheVariants.{Fits, Blocked, Cannot}
use Rattle.rules.specs.Page.{Puzzle, State, Point, Shape, ◌⊕◌, is_wall}
use Rattle.rules.specs.Rules.{one_colour}
use Rattle.rules.specs.Codes.{clued_by, unclued}
use Rattle.rules.specs.Flat.{flat, flat_place, flat_reads}
use Rattle.rules.specs.Check.{judge, by_last_wall, laid, is_fit}
use Rattle.shapes.specs.Raising.{ys_in, xs_in, raised, raised_spot, spelled}
use Rattle.planes.specs.declared.Reading.{Reading}
use Rattle.planes.specs.declared.Reading.TheVariants.{Ends, Clear, Walled}
use Rattle.planes.specs.Placing.{bare, read_raised, reading_of}

-- what readings make of a placement
unfoldable pub judged_after : Placement → List Reading → Placement
judged_after p [] = p
judged_after p (Ends ∷ rs) = Cannot
judged_after p (Clear ∷ rs) = judged_after p rs
judged_after p (Walled b ∷ rs) = judged_after (Blocked b) rs

pub judge-after : (Z : Puzzle) (s : ℕ → State) (last : Option ℕ) (os : List (Option ℕ))
    → judge Z s last os ≡ judged_after (by_last_wall Z s last) (map (reading_of Z s) os)
unfolding judge judged_after reading_of
judge-after Z s last [] = refl
judge-after Z s last (none ∷ os) = refl
judge-after Z s last (some b ∷ os) = go (one_colour Z b) (is_wall (s b)) (λ l. judge-after Z s l os)
  where
    go : (t v : Bool) → ((l : Option ℕ) → judge Z s l os ≡ judged_after (by_last_wall Z s l) (map (reading_of Z s) os))
        → cond t (judge Z s (cond v (some b) last) os) Cannot
        ≡ judged_after (by_last_wall Z s last) (cond t (cond v (Walled b) Clear) Ends ∷ map (reading_of Z s) os)
    go true true ih = ih (some b)
    go true false ih = ih last
    go false v ih = refl

-- a blocked placement never fits
pub blocked-never : (Z : Puzzle) (s : ℕ → State) (b : ℕ) (rs : List Reading) → is_fit Z s (judged_after (Blocked b) rs)
    ≡ false
unfolding judged_after
blocked-never Z s b [] = refl
blocked-never Z s b (Ends ∷ rs) = refl
blocked-never Z s b (Clear ∷ rs) = blocked-never Z s b rs
blocked-never Z s b (Walled d ∷ rs) = blocked-never Z s d rs

-- the raised place of a connection, with the origin added twice
module _ (h w o y x : ℕ) where
  pub place-raised : (flat h w).place o ⊕ (flat h w).place o ⊕ raised y x ≡ raised (2 * (o / w) + y) (2 * (o % w) + x)
  unfolding flat flat_place ◌⊕◌
  place-raised =
      let e : o / w + o / w ≡ 2 * (o / w) = omega arith in
      let f : o % w + o % w ≡ 2 * (o % w) = omega arith in
      rw (
        ← +ℤ_assoc (pos (o / w + o / w)) (pos y) (negsuc 63),
        ← +ℤ_assoc (pos (o % w + o % w)) (pos x) (negsuc 63),
        e,
        f,
      )

-- the readings of a transform's connections
module _ (h w : ℕ) (cs : List ℕ) (s : ℕ → State) (t : List ℕ) (o : ℕ) where
  unfoldable pub read_at : ℕ → Reading
  read_at i =
      reading_of (unclued h w cs) s
      (read_raised h w (2 * (o / w) + get_or (ys_in t) i 0) (2 * (o % w) + get_or (xs_in t) i 0))

  -- those of the last m connections, from i on
  unfoldable pub read_from : ℕ → ℕ → List Reading
  read_from i m = map read_at (range_from i m)

  -- what is read with the origin added twice
  abbrev shifted : Point → Option ℕ
  shifted d = (flat h w).reads ((flat h w).place o ⊕ (flat h w).place o ⊕ d)

  read_one : (i : ℕ) → reading_of (unclued h w cs) s (shifted (raised_spot t i)) ≡ read_at i
  unfolding read_at raised_spot read_raised flat
  read_one i =
      ap (λ (p : Point). reading_of (unclued h w cs) s (flat_reads h w p))
      (place-raised h w o (get_or (ys_in t) i 0) (get_or (xs_in t) i 0))

  reads-from : (i m : ℕ)
      → map (reading_of (unclued h w cs) s) (map shifted (map (raised_spot t) (range_from i m))) ≡ read_from i m
  unfolding read_from
  reads-from i zero = refl
  reads-from i (suc m) = ap₂ (λ (r : Reading) (rs : List Reading). r ∷ rs) (read_one i) (reads-from (suc i) m)

  pub laid-after : (n : ℕ) → laid (unclued h w cs) s (bare (spelled t n)) o ≡ judged_after Fits (read_from 0 (n - 0))
  unfolding laid spelled
  laid-after n =
      let e : n - 0 ≡ n = omega arith in
      judge-after (unclued h w cs) s none _ ∙ rw (e, reads-from 0 n)

-- clues change no placement
module _ (h w : ℕ) (cs : List ℕ) (k : ℕ → Option ℕ) (s : ℕ → State) where
  reading-clue : (o : Option ℕ) → reading_of (clued_by h w cs k) s o ≡ reading_of (unclued h w cs) s o
  unfolding reading_of one_colour
  reading-clue none = refl
  reading-clue (some b) = refl

  pub laid-clue : (t : Shape) (o : ℕ)
      → laid (clued_by h w cs k) s t o ≡ laid (unclued h w cs) s t o
  unfolding laid
  laid-clue t o =
      let os = map (λ d. (flat h w).reads ((flat h w).place o ⊕ (flat h w).place o ⊕ d)) t.connections in
      judge-after (clued_by h w cs k) s none os
      ∙ (λ i. judged_after Fits (map (λ a. reading-clue a i) os))
      ∙ sym (judge-after (unclued h w cs) s none os)
