-- Laws of survivors: where every connection joins one colour, a placement is that read from the end; elsewhere it
-- cannot lie. So the blockers of the survivors are those of all origins.
--
--   Joins r             the reading r does not end a placement
use Rattle.std.proofs.Math.Path.{◌≡◌, refl, ap, sym}
use Rattle.std.proofs.Common.{◌∙◌, eq-or-lt_of_le, div-lt_iff_lt-mul}
use Rattle.std.specs.Prelude.{Bool, ◌&&◌, List, ◌∷◌, map, eqb}
use Rattle.std.proofs.Math.Bool.{true, false, cond}
use Rattle.std.proofs.Math.Logic.{⊎_elim}
use Rattle.std.proofs.Math.Option.{Option, some, none}
use Prim.Native.Nat.{ℕ, zero, suc, ◌+◌, ◌-◌, ◌*◌, ◌/◌, ◌%◌, ◌<◌, ◌≤◌}
use native.Mathlib.Omega.{arith}
use Rattle.std.proofs.Math.ListN.{get_or}
use Rattle.lists.specs.Lists.{flat_map, range_from}
use Rattle.lists.specs.ListLaws.{mem-flat}
use Rattle.lists.specs.Tests.{all_below}
use Rattle.lists.specs.PaddedLaws.{zeros}
use Rattle.lists.specs.TestLaws.{all-cong, all-at, all-witness}
use Rattle.lists.specs.Booleans.{and_right}
use Rattle.lists.specs.Flats.{flat-same}
use Rattle.lists.specs.Arithmetic.{le-or-lt}
use Rattle.rules.specs.declared.Placement.{Placement}
use Rattle.rules.specs.declared.Placement.TheVariants.{Fits, Blocked, Cannot}
use Rattle.rules.specs.Codes.{states_in, unclued}
use Rattle.rules.specs.Page.{Puzzle, State, is_wall}
use Rattle.rules.specs.Rules.{one_colour}
use Rattle.rules.specs.Check.{laid, blockers}
use Rattle.laws.specs.CodeLaws.{wall-state}
use Rattle.groups.specs.declared.Grouping.{Grouping}
use Rattle.groups.specs.Grouping.{cells_in, starts_in}
use Rattle.groups.specs.Pages.{Drawn}
use Rattle.groups.specs.Parts.{part_of}
use Rattle.shapes.specs.Raising.{ys_in, xs_in, Raised, spelled}
use Rattle.adjacent.specs.Mates.{mates_in, Beside}
use Rattle.planes.specs.declared.Reading.{Reading}
use Rattle.planes.specs.declared.Reading.TheVariants.{Ends, Clear, Walled}
use Rattle.planes.specs.JudgeLaws.{judged_after, read_at, read_from, laid-after}
use Rattle.planes.specs.Placing.{bare, read_raised, reading_of, is_clear}
use Rattle.planes.specs.PlacingLaws.{off-above, off-left, off-below, off-right}
use Rattle.planes.specs.Laying.{block_at, blocks_among, blocks_beside}
use Rattle.planes.specs.Bits.{bit_at}
use Rattle.planes.specs.FitLaws.{spot-clear, origins-on}
use Rattle.planes.specs.Masks.{Masked, origins_in}
use Rattle.planes.specs.MaskLaws.{place_in, masked-here}
use Rattle.planes.specs.Planes.{planes_of}
use Rattle.planes.specs.WordLaws.{left-bit}
use Rattle.stuck.specs.PlacedLaws.{reads-border}
use Rattle.stuck.specs.Survivors.{On, border_at, wall_of, no_walls, Survived, Lain, blocker_of, back_of, placed_at}
use Rattle.stuck.specs.Survivors.{block_in}

-- readings with and without walls
abbrev Joins : Reading → Type 0
Joins Ends = ⊥
Joins Clear = Unit {0}
Joins (Walled b) = Unit {0}

no-wall : (b : ℕ) → is_wall (states_in no_walls b) ≡ false
unfolding states_in
no-wall b = wall-state (get_or no_walls b 0) ∙ ap (λ (v : ℕ). eqb v 1) (zeros 1984 b)

module _ (Z : Puzzle) (s : ℕ → State) where
  ends-both : (o : Option ℕ) → is_clear (reading_of Z (states_in no_walls) o) ≡ false → reading_of Z s o ≡ Ends
  unfolding reading_of
  ends-both none e = refl
  ends-both (some b) e = go (one_colour Z b) (rw (no-wall b) at e)
    where
      go : (t : Bool) → is_clear (cond t Clear Ends) ≡ false
          → cond t (cond (is_wall (s b)) (Walled b) Clear) Ends ≡ Ends
      go true e = let z : ◌≡◌ {A = ℕ} 0 1 = cc in absurd (omega arith)
      go false e = refl

  joins-both : (o : Option ℕ) → is_clear (reading_of Z (states_in no_walls) o) ≡ true → Joins (reading_of Z s o)
  unfolding reading_of
  joins-both none e = let z : ◌≡◌ {A = ℕ} 0 1 = cc in absurd (omega arith)
  joins-both (some b) e = go (one_colour Z b) (is_wall (s b)) (rw (no-wall b) at e)
    where
      go : (t v : Bool) → is_clear (cond t Clear Ends) ≡ true → Joins (cond t (cond v (Walled b) Clear) Ends)
      go true true e = tt
      go true false e = tt
      go false v e = let z : ◌≡◌ {A = ℕ} 0 1 = cc in absurd (omega arith)

-- where the reading does not end the placement, it is that of the border
wall-reads : (Z : Puzzle) (bs : List ℕ) (h w y x : ℕ) {o : Option ℕ} → o ≡ some (border_at h w y x)
    → Joins (reading_of Z (states_in bs) o)
    → reading_of Z (states_in bs) o ≡ cond (wall_of h w bs y x) (Walled (border_at h w y x)) Clear
unfolding reading_of states_in wall_of
wall-reads Z bs h w y x e j =
    let b = border_at h w y x in
    rw (e, wall-state (get_or bs b 0))
    (go (one_colour Z b) (eqb (get_or bs b 0) 1) b (rw (e, wall-state (get_or bs b 0)) at j))
  where
    go : (t v : Bool) (b : ℕ) → Joins (cond t (cond v (Walled b) Clear) Ends)
        → cond t (cond v (Walled b) Clear) Ends ≡ cond v (Walled b) Clear
    go true v b j = refl
    go false v b j = absurd j

-- the readings of m connections from i on, f of each
module _ (f : ℕ → Reading) where
  step-to : (p q : Placement) (i m : ℕ) (r : Reading) → f i ≡ r
      → judged_after p (r ∷ map f (range_from (suc i) m)) ≡ q → judged_after p (map f (range_from i (suc m))) ≡ q
  step-to p q i m r e d = rw e d

  after-ends : (p : Placement) (i m j : ℕ) → i ≤ j → j < i + m → f j ≡ Ends
      → judged_after p (map f (range_from i m)) ≡ Cannot
  unfolding judged_after
  after-ends p i zero j a b e = absurd (omega arith)
  after-ends p i (suc m) j a b e =
      ⊎_elim
      (λ (d : i ≡ j). step-to p Cannot i m Ends (ap f d ∙ e) refl)
      (λ (d : i < j). go (f i) refl d (λ q. after-ends q (suc i) m j (omega arith) (omega arith) e))
      (eq-or-lt_of_le a)
    where
      go : (r : Reading) → f i ≡ r → i < j → ((q : Placement) → judged_after q (map f (range_from (suc i) m)) ≡ Cannot)
          → judged_after p (map f (range_from i (suc m))) ≡ Cannot
      go Ends t d ih = step-to p Cannot i m Ends t refl
      go Clear t d ih = step-to p Cannot i m Clear t (ih p)
      go (Walled b) t d ih = step-to p Cannot i m (Walled b) t (ih (Blocked b))

  after-clear : (p : Placement) (i m : ℕ) → ((x : ℕ) → i ≤ x → x < i + m → f x ≡ Clear)
      → judged_after p (map f (range_from i m)) ≡ p
  unfolding judged_after
  after-clear p i zero h = refl
  after-clear p i (suc m) h =
      step-to p p i m Clear (h i (omega arith) (omega arith))
      (after-clear p (suc i) m (λ x a b. h x (omega arith) (omega arith)))

  after-wall : (p : Placement) (i m j b : ℕ) → i ≤ j → j < i + m → ((x : ℕ) → i ≤ x → x < j → Joins (f x))
      → f j ≡ Walled b → ((x : ℕ) → j < x → x < i + m → f x ≡ Clear)
      → judged_after p (map f (range_from i m)) ≡ Blocked b
  unfolding judged_after
  after-wall p i zero j b a l t e c = absurd (omega arith)
  after-wall p i (suc m) j b a l t e c =
      ⊎_elim
      (λ (d : i ≡ j).
      step-to p (Blocked b) i m (Walled b) (ap f d ∙ e)
      (after-clear (Blocked b) (suc i) m (λ x k q. c x (omega arith) (omega arith))))
      (λ (d : i < j).
      go (f i) refl (t i (omega arith) d)
      (λ q.
      after-wall q (suc i) m j b (omega arith) (omega arith) (λ x k v. t x (omega arith) v) e
      (λ x k v. c x k (omega arith))))
      (eq-or-lt_of_le a)
    where
      go : (r : Reading) → f i ≡ r → Joins r
          → ((q : Placement) → judged_after q (map f (range_from (suc i) m)) ≡ Blocked b)
          → judged_after p (map f (range_from i (suc m))) ≡ Blocked b
      go Ends t j ih = absurd j
      go Clear t j ih = step-to p (Blocked b) i m Clear t (ih p)
      go (Walled d) t j ih = step-to p (Blocked b) i m (Walled d) t (ih (Blocked d))

-- a connection that joins one colour lies on the page
on-page : (h w : ℕ) (cs : List ℕ) (s : ℕ → State) (y x : ℕ)
    → is_clear (reading_of (unclued h w cs) s (read_raised h w y x)) ≡ true → On h w y x
unfolding reading_of
on-page h w cs s y x e =
    ⊎_elim
    (λ (a : 64 ≤ y).
    ⊎_elim
    (λ (b : 64 ≤ x).
    ⊎_elim
    (λ (c : y - 64 ≤ 2 * (h - 1)).
    ⊎_elim
    (λ (d : x - 64 ≤ 2 * (w - 1)). record { top = a; left = b; bottom = c; right = d })
    (λ (d : 2 * (w - 1) < x - 64). off (off-right h w y x a b c d))
    (le-or-lt (x - 64) (2 * (w - 1))))
    (λ (c : 2 * (h - 1) < y - 64). off (off-below h w y x a b c))
    (le-or-lt (y - 64) (2 * (h - 1))))
    (λ (b : x < 64). off (off-left h w y x a b))
    (le-or-lt 64 x))
    (λ (a : y < 64). off (off-above h w y x a))
    (le-or-lt 64 y)
  where
    ends : {o : Option ℕ} → o ≡ none → is_clear (reading_of (unclued h w cs) s o) ≡ false
    ends q = rw q

    off : read_raised h w y x ≡ none → On h w y x
    off q = let f = ends q in let z : ◌≡◌ {A = ℕ} 0 1 = cc in absurd (omega arith)

module _ {h w : ℕ} {cs : List ℕ} (d : Drawn h w cs) (bs ts : List ℕ) (n : ℕ) (r : Raised ts n) where
  abbrev Z : Puzzle
  Z = unclued h w cs

  abbrev s : ℕ → State
  s = states_in bs

  -- a connection with its origin at (y,x), on the page and on the page without walls
  abbrev at : (ℕ → State) → ℕ → ℕ → ℕ → Reading
  at t y x j = reading_of Z t (read_raised h w (2 * y + get_or (ys_in ts) j 0) (2 * x + get_or (xs_in ts) j 0))

  abbrev joined : ℕ → ℕ → Bool
  joined y x = all_below n (λ j. is_clear (at (states_in no_walls) y x j))

  -- read from the end
  module _ (y x : ℕ) (l : y < 32) (t : joined y x ≡ true) where
    one : (j : ℕ) → j < n → is_clear (at (states_in no_walls) y x j) ≡ true
    one j m = all-at n (λ j. is_clear (at (states_in no_walls) y x j)) j t m

    joins : (j : ℕ) → j < n → Joins (at s y x j)
    joins j m = joins-both Z s _ (one j m)

    pub on-all : (j : ℕ) → j < n → On h w (2 * y + get_or (ys_in ts) j 0) (2 * x + get_or (xs_in ts) j 0)
    on-all j m = on-page h w cs (states_in no_walls) _ _ (one j m)

    back_from : (k : ℕ) → k ≤ n → ((i : ℕ) → k ≤ i → i < n → at s y x i ≡ Clear)
        → back_of h w bs ts y x k ≡ judged_after Fits (map (at s y x) (range_from 0 n))
    unfolding back_of
    back_from zero m c = sym (after-clear (at s y x) Fits 0 n (λ i a b. c i a (omega arith)))
    back_from (suc k) m c =
        go (wall_of h w bs (2 * y + get_or (ys_in ts) k 0) (2 * x + get_or (xs_in ts) k 0))
        (wall-reads Z bs h w _ _ (reads-border (on-all k (omega arith))) (joins k (omega arith)))
        (back_from k (omega arith))
      where
        go : (b : Bool)
            → at s y x k
            ≡ cond b (Walled (border_at h w (2 * y + get_or (ys_in ts) k 0) (2 * x + get_or (xs_in ts) k 0))) Clear
            → (((i : ℕ) → k ≤ i → i < n → at s y x i ≡ Clear)
            → back_of h w bs ts y x k ≡ judged_after Fits (map (at s y x) (range_from 0 n)))
            → cond b (Blocked (border_at h w (2 * y + get_or (ys_in ts) k 0) (2 * x + get_or (xs_in ts) k 0)))
            (back_of h w bs ts y x k)
            ≡ judged_after Fits (map (at s y x) (range_from 0 n))
        go false e ih =
            ih
            (λ i a b.
            ⊎_elim
            (λ (q : k ≡ i). ap (at s y x) (sym q) ∙ e)
            (λ (q : k < i). c i q b)
            (eq-or-lt_of_le a))
        go true e ih =
            sym
            (after-wall (at s y x) Fits 0 n k _ (omega arith) (omega arith) (λ i a b. joins i (omega arith)) e
            (λ i a b. c i a (omega arith)))

  -- a placement, by its readings
  laid-at : (o : ℕ) → laid Z s (bare (spelled ts n)) o ≡ judged_after Fits (map (at s (o / w) (o % w)) (range_from 0 n))
  unfolding read_from read_at
  laid-at o =
      let e : n - 0 ≡ n = omega arith in
      laid-after h w cs s ts o n ∙ ap (λ m. judged_after Fits (map (at s (o / w) (o % w)) (range_from 0 m))) e

  cannot : (y x : ℕ) → joined y x ≡ false → judged_after Fits (map (at s y x) (range_from 0 n)) ≡ Cannot
  cannot y x e =
      let q = all-witness n (λ j. is_clear (at (states_in no_walls) y x j)) e in
      after-ends (at s y x) Fits 0 n q.0 (omega arith) (omega (arith, q.1)) (ends-both Z s _ q.2)

  -- the origins of a mask at which every connection joins one colour
  module _ {m rows : List ℕ} (k : Survived (planes_of h w cs no_walls) m h ts n rows) where
    row-bit : (y x : ℕ) → y < h → bit_at (get_or rows y 0) x ≡ bit_at (get_or m y 0) x && joined y x
    row-bit y x l =
        ap (λ (v : ℕ). bit_at v x) (k.each y l)
        ∙ (left-bit (planes_of h w cs no_walls) y ts (get_or m y 0) n x
        ∙ ap (λ (b : Bool). bit_at (get_or m y 0) x && b)
        (all-cong n _ _ (λ j q. spot-clear d no_walls ts n r y x j (omega (arith, d.sized.tall)) q)))

    pub lain : Lain h w rows ts n
    lain =
        record {
          each =
              λ y x a b e.
              on-all y x (omega (arith, d.sized.tall))
              (and_right (bit_at (get_or m y 0) x) (joined y x) (sym (row-bit y x a) ∙ e));
        }

    placed-is : (o : ℕ) → o < h * w → bit_at (get_or m (o / w) 0) (o % w) ≡ true
        → placed_at h w bs rows ts n (o / w) (o % w) ≡ laid Z s (bare (spelled ts n)) o
    unfolding placed_at
    placed-is o l e =
        let a : o / w < h = (div-lt_iff_lt-mul {k = w} (omega (arith, d.sized.columns))).1 l in
        go (bit_at (get_or rows (o / w) 0) (o % w)) (row-bit (o / w) (o % w) a ∙ rw e)
      where
        go : (b : Bool) → b ≡ joined (o / w) (o % w)
            → cond b (back_of h w bs ts (o / w) (o % w) n) Cannot
            ≡ laid Z s (bare (spelled ts n)) o
        go true q =
            back_from (o / w) (o % w) (place_in o d.sized l).0 (sym q) n (omega arith)
            (λ i a b. absurd (omega arith))
            ∙ sym (laid-at o)
        go false q = sym (laid-at o ∙ cannot (o / w) (o % w) (sym q))

blocker-is : (Z : Puzzle) (s : ℕ → State) (p : Placement) → blocker_of p ≡ blockers Z s p
blocker-is Z s Fits = refl
blocker-is Z s Cannot = refl
blocker-is Z s (Blocked b) = refl

-- the blockers at the origins of the groups beside a unit
pub blocks-same : {h w : ℕ} {cs : List ℕ} → Drawn h w cs → (bs ts : List ℕ) (n : ℕ) → Raised ts n
    → {potential : Grouping} {mates : List ℕ} → Beside h w potential mates
    → {m rows : List ℕ} → Masked w (origins_in (cells_in potential) (starts_in potential) (mates_in mates)) m
    → Survived (planes_of h w cs no_walls) m h ts n rows
    → flat_map (λ Q. flat_map (block_in h w bs rows ts n) (part_of (cells_in potential) (starts_in potential) Q))
    (mates_in mates)
    ≡ blocks_beside (unclued h w cs) (states_in bs) (bare (spelled ts n)) (cells_in potential) (starts_in potential)
    (mates_in mates)
unfolding blocks_beside blocks_among block_at block_in origins_in
blocks-same {h} {w} {cs} d bs ts n r {potential} {mates} b k v =
    let cells = cells_in potential in
    let offs = starts_in potential in
    flat-same _ _ (mates_in mates)
    (λ Q i.
    flat-same _ _ (part_of cells offs Q)
    (λ o j.
    let e = mem-flat (part_of cells offs) i j in
    let l = origins-on b o e in
    ap blocker_of (placed-is d bs ts n r v o l (masked-here w o (place_in o d.sized l).0 e k))
    ∙ blocker-is (unclued h w cs) (states_in bs) (laid (unclued h w cs) (states_in bs) (bare (spelled ts n)) o)))
