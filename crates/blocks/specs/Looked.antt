-- One look at a list of cells, over the arrays of a board.
--
--   kept_of u           the potential unit u that is kept of a colour; none for 1,024
--   Shows l f g         what a look l promises of cells with the fault f, of which the scan finds g
--   CellsLooked         what was seen of the first i cells
--   OwnPut u own j after  the potential unit u stands at j in own, or is put there where there was none
--   look_none, look-more  of no cell, and of one cell more
--   looked-stray, looked-clash  the fault of the whole list, where the look ends at a cell
--   looked-scan         no cell that was seen has a fault
--   looked-clear        nothing is wrong, where both colours have room
use Rattle.std.specs.Prelude.{◌≡◌, refl, Bool, false, List, [], ◌∷◌, ◌++◌, ℕ, ◌+◌, ◌-◌, ◌<◌, ◌≤◌, eqb, ℤ, get_or}
use Rattle.std.specs.Prelude.{Option, None, Some, MatchOption, ◌⊎◌, cond, map, set, take, drop}
use Rattle.std.proofs.lemmas.Option.{none-some, same_Some}
use Rattle.std.proofs.Math.Option.{Option as Maybe, some, none}
use Rattle.std.proofs.Common.{inl, inr, ne_eqb, sym, ◌∙◌, arith, add-one, length-take, drop-cons, take_all}
use Rattle.std.proofs.lemmas.List.{take_more, take-append-drop, length-set, set-get_or, get_or-map, map-set, length-map}
use Rattle.std.proofs.Math.Path.{ap}
use Rattle.std.proofs.Math.Bool.{true}
use Rattle.std.proofs.Math.Nat.{le_trans}
use mir.Val.{bool_byte}
use Rattle.std.proofs.Math.ListN.{length}
use Rattle.lists.specs.Filters.{length-filter}
use Rattle.lists.specs.Count.{bit}
use Rattle.rules.specs.Codes.{colours_in, clues_in}
use Rattle.rules.specs.Groups.{entry}
use Rattle.rules.specs.Check.{clash}
use Rattle.blocks.specs.declared.Fault.{Fault}
use Rattle.blocks.specs.declared.Fault.TheVariants.{InsideEdge, Inside}
use Rattle.blocks.specs.declared.Look.{Look}
use Rattle.blocks.specs.declared.Look.TheVariants.{Settled, Unsure}
use Rattle.blocks.specs.Arrays.{Parted, size_in}
use Rattle.blocks.specs.Scan.{clash-self}
use Rattle.blocks.specs.Censuses.{option_of, clue_in, of_colour}
use Rattle.blocks.specs.Faults.{scan_on, fault_on}
use Rattle.blocks.specs.FaultCases.{own-parted}
use Rattle.blocks.specs.Looks.{ClueKept, same_kept, Roomy, Owned, Seen, seen_none, owned-more, own-found, own-none}
use Rattle.blocks.specs.Looks.{seen_more, seen-stray, seen-clash, seen-scan, zeros-are, seen-clear}

abbrev pub kept_of : ℕ → Option ℕ
kept_of u = cond (eqb u 1024) None (Some u)

abbrev pub Shows : Look → Option Fault → Option Fault → Type 0
Shows (Settled f) g scan = f ≡ g
Shows Unsure g scan = scan ≡ None

pub record CellsLooked (cs : List ℕ) (ks : List ℤ) (ids cells : List ℕ) (i : ℕ) (own : List (Option ℕ))
    (k : Option ℕ) (n : ℕ) : Type 0 where
  pub two : length own ≡ 2
  pub seen : Seen (colours_in cs) (clues_in ks) (entry ids) (take i cells) own k n

pub look_none : (cs : List ℕ) (ks : List ℤ) (ids cells : List ℕ)
    → CellsLooked cs ks ids cells 0 (None ∷ None ∷ []) None 0
look_none cs ks ids cells = record { two = refl; seen = seen_none (colours_in cs) (clues_in ks) (entry ids) }

pub byte-bit : (b : Bool) → bool_byte b ≡ bit b
byte-bit true = refl
byte-bit false = refl

pub kept-long : (own : List ℕ) → length (map kept_of own) ≡ 2 → length own ≡ 2
kept-long own e = sym (length-map own kept_of) ∙ e

-- the potential unit that own, with 1,024 for none, has at j
abbrev pub OwnPut : ℕ → List ℕ → ℕ → List ℕ → Type 0
OwnPut u own j after = ((after ≡ own) × (get_or own j 0 ≡ u)) ⊎ ((after ≡ set own j u) × (get_or own j 0 ≡ 1024))

module _ (own : List ℕ) (j : ℕ) (l : j < length own) where
  pub kept-at : get_or (map kept_of own) j None ≡ kept_of (get_or own j 0)
  kept-at = get_or-map kept_of own j 0 None l

  module _ (u : ℕ) (few : u < 1024) where
    kept-unit : kept_of u ≡ Some u
    kept-unit = rw (ne_eqb u 1024 (λ e. omega arith))

    pub other-kept : (get_or own j 0 ≡ u → ⊥) → (get_or own j 0 ≡ 1024 → ⊥)
        → clash (option_of (get_or (map kept_of own) j None)) (option_of (Some u)) ≡ true
    other-kept a b = rw (kept-at, ne_eqb (get_or own j 0) 1024 b, ne_eqb (get_or own j 0) u a)

    pub same-kept : (after : List ℕ) → OwnPut u own j after
        → clash (option_of (get_or (map kept_of own) j None)) (option_of (Some u)) ≡ false
    same-kept after (inl p) = rw (kept-at, p.1, kept-unit) (clash-self (some u))
    same-kept after (inr p) = rw (kept-at, p.1)

    pub own-set : (after : List ℕ) → OwnPut u own j after → map kept_of after ≡ set (map kept_of own) j (Some u)
    own-set after (inl p) =
        rw p.0 (sym (set-get_or (map kept_of own) j None) ∙ ap (set (map kept_of own) j) (kept-at ∙ rw p.1 kept-unit))
    own-set after (inr p) = rw p.0 (map-set kept_of own j u ∙ ap (set (map kept_of own) j) kept-unit)

-- the clue that is kept where the next cell has one, and where it has none
pub kept-clue : (o : Maybe ℕ) (k : Option ℕ) (n : ℕ) → Some n ≡ clue_in o
    → clash (option_of k) (option_of (Some n)) ≡ false → ClueKept k o (Some n)
kept-clue none k n e f = absurd (none-some n (sym e))
kept-clue (some m) k n e f = rw (← same_Some n m e) (go k f)
  where
    go : (j : Option ℕ) → clash (option_of j) (some n) ≡ false → ClueKept j (some n) (Some n)
    go None g = (refl, refl)
    go (Some j) g = (ap Some (sym (same_kept j n g)), g)

pub kept-none : (o : Maybe ℕ) (k : Option ℕ) → None ≡ clue_in o → ClueKept k o k
kept-none none None e = (refl, refl)
kept-none none (Some n) e = (refl, refl)
kept-none (some m) k e = absurd (none-some m e)

-- and where the next cell's clash
pub kept-clash : (o : Maybe ℕ) (k : Option ℕ) (n : ℕ) → Some n ≡ clue_in o
    → clash (option_of k) (option_of (Some n)) ≡ true → clash (option_of k) o ≡ true
kept-clash none k n e f = absurd (none-some n (sym e))
kept-clash (some m) k n e f = rw (← same_Some n m e) f

module _ {cs : List ℕ} {ks : List ℤ} {ids cells : List ℕ} {i : ℕ} {own : List (Option ℕ)} {k : Option ℕ} {n : ℕ}
    (s : CellsLooked cs ks ids cells i own k n) where
  -- the next cell
  module _ (c : ℕ) (l : i < length cells) (e : c ≡ get_or cells i 0) where
    -- the potential unit that is kept of its colour
    abbrev kept : Option ℕ
    kept = get_or own (bit (eqb (get_or cs c 0) 1)) None

    owned : clash (option_of kept) (option_of (Some (get_or ids c 0))) ≡ false
        → Owned (colours_in cs) (clues_in ks) (entry ids) (take i cells ++ (c ∷ []))
        (set own (bit (eqb (get_or cs c 0) 1)) (Some (get_or ids c 0)))
    unfolding colours_in entry
    owned p = owned-more (colours_in cs) (clues_in ks) (entry ids) s.seen.owned c s.two p

    pub look-more : (first : Option ℕ)
        → clash (option_of kept) (option_of (Some (get_or ids c 0))) ≡ false
        → ClueKept k (clues_in ks c) first
        → CellsLooked cs ks ids cells (i + 1) (set own (bit (eqb (get_or cs c 0) 1)) (Some (get_or ids c 0))) first
        (n + bit (eqb (get_or cs c 0) 1))
    unfolding colours_in
    look-more first p q =
        record {
          two = simp length-set s.two;
          seen = rw (take_more cells i 0 l, ← e)
              (seen_more (colours_in cs) (clues_in ks) (entry ids) s.seen c _ first (owned p) q);
        }

    -- where something is wrong at it, that is the fault of the whole list
    module _ (offs : List ℕ) where
      whole : cells ≡ take i cells ++ (c ∷ drop (i + 1) cells)
      whole = sym (take-append-drop i cells) ∙ ap (λ zs. take i cells ++ zs) (rw (e, add-one i) (drop-cons cells i 0 l))

      pub looked-stray : clash (option_of kept) (option_of (Some (get_or ids c 0))) ≡ true
          → Some (InsideEdge (get_or ids c 0))
          ≡ fault_on (colours_in cs) (clues_in ks) (entry ids) (size_in offs) cells
      unfolding colours_in entry
      looked-stray p =
          seen-stray (colours_in cs) (clues_in ks) (entry ids) s.seen (size_in offs) c (drop (i + 1) cells) p
          ∙ ap (fault_on (colours_in cs) (clues_in ks) (entry ids) (size_in offs)) (sym whole)

      pub looked-clash : clash (option_of kept) (option_of (Some (get_or ids c 0))) ≡ false
          → clash (option_of k) (clues_in ks c) ≡ true
          → Some Inside ≡ fault_on (colours_in cs) (clues_in ks) (entry ids) (size_in offs) cells
      looked-clash p f =
          seen-clash (colours_in cs) (clues_in ks) (entry ids) s.seen (size_in offs) c (drop (i + 1) cells) (owned p) f
          ∙ ap (fault_on (colours_in cs) (clues_in ks) (entry ids) (size_in offs)) (sym whole)

  pub looked-few : n ≤ i
  unfolding of_colour
  looked-few =
      let few : length (take i cells) ≤ i = simp length-take (omega arith) in
      let l : length (of_colour (colours_in cs) (clues_in ks) (entry ids) true (take i cells)) ≤ i =
      le_trans (length-filter _ (take i cells)) few in
      omega (arith, s.seen.count)

-- at the end
module _ {cs : List ℕ} {ks : List ℤ} {ids cells : List ℕ} {own : List (Option ℕ)} {k : Option ℕ} {n : ℕ}
    (s : CellsLooked cs ks ids cells (length cells) own k n) where
  seen_all : Seen (colours_in cs) (clues_in ks) (entry ids) cells own k n
  seen_all = rw (take_all (length cells) cells (omega arith)) at s.seen

  pub looked-scan : scan_on (colours_in cs) (clues_in ks) (entry ids) cells ≡ None
  looked-scan = seen-scan (colours_in cs) (clues_in ks) (entry ids) seen_all

  -- a colour of which there are cells has a potential unit, with a size
  parted : (offs : List ℕ) → Parted ids offs → (c : Bool) (m : ℕ)
      → m ≡ length (of_colour (colours_in cs) (clues_in ks) (entry ids) c cells)
      → MatchOption (get_or own (bit c) None) (m ≡ 0)
      (λ u. (u < 1024) × (get_or offs u 0 ≤ get_or offs (u + 1) 0))
  parted offs p c m e = go (get_or own (bit c) None) refl
    where
      go : (q : Option ℕ) → get_or own (bit c) None ≡ q
          → MatchOption q (m ≡ 0) (λ u. (u < 1024) × (get_or offs u 0 ≤ get_or offs (u + 1) 0))
      go None f = e ∙ own-none (colours_in cs) (clues_in ks) (entry ids) seen_all.owned c f
      go (Some u) f =
          rw (own-found (colours_in cs) (clues_in ks) (entry ids) seen_all.owned [] c u f) at
          (own-parted (colours_in cs) (clues_in ks) ids offs (cells ++ []) p c)

  pub zero-parted : (offs : List ℕ) → Parted ids offs
      → MatchOption (get_or own 0 None) (length cells - n ≡ 0)
      (λ u. (u < 1024) × (get_or offs u 0 ≤ get_or offs (u + 1) 0))
  zero-parted offs p = parted offs p false _ (zeros-are (colours_in cs) (clues_in ks) (entry ids) seen_all)

  pub one-parted : (offs : List ℕ) → Parted ids offs
      → MatchOption (get_or own 1 None) (n ≡ 0) (λ u. (u < 1024) × (get_or offs u 0 ≤ get_or offs (u + 1) 0))
  one-parted offs p = parted offs p true _ seen_all.count

  -- nothing is wrong where both colours have room
  pub looked-clear : (offs : List ℕ) → Roomy (length cells - n) n k (get_or own 0 None) (size_in offs)
      → Roomy n (length cells - n) k (get_or own 1 None) (size_in offs)
      → None ≡ fault_on (colours_in cs) (clues_in ks) (entry ids) (size_in offs) cells
  looked-clear offs r q = seen-clear (colours_in cs) (clues_in ks) (entry ids) seen_all (size_in offs) r q
