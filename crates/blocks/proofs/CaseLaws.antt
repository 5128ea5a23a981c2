-- More laws of the definitions, by cases; no answer cites them.
use Rattle.std.specs.Prelude.{◌≡◌, refl, Bool, true, false, ◌||◌, ℕ, ◌+◌, ◌<◌, ◌≤◌, ltb, ℤ, pos, negsuc, nat_abs}
use Rattle.std.specs.Prelude.{Option, None, Some, MatchOption, List, [], ◌∷◌, length, take, get_or, ◌-◌, eqb, T}
use Rattle.std.specs.Bool.{beq}
use mathlib.Core.List.Memᴰ
use Rattle.lists.specs.Lists.{◌∈◌}
use Rattle.lists.specs.ListLaws.{mem-filter}
use Rattle.std.specs.Option.{option_or, is_none, IfSome}
use Rattle.std.specs.Int.Signed.{le_z}
use Rattle.std.proofs.Common.{arith, inl, inr, sym, ◌∙◌, take_all, length-take, get_or-take}
use Rattle.std.proofs.Math.Option.{some, none}
use borrow.Author.Tests.{ne_eqb, lt-ltb, le-ltb, le-leb}
use Rattle.lists.specs.Booleans.{false-true}
use Rattle.rules.specs.Page.{Puzzle, State}
use Rattle.rules.specs.Codes.{clue_of}
use Rattle.rules.specs.Check.{inside_block, edge_of}
use Rattle.blocks.specs.declared.Part.{Part}
use Rattle.blocks.specs.declared.Fault.{Fault}
use Rattle.blocks.specs.declared.Fault.TheVariants.{InsideEdge, Inside, Edge, EdgeInside}
use Rattle.blocks.specs.declared.Faulty.{Faulty}
use Rattle.blocks.specs.declared.Look.{Look}
use Rattle.blocks.specs.declared.Look.TheVariants.{Settled}
use Rattle.blocks.specs.Censuses.{clue_in, next_part}
use Rattle.blocks.specs.Faults.{small_fault, big_fault, clue_fault, fault_reason}
use Rattle.blocks.specs.Faulty.{first_faulty}
use Rattle.blocks.specs.Written.{fault_literals, fault_unit}
use Rattle.blocks.specs.Bounds.{Under, first-wrong}
use Rattle.std.proofs.lemmas.List.{take-take}
use Rattle.lists.specs.Count.{bit}
use Rattle.blocks.specs.Looked.{Shows, CellsLooked}
use Rattle.blocks.specs.Looked.{looked-scan, zero-parted, one-parted, looked-clear, looked-stray, looked-clash}
use Rattle.blocks.specs.Arrays.{Parted, size_in}
use Rattle.blocks.specs.Looks.{Roomy, ColourRoom, zeros-are}
use Rattle.blocks.specs.Censuses.{option_of, of_colour}
use Rattle.blocks.specs.Faults.{scan_on, fault_on}
use Rattle.rules.specs.Codes.{colours_in, clues_in}
use Rattle.rules.specs.Groups.{entry}
use Rattle.rules.specs.Check.{clash}

-- BlockCases: a clue that was read
pub clue-is : (z : ℤ) → le_z (pos 0) z ≡ true → Some (nat_abs z) ≡ clue_in (clue_of z)
clue-is (pos n) e = refl
clue-is (negsuc n) e = let z : ◌≡◌ {A = ℕ} 0 1 = cc in absurd (omega arith)

pub clue-free : (z : ℤ) → le_z (pos 0) z ≡ false → None ≡ clue_in (clue_of z)
clue-free (pos n) e =
    let t : le_z (pos 0) (pos n) ≡ true = le-leb 0 n (omega arith) in
    let z : ◌≡◌ {A = ℕ} 0 1 = cc in absurd (omega arith)
clue-free (negsuc n) e = refl

-- a part's first cell, and a later one
module _ (p : Part) (u : ℕ) (k b : Bool) (e : b ≡ (p.clued || k)) where
  pub part-first : p.size ≡ 0 → record { size = 1; unit = u; clued = b } ≡ next_part p u k
  unfolding next_part
  part-first h = rw (e, h)

  pub part-later : (p.size ≡ 0 → ⊥) → record { size = p.size + 1; unit = p.unit; clued = b } ≡ next_part p u k
  unfolding next_part
  part-later h = rw (e, ne_eqb p.size 0 h)

-- FaultCases: the first fault of two
pub or-clear : (f g : Option Fault) → is_none f ≡ true → g ≡ option_or f g
or-clear None g e = refl
or-clear (Some f) g e = false-true refl e

pub or-fault : (f g : Option Fault) → is_none f ≡ false → f ≡ option_or f g
or-fault None g e = false-true e refl
or-fault (Some f) g e = refl

some_size : (n : ℕ) → (n ≡ 0 → ⊥) → ltb 0 n ≡ true
some_size n h = lt-ltb 0 n (omega arith)

pub small-hit : (mine other : Part) (size : ℕ) → (mine.size ≡ 0 → ⊥) → size < other.size
    → Some (InsideEdge mine.unit) ≡ small_fault mine other size
unfolding small_fault
small-hit mine other size h k = rw (some_size mine.size h, lt-ltb size other.size k)

module _ (n : ℕ) (p : Part) (size : ℕ) where
  pub big-clued : (p.size ≡ 0 → ⊥) → size < n → p.clued ≡ true → Some (Edge p.unit) ≡ big_fault n p size
  unfolding big_fault
  big-clued h k e = rw (some_size p.size h, lt-ltb size n k, e)

  pub big-bare : (p.size ≡ 0 → ⊥) → size < n → p.clued ≡ false → Some (EdgeInside p.unit) ≡ big_fault n p size
  unfolding big_fault
  big-bare h k e = rw (some_size p.size h, lt-ltb size n k, e)

module _ (k : Option ℕ) (p q : Part) (a b : ℕ) where
  pub clue-first : (n : ℕ) → k ≡ Some n → n < p.size → Some Inside ≡ clue_fault k p q a b
  unfolding clue_fault
  clue-first n e h = rw (e, lt-ltb n p.size h)

  pub clue-second : (n : ℕ) → k ≡ Some n → p.size ≤ n → n < q.size → Some Inside ≡ clue_fault k p q a b
  unfolding clue_fault
  clue-second n e g h = rw (e, le-ltb n p.size g, lt-ltb n q.size h)

-- Written, Faulty: the reason of a fault, and of none
module _ (Z : Puzzle) (s : ℕ → State) where
  pub fault-some : (B : ℕ) (f : Fault)
      → fault_reason Z s B (Some f) ≡ some (fault_literals (inside_block Z s B) (edge_of Z s) f)
  unfolding fault_reason
  fault-some B f = refl

  pub faultless-none : (B : ℕ) (f : Option Fault) → is_none f ≡ true → fault_reason Z s B f ≡ none
  unfolding fault_reason
  faultless-none B None e = refl
  faultless-none B (Some f) e = false-true refl e

-- Bounds: what is found names a potential unit below m, as every fault does
pub first-under-all : (f : ℕ → Option Fault) (m n : ℕ) (low : 0 < m) → ((B : ℕ) → Under m low (f B))
    → IfSome (first_faulty f n) (λ r. fault_unit r.fault < m)
first-under-all f m n low u = go (first_faulty f n) refl
  where
    go : (o : Option Faulty) → first_faulty f n ≡ o → IfSome o (λ r. fault_unit r.fault < m)
    go None e = tt
    go (Some r) e = rw (first-wrong f n r e).fault at (u r.block)

-- Looked: a look that settles it promises nothing else
pub settles : (r : Look) {f g : Option Fault} (scan : Option Fault) → r ≡ Settled f → f ≡ g → Shows r g scan
settles r scan e h = rw e h

-- Looked, at any cell: the first i cells are a list of their own, and so are the first of a longer part
module _ {cs : List ℕ} {ks : List ℤ} {ids cells : List ℕ} {i : ℕ} {own : List (Option ℕ)} {k : Option ℕ} {n : ℕ}
    (s : CellsLooked cs ks ids cells i own k n) where
  pub looked-front : CellsLooked cs ks ids (take i cells) (length (take i cells)) own k n
  looked-front =
      record { two = s.two; seen = rw (take_all (length (take i cells)) (take i cells) (omega arith)) s.seen }

  pub scan-front : scan_on (colours_in cs) (clues_in ks) (entry ids) (take i cells) ≡ None
  scan-front = looked-scan looked-front

  pub zero-front : (offs : List ℕ) → Parted ids offs
      → MatchOption (get_or own 0 None) (length (take i cells) - n ≡ 0)
      (λ u. (u < 1024) × (get_or offs u 0 ≤ get_or offs (u + 1) 0))
  zero-front = zero-parted looked-front

  pub one-front : (offs : List ℕ) → Parted ids offs
      → MatchOption (get_or own 1 None) (n ≡ 0) (λ u. (u < 1024) × (get_or offs u 0 ≤ get_or offs (u + 1) 0))
  one-front = one-parted looked-front

  pub clear-front : (offs : List ℕ) → Roomy (length (take i cells) - n) n k (get_or own 0 None) (size_in offs)
      → Roomy n (length (take i cells) - n) k (get_or own 1 None) (size_in offs)
      → None ≡ fault_on (colours_in cs) (clues_in ks) (entry ids) (size_in offs) (take i cells)
  clear-front = looked-clear looked-front

  -- a colour that has a potential unit has cells, so that one with room or without cells has room
  some-cells : (c : Bool) (u : ℕ) → get_or own (bit c) None ≡ Some u
      → length (of_colour (colours_in cs) (clues_in ks) (entry ids) c (take i cells)) ≡ 0 → ⊥
  unfolding of_colour
  some-cells c u e z =
      let r = s.seen.owned.firsts c u e in
      not-none _ r.0 (mem-filter (λ x. beq (colours_in cs x) c) (take i cells) r.1 (rw r.2 (itself c))) z
    where
      not-none : (ys : List ℕ) (y : ℕ) → y ∈ ys → length ys ≡ 0 → ⊥
      not-none [] y m e = Memᴰ.not-nil m
      not-none (x ∷ xs) y m e = omega arith

      itself : (b : Bool) → T (beq b b)
      itself true = tt
      itself false = tt

  room-front : (offs : List ℕ) (c : Bool) (m o : ℕ)
      → m ≡ length (of_colour (colours_in cs) (clues_in ks) (entry ids) c (take i cells))
      → MatchOption (get_or own (bit c) None) (m ≡ 0) (λ u. ColourRoom m o k (size_in offs u))
      → Roomy m o k (get_or own (bit c) None) (size_in offs)
  room-front offs c m o e r = go (get_or own (bit c) None) refl r
    where
      go : (q : Option ℕ) → get_or own (bit c) None ≡ q
          → MatchOption q (m ≡ 0) (λ u. ColourRoom m o k (size_in offs u)) → Roomy m o k q (size_in offs)
      go None f r = r
      go (Some u) f (inl z) = absurd (some-cells c u f (sym e ∙ z))
      go (Some u) f (inr r) = r

  pub clear-room : (offs : List ℕ)
      → MatchOption (get_or own 0 None) (length (take i cells) - n ≡ 0)
      (λ u. ColourRoom (length (take i cells) - n) n k (size_in offs u))
      → MatchOption (get_or own 1 None) (n ≡ 0) (λ u. ColourRoom n (length (take i cells) - n) k (size_in offs u))
      → None ≡ fault_on (colours_in cs) (clues_in ks) (entry ids) (size_in offs) (take i cells)
  clear-room offs r q =
      clear-front offs
      (room-front offs false _ _ (zeros-are (colours_in cs) (clues_in ks) (entry ids) s.seen) r)
      (room-front offs true _ _ s.seen.count q)

  pub looked-within : (to : ℕ) → i ≤ to → CellsLooked cs ks ids (take to cells) i own k n
  looked-within to h = record { two = s.two; seen = rw (take-take i to cells h) s.seen }

  module _ (c to : ℕ) (h : i < to) (l : to ≤ length cells) (e : c ≡ get_or cells i 0) (offs : List ℕ) where
    here : i < length (take to cells)
    here = simp length-take (omega arith)

    same : c ≡ get_or (take to cells) i 0
    same = e ∙ sym (get_or-take to cells i 0 h)

    pub stray-within :
        clash (option_of (get_or own (bit (eqb (get_or cs c 0) 1)) None)) (option_of (Some (get_or ids c 0))) ≡ true
        → Some (InsideEdge (get_or ids c 0))
        ≡ fault_on (colours_in cs) (clues_in ks) (entry ids) (size_in offs) (take to cells)
    stray-within p = looked-stray (looked-within to (omega arith)) c here same offs p

    pub clash-within :
        clash (option_of (get_or own (bit (eqb (get_or cs c 0) 1)) None)) (option_of (Some (get_or ids c 0))) ≡ false
        → clash (option_of k) (clues_in ks c) ≡ true
        → Some Inside ≡ fault_on (colours_in cs) (clues_in ks) (entry ids) (size_in offs) (take to cells)
    clash-within p f = looked-clash (looked-within to (omega arith)) c here same offs p f
