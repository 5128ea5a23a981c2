-- Faults: what step 1 finds wrong with a block, by numbers alone, and the reason that goes with it.
--
--   first_fault f xs      the first fault that f gives
--   scan_fault q n c u k  the fault at a cell of colour c, potential unit u and clue k
--   small_fault p o size  the fault where the potential unit of the part p, of this size, is smaller than the other
--                         part o
--   big_fault n p size    the fault where the clue n is above the size of the part p's potential unit
--   clue_fault k p o a b  the fault of the clue k; p and o are the two parts, a and b the sizes of their potential
--                         units
--   census_fault t a b    the fault that a census shows; a and b are the sizes of the two potential units
--   cell_fault q n x      the fault at cell x
--   scan_on xs            the first fault at one of the cells xs
--   fault_on size_at xs   the fault of the cells xs
--   fault_reason B f      the reason of block B with the fault f, if there is one
--   block_fault B         the fault of block B
--   block-fault           step 1's hit at block B is the reason of its fault
use Rattle.std.specs.Prelude.{◌≡◌, Bool, not, ◌&&◌, ◌||◌, ℕ, eqb, length, Option, None, Some}
use Rattle.std.specs.Option.{option_or}
use Rattle.std.proofs.Math.Path.{refl, sym, ap}
use Rattle.std.proofs.Common.{◌∙◌, arith, lt-ltb}
use Rattle.std.proofs.Math.Bool.{true, false, cond}
use mathlib.Core.List.{List, [], ◌∷◌, ◌++◌, append-nil}
use Rattle.std.proofs.Math.Option.{Option as Maybe, some, none}
use Rattle.std.proofs.Math.Dec.{ltb}
use Rattle.lists.specs.Lists.{any, first_hit, or_else, head?}
use Rattle.rules.specs.Page.{Puzzle, State}
use Rattle.rules.specs.Groups.{members, block_of, potential_of}
use Rattle.rules.specs.Check.{Reason, hit_if, is_some, clash, block_clue, inside_block, edge_of, size_of, coloured}
use Rattle.rules.specs.Check.{small_hit}
use Rattle.rules.specs.Check.{big_hit, clue_hit, block_hit_on, block_hit}
use Rattle.blocks.specs.declared.Part.{Part}
use Rattle.blocks.specs.declared.Census.{Census}
use Rattle.blocks.specs.declared.Fault.{Fault}
use Rattle.blocks.specs.declared.Fault.TheVariants.{InsideEdge, Inside, Edge, EdgeInside}
use Rattle.blocks.specs.Written.{fault_literals}
use Rattle.blocks.specs.Scan.{scan_hit, scan-cells}
use Rattle.blocks.specs.Censuses.{first_in, clue_in, of_colour, colour_unit, has_clue, colour_part, census_of}

unfoldable pub first_fault : (ℕ → Option Fault) → List ℕ → Option Fault
first_fault f [] = None
first_fault f (x ∷ xs) = option_or (f x) (first_fault f xs)

-- q gives the potential unit of the block's first cell of each colour, n is its first clue
unfoldable pub scan_fault : (Bool → ℕ) → Maybe ℕ → Bool → ℕ → Maybe ℕ → Option Fault
scan_fault q n c u k = cond (eqb (q c) u) (cond (clash n k) (Some Inside) None) (Some (InsideEdge u))

unfoldable pub small_fault : Part → Part → ℕ → Option Fault
small_fault mine other size = cond (ltb 0 mine.size && ltb size other.size) (Some (InsideEdge mine.unit)) None

unfoldable pub big_fault : ℕ → Part → ℕ → Option Fault
big_fault n p size =
    cond (ltb 0 p.size && ltb size n) (Some (cond p.clued (Edge p.unit) (EdgeInside p.unit))) None

unfoldable pub clue_fault : Option ℕ → Part → Part → ℕ → ℕ → Option Fault
clue_fault None p q a b = None
clue_fault (Some n) p q a b =
    cond (ltb n p.size || ltb n q.size) (Some Inside) (option_or (big_fault n p a) (big_fault n q b))

unfoldable pub census_fault : Census → ℕ → ℕ → Option Fault
census_fault t a b =
    option_or (small_fault t.zero t.one a)
    (option_or (small_fault t.one t.zero b) (clue_fault t.clue t.zero t.one a b))

-- unit_at gives a cell's potential unit, size_at the size of one
module _ (colour_at : ℕ → Bool) (clue_at : ℕ → Maybe ℕ) (unit_at : ℕ → ℕ) where
  unfoldable pub cell_fault : (Bool → ℕ) → Maybe ℕ → ℕ → Option Fault
  cell_fault q n x = scan_fault q n (colour_at x) (unit_at x) (clue_at x)

  unfoldable pub scan_on : List ℕ → Option Fault
  scan_on xs = first_fault (cell_fault (colour_unit colour_at clue_at unit_at xs) (block_clue clue_at xs)) xs

  unfoldable pub fault_on : (ℕ → ℕ) → List ℕ → Option Fault
  fault_on size_at xs =
      option_or (scan_on xs)
      (census_fault (census_of colour_at clue_at unit_at xs)
      (size_at (colour_unit colour_at clue_at unit_at xs false))
      (size_at (colour_unit colour_at clue_at unit_at xs true)))

module _ (Z : Puzzle) (s : ℕ → State) where
  unfoldable pub fault_reason : ℕ → Option Fault → Maybe Reason
  fault_reason B None = none
  fault_reason B (Some f) = some (fault_literals (inside_block Z s B) (edge_of Z s) f)

  unfoldable pub block_fault : ℕ → Option Fault
  block_fault B =
      fault_on Z.colour Z.clue (potential_of Z s) (size_of Z s) (members Z.page (block_of Z s) B)

  -- ---- laws

  abbrev own : List ℕ → Bool → ℕ
  own xs c = colour_unit Z.colour Z.clue (potential_of Z s) xs c

  abbrev part : Bool → List ℕ → Part
  part c xs = colour_part Z.colour Z.clue (potential_of Z s) c xs

  abbrev fault_at : List ℕ → ℕ → Option Fault
  fault_at xs x =
      cell_fault Z.colour Z.clue (potential_of Z s) (own xs) (block_clue Z.clue xs) x

  pub or-reason : (B : ℕ) (f g : Option Fault)
      → fault_reason B (option_or f g) ≡ or_else (fault_reason B f) (fault_reason B g)
  unfolding fault_reason or_else
  or-reason B None g = refl
  or-reason B (Some f) g = refl

  scan-reason : (B : ℕ) (xs : List ℕ) (x : ℕ)
      → scan_hit Z s B (own xs) (block_clue Z.clue xs) x ≡ fault_reason B (fault_at xs x)
  unfolding scan_hit cell_fault scan_fault fault_reason fault_literals or_else hit_if
  scan-reason B xs x =
      go (eqb (own xs (Z.colour x)) (potential_of Z s x)) (clash (block_clue Z.clue xs) (Z.clue x))
    where
      go : (b d : Bool)
          → or_else (hit_if (not b) (inside_block Z s B ++ edge_of Z s (potential_of Z s x)))
          (hit_if d (inside_block Z s B))
          ≡ fault_reason B (cond b (cond d (Some Inside) None) (Some (InsideEdge (potential_of Z s x))))
      go true true = refl
      go true false = refl
      go false d = refl

  first-reason : (B : ℕ) (g : ℕ → Maybe Reason) (f : ℕ → Option Fault) → ((x : ℕ) → g x ≡ fault_reason B (f x))
      → (xs : List ℕ) → first_hit g xs ≡ fault_reason B (first_fault f xs)
  unfolding first_hit first_fault fault_reason
  first-reason B g f e [] = refl
  first-reason B g f e (x ∷ xs) =
      rw (e x, first-reason B g f e xs) (sym (or-reason B (f x) (first_fault f xs)))

  size_is : (c : Bool) (xs : List ℕ) → length (coloured Z s c xs) ≡ (part c xs).size
  unfolding colour_part of_colour coloured
  size_is c xs = refl

  else-else : (a b c : Maybe Reason) → or_else (or_else a (or_else b none)) c ≡ or_else a (or_else b c)
  unfolding or_else
  else-else (some r) b c = refl
  else-else none (some r) c = refl
  else-else none none c = refl

  else-none : (a b : Maybe Reason) → or_else a (or_else b none) ≡ or_else a b
  unfolding or_else
  else-none (some r) b = refl
  else-none none (some r) = refl
  else-none none none = refl

  small-reason : (B : ℕ) (xs : List ℕ) (c : Bool) (other : Part) → length (coloured Z s (not c) xs) ≡ other.size
      → small_hit Z s B xs c (head? (coloured Z s c xs))
      ≡ fault_reason B (small_fault (part c xs) other (size_of Z s (own xs c)))
  unfolding small_fault colour_part colour_unit of_colour coloured fault_reason fault_literals hit_if small_hit
  small-reason B xs c other e = go (coloured Z s c xs)
    where
      at : (b : Bool) (u : ℕ)
          → hit_if b (inside_block Z s B ++ edge_of Z s u) ≡ fault_reason B (cond b (Some (InsideEdge u)) None)
      at true u = refl
      at false u = refl

      go : (ys : List ℕ)
          → small_hit Z s B xs c (head? ys)
          ≡ fault_reason B
          (cond (ltb 0 (length ys) && ltb (size_of Z s (first_in (potential_of Z s) ys)) other.size)
          (Some (InsideEdge (first_in (potential_of Z s) ys)))
          None)
      go [] = refl
      go (y ∷ ys) =
          rw (e, lt-ltb 0 (length (y ∷ ys)) (omega arith))
          (at (ltb (size_of Z s (potential_of Z s y)) other.size) (potential_of Z s y))

  big-reason : (B n : ℕ) (xs : List ℕ) (c : Bool)
      → big_hit Z s B xs n c (head? (coloured Z s c xs))
      ≡ fault_reason B (big_fault n (part c xs) (size_of Z s (own xs c)))
  unfolding big_fault colour_part colour_unit of_colour coloured fault_reason fault_literals hit_if big_hit has_clue
  big-reason B n xs c = go (coloured Z s c xs) refl
    where
      at : (b d : Bool) (u : ℕ)
          → hit_if b (edge_of Z s u ++ cond d [] (inside_block Z s B))
          ≡ fault_reason B (cond b (Some (cond d (Edge u) (EdgeInside u))) None)
      at true true u = ap some (append-nil (edge_of Z s u))
      at true false u = refl
      at false d u = refl

      go : (ys : List ℕ) → coloured Z s c xs ≡ ys
          → big_hit Z s B xs n c (head? ys)
          ≡ fault_reason B
          (cond (ltb 0 (length ys) && ltb (size_of Z s (first_in (potential_of Z s) ys)) n)
          (Some
          (cond (any (λ y. is_some (Z.clue y)) ys)
          (Edge (first_in (potential_of Z s) ys))
          (EdgeInside (first_in (potential_of Z s) ys))))
          None)
      go [] e = refl
      go (y ∷ ys) e =
          rw (e, lt-ltb 0 (length (y ∷ ys)) (omega arith))
          (at (ltb (size_of Z s (potential_of Z s y)) n) (any (λ z. is_some (Z.clue z)) (y ∷ ys)) (potential_of Z s y))

  big_at : List ℕ → ℕ → Bool → Option Fault
  big_at xs n c = big_fault n (part c xs) (size_of Z s (own xs c))

  big-pair : (B n : ℕ) (xs : List ℕ)
      → first_hit (λ c. big_hit Z s B xs n c (head? (coloured Z s c xs))) (false ∷ true ∷ [])
      ≡ fault_reason B (option_or (big_at xs n false) (big_at xs n true))
  unfolding first_hit big_at
  big-pair B n xs =
      rw (big-reason B n xs false, big-reason B n xs true)
      (else-none (fault_reason B (big_at xs n false)) (fault_reason B (big_at xs n true))
      ∙ sym (or-reason B (big_at xs n false) (big_at xs n true)))

  clue-reason : (B : ℕ) (xs : List ℕ) (o : Maybe ℕ)
      → clue_hit Z s B xs o
      ≡ fault_reason B
      (clue_fault (clue_in o) (part false xs) (part true xs)
      (size_of Z s (own xs false))
      (size_of Z s (own xs true)))
  unfolding clue_hit clue_fault big_at fault_reason fault_literals hit_if or_else colour_part of_colour coloured
  clue-reason B xs none = refl
  clue-reason B xs (some n) = go (ltb n (length (coloured Z s false xs)) || ltb n (length (coloured Z s true xs)))
    where
      go : (b : Bool)
          → or_else (hit_if b (inside_block Z s B))
          (first_hit (λ c. big_hit Z s B xs n c (head? (coloured Z s c xs))) (false ∷ true ∷ []))
          ≡ fault_reason B (cond b (Some Inside) (option_or (big_at xs n false) (big_at xs n true)))
      go true = refl
      go false = big-pair B n xs

  small_at : List ℕ → Bool → Option Fault
  small_at xs c = small_fault (part c xs) (part (not c) xs) (size_of Z s (own xs c))

  small-pair : (B : ℕ) (xs : List ℕ) (rest : Maybe Reason)
      → or_else (first_hit (λ c. small_hit Z s B xs c (head? (coloured Z s c xs))) (false ∷ true ∷ [])) rest
      ≡ or_else (fault_reason B (small_at xs false)) (or_else (fault_reason B (small_at xs true)) rest)
  unfolding first_hit small_at
  small-pair B xs rest =
      rw (
        small-reason B xs false (part true xs) (size_is true xs),
        small-reason B xs true (part false xs) (size_is false xs),
      )
      (else-else (fault_reason B (small_at xs false)) (fault_reason B (small_at xs true)) rest)

  pub block_on : (B : ℕ) (xs : List ℕ)
      → block_hit_on Z s B xs ≡ fault_reason B (fault_on Z.colour Z.clue (potential_of Z s) (size_of Z s) xs)
  unfolding block_hit_on fault_on scan_on census_fault census_of small_at
  block_on B xs =
      rw (scan-cells Z s B xs, first-reason B _ (fault_at xs) (scan-reason B xs) xs, small-pair B xs, clue-reason B xs)
      (simp or-reason)

  pub block-fault : (B : ℕ) → block_hit Z s B ≡ fault_reason B (block_fault B)
  unfolding block_hit block_fault
  block-fault B = block_on B (members Z.page (block_of Z s) B)
