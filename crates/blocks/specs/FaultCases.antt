-- Case laws of the faults.
use Rattle.std.specs.Prelude.{◌≡◌, Bool, true, false, ℕ, ◌+◌, ◌<◌, ◌≤◌, ltb, Option, None, Some}
use Rattle.std.specs.Option.{option_or}
use mathlib.Core.List.{List, [], ◌∷◌}
use Rattle.std.proofs.Math.Option.{Option as Maybe}
use native.Mathlib.Omega.{arith}
use Rattle.std.proofs.Math.Bool.{and-false}
use borrow.Author.Tests.{eq-eqb, ne_eqb, le-ltb}
use Rattle.std.proofs.Math.ListN.{get_or}
use Rattle.rules.specs.Check.{clash}
use Rattle.rules.specs.Groups.{entry}
use Rattle.blocks.specs.declared.Part.{Part}
use Rattle.blocks.specs.declared.Census.{Census}
use Rattle.blocks.specs.declared.Fault.TheVariants.{InsideEdge, Inside}
use Rattle.blocks.specs.Arrays.{Parted}
use Rattle.blocks.specs.Censuses.{first_in, of_colour, colour_unit, colour_part, census_of}
use Rattle.blocks.specs.Faults.{scan_fault, small_fault, big_fault, clue_fault, census_fault}
use Rattle.blocks.specs.Faults.{scan_on, fault_on}

no_size : (n : ℕ) → n ≡ 0 → ltb 0 n ≡ false
no_size n e = le-ltb 0 n (omega arith)

module _ (mine other : Part) (size : ℕ) where
  pub small-none : mine.size ≡ 0 → None ≡ small_fault mine other size
  unfolding small_fault
  small-none e = rw (no_size mine.size e)

  pub small-fits : other.size ≤ size → None ≡ small_fault mine other size
  unfolding small_fault
  small-fits k = rw (le-ltb size other.size k, and-false)

module _ (n : ℕ) (p : Part) (size : ℕ) where
  pub big-none : p.size ≡ 0 → None ≡ big_fault n p size
  unfolding big_fault
  big-none e = rw (no_size p.size e)

  pub big-fits : n ≤ size → None ≡ big_fault n p size
  unfolding big_fault
  big-fits k = rw (le-ltb size n k, and-false)

module _ (k : Option ℕ) (p q : Part) (a b : ℕ) where
  pub clue-none : k ≡ None → None ≡ clue_fault k p q a b
  unfolding clue_fault
  clue-none e = rw e

  pub clue-big : (n : ℕ) → k ≡ Some n → p.size ≤ n → q.size ≤ n
      → option_or (big_fault n p a) (big_fault n q b) ≡ clue_fault k p q a b
  unfolding clue_fault
  clue-big n e g h = rw (e, le-ltb n p.size g, le-ltb n q.size h)

module _ (q : Bool → ℕ) (n : Maybe ℕ) (c : Bool) (u : ℕ) (k : Maybe ℕ) where
  pub scan-stray : (q c ≡ u → ⊥) → Some (InsideEdge u) ≡ scan_fault q n c u k
  unfolding scan_fault
  scan-stray h = rw (ne_eqb (q c) u h)

  pub scan-clash : q c ≡ u → clash n k ≡ true → Some Inside ≡ scan_fault q n c u k
  unfolding scan_fault
  scan-clash e h = rw (eq-eqb (q c) u e, h)

  pub scan-clear : q c ≡ u → clash n k ≡ false → None ≡ scan_fault q n c u k
  unfolding scan_fault
  scan-clear e h = rw (eq-eqb (q c) u e, h)

-- where no cell is wrong, the census tells
module _ (colour_at : ℕ → Bool) (clue_at : ℕ → Maybe ℕ) (unit_at size_at : ℕ → ℕ) (xs : List ℕ) where
  pub fault-census : (t : Census) → t ≡ census_of colour_at clue_at unit_at xs
      → scan_on colour_at clue_at unit_at xs ≡ None
      → census_fault t (size_at t.zero.unit) (size_at t.one.unit) ≡ fault_on colour_at clue_at unit_at size_at xs
  unfolding fault_on census_of colour_part
  fault-census t e h = rw (e, h)

-- the potential unit of a block's first cell has a size
module _ (colour_at : ℕ → Bool) (clue_at : ℕ → Maybe ℕ) (ids offs xs : List ℕ) (p : Parted ids offs) where
  pub own-parted : (c : Bool)
      → (colour_unit colour_at clue_at (entry ids) xs c < 1024)
      × (get_or offs (colour_unit colour_at clue_at (entry ids) xs c) 0 ≤ get_or offs
      (colour_unit colour_at clue_at (entry ids) xs c + 1) 0)
  unfolding colour_unit entry
  own-parted c = go (of_colour colour_at clue_at (entry ids) c xs)
    where
      go : (ys : List ℕ)
          → (first_in (entry ids) ys < 1024)
          × (get_or offs (first_in (entry ids) ys) 0 ≤ get_or offs (first_in (entry ids) ys + 1) 0)
      go [] = (omega arith, p.first)
      go (y ∷ ys) = (p.few y, p.rises y)
