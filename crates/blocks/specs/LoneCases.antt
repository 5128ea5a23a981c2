-- A block of one cell: what is wrong with it is told by the cell's clue and the size of its potential unit.
--
--   only_fault k u n    the fault of a cell with clue k, potential unit u and its size n
--   lone_fault x        that of the cell x
--   lone-fault          it is the fault of the list of the one cell x
use Rattle.std.specs.Prelude.{◌≡◌, Bool, false, ◌||◌, cond, List, [], ◌∷◌, length, get_or, ℕ, ◌<◌, ◌≤◌, ltb}
use Rattle.std.specs.Prelude.{Option, None, Some}
use Rattle.std.specs.Option.{option_or}
use Rattle.std.proofs.Math.Path.{refl}
use Rattle.std.proofs.Math.Bool.{true}
use Rattle.std.proofs.Math.Option.{Option as Maybe, some, none}
use Rattle.std.proofs.Common.{arith}
use borrow.Author.Tests.{eq-eqb, lt-ltb, le-ltb}
use Rattle.std.proofs.Math.Dec.{eqb}
use Rattle.lists.specs.Lists.{filter, any, first_hit, or_else}
use Rattle.rules.specs.Check.{block_clue}
use Rattle.blocks.specs.declared.Fault.{Fault}
use Rattle.blocks.specs.declared.Fault.TheVariants.{Inside, Edge}
use Rattle.blocks.specs.Censuses.{clue_in, of_colour, colour_unit, has_clue, colour_part, census_of}
use Rattle.blocks.specs.Faults.{first_fault, scan_fault, small_fault, big_fault, clue_fault, cell_fault}
use Rattle.blocks.specs.Faults.{census_fault, scan_on, fault_on}

-- a list of one cell
pub single-cell : (xs : List ℕ) → length xs ≡ 1 → xs ≡ get_or xs 0 0 ∷ []
single-cell [] e = absurd (omega arith)
single-cell (x ∷ []) e = refl
single-cell (x ∷ y ∷ ys) e = absurd (omega arith)

unfoldable pub only_fault : Option ℕ → ℕ → ℕ → Option Fault
only_fault None u size = None
only_fault (Some n) u size = cond (ltb n 1) (Some Inside) (cond (ltb size n) (Some (Edge u)) None)

module _ (clue_at : ℕ → Maybe ℕ) (unit_at size_at : ℕ → ℕ) where
  unfoldable pub lone_fault : ℕ → Option Fault
  lone_fault x = only_fault (clue_in (clue_at x)) (unit_at x) (size_at (unit_at x))

  -- one for each way that lone_fault returns
  pub lone-free : (x : ℕ) → None ≡ clue_in (clue_at x) → None ≡ lone_fault x
  unfolding lone_fault only_fault
  lone-free x e = rw (← e)

  pub lone-none : (x n : ℕ) → Some n ≡ clue_in (clue_at x) → n ≡ 0 → Some Inside ≡ lone_fault x
  unfolding lone_fault only_fault
  lone-none x n e h = rw (← e, lt-ltb n 1 (omega arith))

  pub lone-fits : (x n : ℕ) → Some n ≡ clue_in (clue_at x) → (n ≡ 0 → ⊥) → n ≤ size_at (unit_at x) → None ≡ lone_fault x
  unfolding lone_fault only_fault
  lone-fits x n e h k = rw (← e, le-ltb n 1 (omega arith), le-ltb (size_at (unit_at x)) n k)

  pub lone-big : (x n : ℕ) → Some n ≡ clue_in (clue_at x) → (n ≡ 0 → ⊥) → size_at (unit_at x) < n
      → Some (Edge (unit_at x))
      ≡ lone_fault x
  unfolding lone_fault only_fault
  lone-big x n e h k = rw (← e, le-ltb n 1 (omega arith), lt-ltb (size_at (unit_at x)) n k)

  pub lone-fault : (colour_at : ℕ → Bool) (x : ℕ) → lone_fault x ≡ fault_on colour_at clue_at unit_at size_at (x ∷ [])
  unfolding lone_fault only_fault fault_on scan_on census_of colour_part colour_unit of_colour filter has_clue
      any block_clue
      first_hit
      or_else
      first_fault cell_fault scan_fault census_fault small_fault clue_fault big_fault
  lone-fault colour_at x = go (colour_at x)
    where
      same : eqb (unit_at x) (unit_at x) ≡ true
      same = eq-eqb (unit_at x) (unit_at x) refl

      none-less : (n : ℕ) → ltb n 0 ≡ false
      none-less n = le-ltb n 0 (omega arith)

      ends : (b d : Bool)
          → cond b (Some Inside) (cond d (Some (Edge (unit_at x))) None)
          ≡ cond (b || false) (Some Inside) (option_or (cond d (Some (Edge (unit_at x))) None) None)
      ends true d = refl
      ends false true = refl
      ends false false = refl

      one : (k : Maybe ℕ)
          → only_fault (clue_in k) (unit_at x) (size_at (unit_at x))
          ≡ fault_on (λ _. true) (λ _. k) unit_at size_at (x ∷ [])
      one none = rw (same, census_fault, none-less (size_at (unit_at x)))
      one (some n) =
          rw (same, eq-eqb n n refl, census_fault, none-less (size_at (unit_at x)), none-less n, big_fault)

      zero : (k : Maybe ℕ)
          → only_fault (clue_in k) (unit_at x) (size_at (unit_at x))
          ≡ fault_on (λ _. false) (λ _. k) unit_at size_at (x ∷ [])
      zero none = rw (same, census_fault, none-less (size_at (unit_at x)))
      zero (some n) =
          rw (same, eq-eqb n n refl, census_fault, none-less (size_at (unit_at x)), none-less n, big_fault)
          (ends (ltb n 1) (ltb (size_at (unit_at x)) n))

      go : (c : Bool) → lone_fault x ≡ fault_on (λ _. c) clue_at unit_at size_at (x ∷ [])
      go true = one (clue_at x)
      go false = zero (clue_at x)
