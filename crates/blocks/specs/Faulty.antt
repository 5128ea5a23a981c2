-- The first block with which something is wrong.
--
--   at i f              block i with the fault f
--   faulty_from f k i   the first number from i on, of k, at which f finds something wrong, with the fault; else none
--   first_faulty f n    the same of 0 to n - 1
--   faulty_reason r     the reason of the faulty block r, if there is one
--   faulty-hits         step 1's hit is the reason of the first faulty block
use Rattle.std.proofs.Math.Path.{◌≡◌, refl, ap}
use Rattle.std.proofs.Common.{◌∙◌}
use Rattle.std.specs.Prelude.{Option, None, Some}
use Rattle.std.specs.Option.{option_or, option_map}
use Rattle.std.proofs.Math.Option.{Option as Maybe, none}
use Prim.Native.Nat.{ℕ, zero, suc, ◌+◌, ◌-◌, ◌<◌, ◌≤◌}
use native.Mathlib.Omega.{arith}
use Rattle.lists.specs.Lists.{first_hit, or_else, range_from, range}
use Rattle.rules.specs.Page.{Puzzle, State}
use Rattle.rules.specs.Groups.{block_count}
use Rattle.rules.specs.Check.{Reason, block_hit}
use Rattle.blocks.specs.declared.Fault.{Fault}
use Rattle.blocks.specs.declared.Faulty.{Faulty}
use Rattle.blocks.specs.Faults.{fault_reason, block_fault, block-fault}

abbrev pub at : ℕ → Fault → Faulty
at i f = record { block = i; fault = f }

unfoldable pub faulty_from : (ℕ → Option Fault) → ℕ → ℕ → Option Faulty
faulty_from f zero i = None
faulty_from f (suc k) i = option_or (option_map (at i) (f i)) (faulty_from f k (suc i))

unfoldable pub first_faulty : (ℕ → Option Fault) → ℕ → Option Faulty
first_faulty f n = faulty_from f n 0

module _ (f : ℕ → Option Fault) (n i : ℕ) where
  pub faulty-next : i < n → f i ≡ None → faulty_from f (n - i) i ≡ faulty_from f (n - (i + 1)) (i + 1)
  unfolding faulty_from
  faulty-next h e =
      let k : n - i ≡ suc (n - (i + 1)) = omega arith in
      let j : suc i ≡ i + 1 = omega arith in
      rw (k, e, j)

  pub faulty-found : (g : Fault) → i < n → f i ≡ Some g → Some (at i g) ≡ faulty_from f (n - i) i
  unfolding faulty_from
  faulty-found g h e = let k : n - i ≡ suc (n - (i + 1)) = omega arith in rw (k, e)

  pub faulty-end : n ≤ i → None ≡ faulty_from f (n - i) i
  unfolding faulty_from
  faulty-end h = let k : n - i ≡ 0 = omega arith in rw k

module _ (Z : Puzzle) (s : ℕ → State) where
  unfoldable pub faulty_reason : Option Faulty → Maybe Reason
  faulty_reason None = none
  faulty_reason (Some r) = fault_reason Z s r.block (Some r.fault)

  from-hits : (f : ℕ → Option Fault) (k i : ℕ)
      → first_hit (λ B. fault_reason Z s B (f B)) (range_from i k) ≡ faulty_reason (faulty_from f k i)
  unfolding first_hit faulty_from faulty_reason fault_reason or_else
  from-hits f zero i = refl
  from-hits f (suc k) i = go (from-hits f k (suc i)) (f i)
    where
      go : first_hit (λ B. fault_reason Z s B (f B)) (range_from (suc i) k) ≡ faulty_reason (faulty_from f k (suc i))
          → (o : Option Fault)
          → or_else (fault_reason Z s i o) (first_hit (λ B. fault_reason Z s B (f B)) (range_from (suc i) k))
          ≡ faulty_reason (option_or (option_map (at i) o) (faulty_from f k (suc i)))
      go e None = e
      go e (Some g) = refl

  pub faulty-hits : first_hit (block_hit Z s) (range (block_count Z s))
      ≡ faulty_reason (first_faulty (block_fault Z s) (block_count Z s))
  unfolding first_faulty
  faulty-hits =
      ap (λ (g : ℕ → Maybe Reason). first_hit g (range (block_count Z s))) (λ i B. block-fault Z s B i)
      ∙ from-hits (block_fault Z s) (block_count Z s) 0
