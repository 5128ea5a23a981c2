-- Laws of numbers: the cases of two numbers, equality as a test, the bitwise or.
use Rattle.std.specs.Prelude.{◌≡◌, refl, not, ◌&&◌, ◌⊎◌, ◌≢◌, ℕ, zero, suc, ◌+◌, ◌<◌, ◌≤◌, T, eqb}
use Rattle.std.proofs.Common.{sym, ◌∙◌, inl, inr, ⊎_elim, arith, ne_eqb, eqb→eq, T_not}
use Rattle.std.proofs.Math.Decide.{ℕ_discrete}
use Rattle.std.specs.Int.Bits.{bit_or, or_add_and}
use Rattle.std.proofs.lemmas.Nat.{and_le_r}
use Rattle.std.proofs.Math.Dec.{eqb_refl, eqb-suc-zero}
use Rattle.lists.specs.Booleans.{T-dec}

pub le-or-lt : (m n : ℕ) → (m ≤ n) ⊎ (n < m)
le-or-lt zero n = inl (omega arith)
le-or-lt (suc m) zero = inr (omega arith)
le-or-lt (suc m) (suc n) =
    ⊎_elim (λ (l : m ≤ n). inl (omega arith)) (λ (l : n < m). inr (omega arith)) (le-or-lt m n)

pub eq-or-not : (m n : ℕ) → (m ≡ n) ⊎ (m ≢ n)
eq-or-not m n = go (ℕ_discrete m n)
  where
    go : Dec (m ≡ n) → (m ≡ n) ⊎ (m ≢ n)
    go (yes e) = inl e
    go (no e) = inr e

-- by cases, with both types known
pub if-same : (i j : ℕ) {C : Type 0} → (i ≡ j → C) → ((i ≡ j → ⊥) → C) → C
if-same i j {C} p q = go (ℕ_discrete i j)
  where
    go : Dec (i ≡ j) → C
    go (yes e) = p e
    go (no e) = q e

-- what holds below n, and of n
pub below_more : (P : ℕ → Type 0) (n : ℕ) → ((j : ℕ) → j < n → P j) → P n → (j : ℕ) → j < n + 1 → P j
below_more P n h e j l = if-same j n (λ q. rw q e) (λ q. h j (omega arith))

pub neqb→ne : (m n : ℕ) → T (not (eqb m n)) → m ≡ n → ⊥
neqb→ne m n t e = T_not (eqb m n) t (rw e (eqb_refl n))

pub ne→neqb : (m n : ℕ) → (m ≡ n → ⊥) → T (not (eqb m n))
ne→neqb m n f = ⊎_elim (λ t. absurd (f (eqb→eq m n t))) (λ t. t) (T-dec (eqb m n))

pub eqb_swap : (m n : ℕ) → eqb m n ≡ eqb n m
eqb_swap m n = if-same m n (λ e. rw e) (λ e. ne_eqb m n e ∙ sym (ne_eqb n m (λ z. e (sym z))))

-- the bitwise or of two numbers is 0 exactly if both are
pub or-none : (a b : ℕ) → eqb (bit_or a b) 0 ≡ eqb a 0 && eqb b 0
or-none zero b = refl
or-none (suc a) b =
    rw (eqb-suc-zero a) (ne_eqb (bit_or (suc a) b) 0 (λ e. omega (arith, or_add_and (suc a) b, and_le_r (suc a) b)))
