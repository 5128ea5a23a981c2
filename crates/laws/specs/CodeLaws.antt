-- Laws of codes: a border's state is told by its number, whether two colours are equal by theirs, and a clue fits.
--
--   wall-state, open-state   what a number says
--   state-wall, state-open   the same in an array
--   decided-below            a decided border is one of the array's places
--   side-in, side-of         a decided border's side is told by its number
--   bit-same                 two colours' numbers
--   clue-fits                a clue of 32 bits that is not negative is a number of 64 bits
use Rattle.std.specs.Prelude.{◌≡◌, refl, Bool, true, false, cond, List, ℕ, zero, suc, ◌<◌, ◌≤◌, eqb, T, length, get_or}
use Rattle.std.specs.Prelude.{ℤ, pos, negsuc, nat_abs}
use Rattle.std.proofs.Common.{ap, sym, ◌∙◌, arith, ne_eqb, Fits, SFits}
use Rattle.std.specs.Bool.{beq}
use Rattle.std.proofs.Math.Decide.{ℕ_discrete, dec_lt}
use Rattle.std.proofs.Math.ListN.{get_or-eq_default}
use Rattle.std.specs.Int.Signed.{le_z, non_neg}
use Rattle.std.specs.Int.{w32, w64}
use Rattle.rules.specs.declared.Side.{Side}
use Rattle.rules.specs.declared.Side.TheVariants.{Wall, Open}
use Rattle.rules.specs.Page.{undecided, decided, is_wall, is_open}
use Rattle.rules.specs.Codes.{state_of, code_of, side_in, states_in}

pub wall-state : (v : ℕ) → is_wall (state_of v) ≡ eqb v 1
wall-state v = go (eqb v 1) (eqb v 2)
  where
    go : (a b : Bool) → is_wall (cond a (decided Wall) (cond b (decided Open) undecided)) ≡ a
    go true b = refl
    go false true = refl
    go false false = refl

pub open-state : (v : ℕ) → is_open (state_of v) ≡ eqb v 2
open-state v = go (ℕ_discrete v 1) (ℕ_discrete v 2)
  where
    go : Dec (v ≡ 1) → Dec (v ≡ 2) → is_open (state_of v) ≡ eqb v 2
    go (yes e) d = rw e
    go (no n) (yes e) = rw e
    go (no n) (no m) = rw (ne_eqb v 1 n, ne_eqb v 2 m)

module _ (bs : List ℕ) (b : ℕ) where
  pub state-wall : is_wall (states_in bs b) ≡ eqb (get_or bs b 0) 1
  unfolding states_in
  state-wall = wall-state (get_or bs b 0)

  pub state-open : is_open (states_in bs b) ≡ eqb (get_or bs b 0) 2
  unfolding states_in
  state-open = open-state (get_or bs b 0)

pub decided-below : (bs : List ℕ) (n : ℕ) (d : Side) → states_in bs n ≡ decided d → n < length bs
unfolding states_in
decided-below bs n d e = go (dec_lt n (length bs))
  where
    go : Dec (n < length bs) → n < length bs
    go (yes l) = l
    go (no l) =
        let z = get_or-eq_default bs 0 {n = n} (omega arith) in
        let q : undecided ≡ decided d = sym (ap state_of z) ∙ e in
        let y : ◌≡◌ {A = ℕ} 0 1 = cc in
        absurd (omega arith)

pub side-in : (d : Side) → side_in (code_of d) ≡ d
side-in Wall = refl
side-in Open = refl

pub side-of : (v : ℕ) → v ≤ 2 → (v ≡ 0 → ⊥) → code_of (side_in v) ≡ v
side-of zero h k = absurd (k refl)
side-of (suc zero) h k = refl
side-of (suc (suc zero)) h k = refl
side-of (suc (suc (suc v))) h k = absurd (let z : suc (suc (suc v)) ≤ 2 = h in omega arith)

-- two colours are equal as their numbers are
pub bit-same : (a b : ℕ) → a ≤ 1 → b ≤ 1 → beq (eqb a 1) (eqb b 1) ≡ eqb a b
bit-same zero zero p q = refl
bit-same zero (suc zero) p q = refl
bit-same (suc zero) zero p q = refl
bit-same (suc zero) (suc zero) p q = refl
bit-same (suc (suc a)) b p q = absurd (omega arith)
bit-same zero (suc (suc b)) p q = absurd (omega arith)
bit-same (suc zero) (suc (suc b)) p q = absurd (omega arith)

pub clue-fits : (z : ℤ) → le_z (pos 0) z ≡ true → SFits w32 z → T (non_neg z) × Fits w64 (nat_abs z)
clue-fits (pos n) e f = (tt, record { fits = omega (arith, f.sfits) })
clue-fits (negsuc n) e f = let z : ◌≡◌ {A = ℕ} 0 1 = cc in absurd (omega arith)
