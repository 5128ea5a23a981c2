-- Case laws of step 2's definitions: one for each way a function of walls.rt returns.
--
--   breach_at h w bs ids c  the first breach at cell c, over arrays
use Rattle.std.specs.Prelude.{◌≡◌, List, [], ◌∷◌, ◌++◌, ℕ, zero, suc, ◌+◌, ◌-◌, ◌*◌, ◌<◌, Option, Some, None}
use Rattle.std.specs.Prelude.{MatchOption, is_some, true, false}
use Rattle.lists.specs.Booleans.{false-true}
use Rattle.std.specs.Bool.{then_some}
use Rattle.std.specs.Option.{option_or}
use Rattle.std.proofs.Common.{refl, sym, arith}
use Rattle.rules.specs.Page.{State, Hop}
use Rattle.rules.specs.Flat.{flat, ahead_at}
use Rattle.rules.specs.Codes.{states_in}
use Rattle.rules.specs.Groups.{entry}
use Rattle.laws.specs.FlatLaws.{spot}
use Rattle.reasons.specs.declared.Direction.TheVariants.{Below, Right}
use Rattle.reasons.specs.declared.Neighbour.{Neighbour}
use Rattle.reasons.specs.Arrays.{Stepped, hop_at, hops_in, hop_of}
use Rattle.walls.specs.declared.Breach.{Breach}
use Rattle.walls.specs.Breaches.{is_breach, hop_breach, breach_on, breach_from, first_breach}

unfoldable pub breach_at : ℕ → ℕ → List ℕ → List ℕ → ℕ → Option Breach
breach_at h w bs ids c = breach_on (states_in bs) (entry ids) c ((flat h w).ahead c)

or-assoc : {A : Type 0} (a b c : Option A) → option_or a (option_or b c) ≡ option_or (option_or a b) c
or-assoc None b c = refl
or-assoc (Some a) b c = refl

or_none : {A : Type 0} (a : Option A) → option_or a None ≡ a
or_none None = refl
or_none (Some a) = refl

-- r is what the code has of the first
pub or-found : {A : Type 0} (r b : Option A) → is_some r ≡ true → r ≡ option_or r b
or-found (Some x) b e = refl
or-found None b e = false-true refl e

pub or-missed : {A : Type 0} (r b : Option A) → is_some r ≡ false → b ≡ option_or r b
or-missed None b e = refl
or-missed (Some x) b e = false-true e refl

-- what `or_else` gives
pub or_else-is : {A : Type 0} (a b : Option A) {r : Option A} → MatchOption a (r ≡ b) (λ x. r ≡ Some x)
    → r ≡ option_or a b
or_else-is None b h = h
or_else-is (Some x) b h = h

module _ (s : ℕ → State) (block : ℕ → ℕ) (c : ℕ) where
  pub on-append : (hs ks : List Hop) → breach_on s block c (hs ++ ks) ≡ option_or (breach_on s block c hs)
      (breach_on s block c ks)
  unfolding breach_on
  on-append [] ks = refl
  on-append (h ∷ hs) ks = rw (on-append hs ks) (or-assoc (hop_breach s block c h) _ _)

  -- the neighbour that `step` answers
  pub hop-off : None ≡ breach_on s block c (hops_in None)
  unfolding hops_in breach_on
  hop-off = refl

  pub hop-some : (n : Neighbour) → then_some (is_breach s block c (hop_of n))
      (record { cell = c; border = n.border; to = n.to }) ≡ breach_on s block c (hops_in (Some n))
  unfolding hops_in breach_on hop_breach
  hop-some n = sym (or_none _)

-- below, then right
module _ (h w y x : ℕ) (hy : y < h) (hx : x < w) (bs ids : List ℕ) (n k : Option Neighbour)
    (p : Stepped h w y x Below n)
    (q : Stepped h w y x Right k) where
  abbrev on : Option Neighbour → Option Breach
  on r = breach_on (states_in bs) (entry ids) (y * w + x) (hops_in r)

  pub cell-split : option_or (on n) (on k) ≡ breach_at h w bs ids (y * w + x)
  unfolding breach_at flat ahead_at hop_at
  cell-split =
      rw ((spot h w y x hy hx).row, (spot h w y x hy hx).column, p.is, q.is)
      (sym (on-append (states_in bs) (entry ids) (y * w + x) (hop_at h w y x Below) (hop_at h w y x Right)))

-- the first of some, and of the others
module _ (f : ℕ → Option Breach) where
  pub from_end : (k : ℕ) → k ≡ 0 → (i : ℕ) → None ≡ breach_from f k i
  unfolding breach_from
  from_end k e i = rw e

  -- what is left from i on
  pub from-next : (n i : ℕ) → i < n → breach_from f (n - i) i ≡ option_or (f i) (breach_from f (n - (i + 1)) (i + 1))
  unfolding breach_from
  from-next n i h = let e : n - i ≡ suc (n - (i + 1)) = omega arith in let d : suc i ≡ i + 1 = omega arith in rw (e, d)

  from-append : (k n i : ℕ) → breach_from f (k + n) i ≡ option_or (breach_from f k i) (breach_from f n (i + k))
  unfolding breach_from
  from-append zero n i = let e : i + 0 ≡ i = omega arith in let z : 0 + n ≡ n = omega arith in rw (z, e)
  from-append (suc k) n i =
      let e : i + suc k ≡ suc i + k = omega arith in
      let z : suc k + n ≡ suc (k + n) = omega arith in
      rw (z, e, from-append k n (suc i)) (or-assoc (f i) _ _)

  -- a row, by its columns
  pub from-shift : (i k j : ℕ) → breach_from (λ x. f (i + x)) k j ≡ breach_from f k (i + j)
  unfolding breach_from
  from-shift i zero j = refl
  from-shift i (suc k) j =
      let e : i + suc j ≡ suc (i + j) = omega arith in
      rw (from-shift i k (suc j), e)

  -- rows of w cells, one after another
  pub from-rows : (w k y : ℕ) → breach_from (λ v. breach_from f w (v * w)) k y ≡ breach_from f (k * w) (y * w)
  unfolding breach_from
  from-rows w zero y = let e : 0 * w ≡ 0 = omega arith in rw e
  from-rows w (suc k) y =
      let e : suc y * w ≡ y * w + w = omega arith in
      let z : suc k * w ≡ w + k * w = omega arith in
      rw (from-rows w k (suc y), z, from-append w (k * w) (y * w), e)

pub page-start : (h w : ℕ) (bs ids : List ℕ)
    → first_breach (flat h w) (states_in bs) (entry ids) ≡ breach_from (breach_at h w bs ids) (h * w) 0
unfolding first_breach breach_at flat
page-start h w bs ids = refl
