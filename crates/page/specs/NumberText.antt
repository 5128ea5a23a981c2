-- Numbers and digits as text: `number` reads exactly the decimals up to 2147483647, `digits` exactly the digits.
--
--   AllDigits ds        every number of ds is one of 0 to 9
--   RowFit ds           that, and there is one at least
--   digit_bytes ds      the digits as bytes
use Rattle.std.proofs.Math.Path.{◌≡◌, refl, ap}
use Rattle.std.specs.Prelude.{Bool, ◌&&◌, ◌⊎◌, leb}
use Rattle.std.proofs.Math.Bool.{true, false, cond}
use Rattle.std.proofs.Common.{⊎_elim}
use mathlib.Core.List.{List, [], ◌∷◌, ◌++◌, append_assoc}
use Rattle.std.proofs.Math.Option.{Option, none, some}
use Prim.Native.Nat.{ℕ, zero, suc, ◌+◌, ◌-◌, ◌*◌, ◌/◌, ◌%◌, ◌<◌, ◌≤◌}
use native.Mathlib.Omega.{arith}
use Rattle.std.proofs.Math.Dec.{ltb, eqb}
use borrow.Author.Tests.{lt-ltb, le-ltb, le-leb, eq-eqb, ne_eqb, eqb-true, leb-true, ltb-true, ltb-false}
use Rattle.lists.specs.Booleans.{and_left, and_right}
use Rattle.page.specs.Parsers.{number, number_on, may_follow, digit, digits, digits_on, with_digit}
use Rattle.page.specs.Decimal.{decimal_in, decimal}
use Rattle.page.specs.ParserLaws.{may, digit_low, digit-high}
use Rattle.page.specs.Printed.{Prints}

-- any number above n will do for k
pub decimal-enough : (k m n : ℕ) → n < k → n < m → decimal_in k n ≡ decimal_in m n
unfolding decimal_in
decimal-enough zero m n h l = absurd (omega arith)
decimal-enough (suc k) zero n h l = absurd (omega arith)
decimal-enough (suc k) (suc m) n h l = go (decimal-enough k m (n / 10)) (ltb n 10) refl
  where
    go : (n / 10 < k → n / 10 < m → decimal_in k (n / 10) ≡ decimal_in m (n / 10)) → (x : Bool) → ltb n 10 ≡ x
        → decimal_in (suc k) n ≡ decimal_in (suc m) n
    go ih true e = rw e
    go ih false e =
        let g : 10 ≤ n = ltb-false n 10 e in
        rw (e, ih (omega arith) (omega arith))

pub decimal-one : (d : ℕ) → d < 10 → decimal d ≡ (48 + d) ∷ []
unfolding decimal decimal_in
decimal-one d l = rw (lt-ltb d 10 l)

pub decimal-more : (v d : ℕ) → 0 < v → d < 10 → decimal (v * 10 + d) ≡ decimal v ++ ((48 + d) ∷ [])
unfolding decimal decimal_in
decimal-more v d h l =
    let q : (v * 10 + d) / 10 ≡ v = omega arith in
    let m : (v * 10 + d) % 10 ≡ d = omega arith in
    rw (
      le-ltb (v * 10 + d) 10 (omega arith),
      q,
      m,
      decimal-enough (v * 10 + d) (suc v) v (omega arith) (omega arith),
    )

pub digit-yes : (b : ℕ) → 48 ≤ b → b ≤ 57 → digit b ≡ true
unfolding digit
digit-yes b h l = rw (le-leb 48 b h, le-leb b 57 l)

-- what the test of a further digit says
record Follows (v b : ℕ) : Type 0 where
  low : 48 ≤ b
  high : b ≤ 57
  first : 0 < v
  most : v * 10 + (b - 48) ≤ 2147483647

follows : (v b : ℕ) → may_follow v b ≡ true → Follows v b
unfolding may_follow
follows v b e =
    let q : leb b 57 && (ltb 0 v && leb (v * 10 + (b - 48)) 2147483647) ≡ true = and_right (leb 48 b) _ e in
    let r : ltb 0 v && leb (v * 10 + (b - 48)) 2147483647 ≡ true = and_right (leb b 57) _ q in
    record {
      low = leb-true 48 b (and_left (leb 48 b) _ e);
      high = leb-true b 57 (and_left (leb b 57) _ q);
      first = ltb-true 0 v (and_left (ltb 0 v) _ r);
      most = leb-true (v * 10 + (b - 48)) 2147483647 (and_right (ltb 0 v) _ r);
    }

-- a number and its stop, which is no digit
module _ (stop : ℕ) (apart : 57 < stop ⊎ stop < 48) where
  no_digit : (b : ℕ) → 48 ≤ b → b ≤ 57 → b ≡ stop → ⊥
  no_digit b h l q = ⊎_elim (λ w. omega arith) (λ w. omega arith) apart

  pub read-decimal : (k n : ℕ) (u : List ℕ) → n < k → n ≤ 2147483647
      → number stop (decimal_in k n ++ u) ≡ number_on stop n u
  unfolding decimal_in number number_on
  read-decimal zero n u h l = absurd (omega arith)
  read-decimal (suc k) n u h l = go (read-decimal k (n / 10) ((48 + n % 10) ∷ u)) (ltb n 10) refl
    where
      go : (n / 10 < k → n / 10 ≤ 2147483647 → number stop (decimal_in k (n / 10) ++ ((48 + n % 10) ∷ u))
          ≡ number_on stop (n / 10) ((48 + n % 10) ∷ u))
          → (x : Bool) → ltb n 10 ≡ x → number stop (decimal_in (suc k) n ++ u) ≡ number_on stop n u
      go ih true e =
          let g : n < 10 = ltb-true n 10 e in
          let m : 48 + n - 48 ≡ n = omega arith in
          rw (e, digit-yes (48 + n) (omega arith) (omega arith), m)
      go ih false e =
          let g : 10 ≤ n = ltb-false n 10 e in
          let m : n % 10 < 10 = omega arith in
          let z : 0 < n / 10 = omega arith in
          let f : n / 10 * 10 + (48 + n % 10 - 48) ≡ n = omega arith in
          rw (
            e,
            append_assoc,
            ih (omega arith) (omega arith),
            ne_eqb (48 + n % 10) stop (no_digit (48 + n % 10) (omega arith) (omega arith)),
            may (n / 10) (48 + n % 10) (digit-yes (48 + n % 10) (omega arith) (omega arith)) z (omega arith),
            f,
          )

  number-complete : (n : ℕ) (t : List ℕ) → n ≤ 2147483647 → number stop ((decimal n ++ (stop ∷ [])) ++ t) ≡ some (n, t)
  unfolding decimal number_on
  number-complete n t l = rw (append_assoc, read-decimal (suc n) n (stop ∷ t) (omega arith) l, eq-eqb stop stop refl)

  -- what is read on after v spells n
  abbrev Spelt : ℕ → List ℕ → ℕ → List ℕ → Type 0
  Spelt v s n t = (decimal v ++ s ≡ decimal n ++ (stop ∷ t)) × (n ≤ 2147483647)

  on-sound : (s : List ℕ) (v n : ℕ) (t : List ℕ) → v ≤ 2147483647 → number_on stop v s ≡ some (n, t) → Spelt v s n t
  unfolding number_on
  on-sound [] v n t l e = let z : ◌≡◌ {A = ℕ} 0 1 = cc in absurd (omega arith)
  on-sound (b ∷ s) v n t l e = go (on-sound s (v * 10 + (b - 48)) n t) (eqb b stop) refl e
    where
      more : (v * 10 + (b - 48) ≤ 2147483647 → number_on stop (v * 10 + (b - 48)) s ≡ some (n, t)
          → Spelt (v * 10 + (b - 48)) s n t)
          → (y : Bool) → may_follow v b ≡ y → cond y (number_on stop (v * 10 + (b - 48)) s) none ≡ some (n, t)
          → Spelt v (b ∷ s) n t
      more ih true h k =
          let m : Follows v b = follows v b h in
          let f : 48 + (b - 48) ≡ b = omega (arith, m.low) in
          let w : decimal (v * 10 + (b - 48)) ≡ decimal v ++ ((48 + (b - 48)) ∷ []) =
          decimal-more v (b - 48) m.first (omega (arith, m.high)) in
          let u : Spelt (v * 10 + (b - 48)) s n t = ih m.most k in
          (rw (w, f, append_assoc) at u.0, u.1)
      more ih false h k = let z : ◌≡◌ {A = ℕ} 0 1 = cc in absurd (omega arith)

      go : (v * 10 + (b - 48) ≤ 2147483647 → number_on stop (v * 10 + (b - 48)) s ≡ some (n, t)
          → Spelt (v * 10 + (b - 48)) s n t)
          → (x : Bool) → eqb b stop ≡ x
          → cond x (some (v, s)) (cond (may_follow v b) (number_on stop (v * 10 + (b - 48)) s) none) ≡ some (n, t)
          → Spelt v (b ∷ s) n t
      go ih true h k =
          let q : b ≡ stop = eqb-true b stop h in
          let m : ◌≡◌ {A = ℕ × List ℕ} (v, s) (n, t) = cc in
          let r : v ≡ n = ap (λ (p : ℕ × List ℕ). p.0) m in
          let o : s ≡ t = ap (λ (p : ℕ × List ℕ). p.1) m in
          (cc, omega arith)
      go ih false h k = more ih (may_follow v b) refl k

  number-sound : (s : List ℕ) (n : ℕ) (t : List ℕ) → number stop s ≡ some (n, t)
      → (s ≡ (decimal n ++ (stop ∷ [])) ++ t) × (n ≤ 2147483647)
  unfolding number
  number-sound [] n t e = let z : ◌≡◌ {A = ℕ} 0 1 = cc in absurd (omega arith)
  number-sound (b ∷ s) n t e = go (digit b) refl e
    where
      go : (x : Bool) → digit b ≡ x → cond x (number_on stop (b - 48) s) none ≡ some (n, t)
          → (b ∷ s ≡ (decimal n ++ (stop ∷ [])) ++ t) × (n ≤ 2147483647)
      go true h k =
          let p : 48 ≤ b = digit_low b h in
          let q : b ≤ 57 = digit-high b h in
          let f : 48 + (b - 48) ≡ b = omega arith in
          let u : Spelt (b - 48) s n t = on-sound s (b - 48) n t (omega arith) k in
          (rw append_assoc (rw (decimal-one (b - 48) (omega arith), f) at u.0), u.1)
      go false h k = let z : ◌≡◌ {A = ℕ} 0 1 = cc in absurd (omega arith)

  pub number-prints : Prints (number stop) (λ n. decimal n ++ (stop ∷ [])) (λ n. n ≤ 2147483647)
  number-prints = record { sound = number-sound; complete = number-complete }

unfoldable pub AllDigits : List ℕ → Type 0
AllDigits [] = Unit {0}
AllDigits (d ∷ ds) = (d ≤ 9) × AllDigits ds

unfoldable pub RowFit : List ℕ → Type 0
RowFit [] = ⊥
RowFit (d ∷ ds) = (d ≤ 9) × AllDigits ds

unfoldable pub digit_bytes : List ℕ → List ℕ
digit_bytes [] = []
digit_bytes (d ∷ ds) = (48 + d) ∷ digit_bytes ds

module _ (stop : ℕ) (apart : 57 < stop ⊎ stop < 48) where
  digits-on-complete : (ds t : List ℕ) → AllDigits ds → digits_on stop (digit_bytes ds ++ (stop ∷ t)) ≡ some (ds, t)
  unfolding AllDigits digits_on with_digit digit_bytes
  digits-on-complete [] t f = rw (eq-eqb stop stop refl)
  digits-on-complete (d ∷ ds) t f =
      let h : d ≤ 9 = f.0 in
      let m : 48 + d - 48 ≡ d = omega arith in
      rw (
        ne_eqb (48 + d) stop (no_digit stop apart (48 + d) (omega arith) (omega arith)),
        digit-yes (48 + d) (omega arith) (omega arith),
        digits-on-complete ds t f.1,
        m,
      )

  -- the bytes s spell the digits ds up to the stop, before t
  abbrev Row : List ℕ → List ℕ → List ℕ → Type 0
  Row s ds t = (s ≡ digit_bytes ds ++ (stop ∷ t)) × AllDigits ds

  digit-sound : (b : ℕ) (o : Option (List ℕ × List ℕ)) (s a t : List ℕ) → digit b ≡ true
      → ((ds u : List ℕ) → o ≡ some (ds, u) → Row s ds u) → with_digit (b - 48) o ≡ some (a, t)
      → Row (b ∷ s) a t × RowFit a
  unfolding with_digit AllDigits RowFit digit_bytes
  digit-sound b none s a t h f e = let z : ◌≡◌ {A = ℕ} 0 1 = cc in absurd (omega arith)
  digit-sound b (some x) s a t h f e =
      let m : ◌≡◌ {A = List ℕ × List ℕ} ((b - 48) ∷ x.0, x.1) (a, t) = cc in
      let ma : (b - 48) ∷ x.0 ≡ a = ap (λ (y : List ℕ × List ℕ). y.0) m in
      let mt : x.1 ≡ t = ap (λ (y : List ℕ × List ℕ). y.1) m in
      let v : Row s x.0 x.1 = f x.0 x.1 refl in
      let p : 48 ≤ b = digit_low b h in
      let q : b ≤ 57 = digit-high b h in
      let k : 48 + (b - 48) ≡ b = omega arith in
      let l : b - 48 ≤ 9 = omega arith in
      ((rw (← ma, ← mt, k) (ap (λ (y : List ℕ). b ∷ y) v.0), rw (← ma) (l, v.1)), rw (← ma) (l, v.1))

  digits-on-sound : (s a t : List ℕ) → digits_on stop s ≡ some (a, t) → Row s a t
  unfolding digits_on AllDigits digit_bytes
  digits-on-sound [] a t e = let z : ◌≡◌ {A = ℕ} 0 1 = cc in absurd (omega arith)
  digits-on-sound (b ∷ s) a t e = go (digits-on-sound s) (eqb b stop) (digit b) refl refl e
    where
      go : ((a t : List ℕ) → digits_on stop s ≡ some (a, t) → Row s a t) → (x y : Bool) → eqb b stop ≡ x → digit b ≡ y
          → cond x (some ([], s)) (cond y (with_digit (b - 48) (digits_on stop s)) none) ≡ some (a, t) → Row (b ∷ s) a t
      go ih true y h k e =
          let m : ◌≡◌ {A = List ℕ × List ℕ} ([], s) (a, t) = cc in
          let ma : [] ≡ a = ap (λ (y : List ℕ × List ℕ). y.0) m in
          let mt : s ≡ t = ap (λ (y : List ℕ × List ℕ). y.1) m in
          let q : b ≡ stop = eqb-true b stop h in
          (rw (← ma, ← mt, q), rw (← ma) tt)
      go ih false true h k e = (digit-sound b (digits_on stop s) s a t k ih e).0
      go ih false false h k e = let z : ◌≡◌ {A = ℕ} 0 1 = cc in absurd (omega arith)

  digits-complete : (ds t : List ℕ) → RowFit ds → digits stop ((digit_bytes ds ++ (stop ∷ [])) ++ t) ≡ some (ds, t)
  unfolding digits with_digit RowFit digit_bytes
  digits-complete [] t f = absurd f
  digits-complete (d ∷ ds) t f =
      let h : d ≤ 9 = f.0 in
      let m : 48 + d - 48 ≡ d = omega arith in
      rw (
        digit-yes (48 + d) (omega arith) (omega arith),
        append_assoc (digit_bytes ds) (stop ∷ []) t,
        digits-on-complete ds t f.1,
        m,
      )

  digits-sound : (s a t : List ℕ) → digits stop s ≡ some (a, t)
      → (s ≡ (digit_bytes a ++ (stop ∷ [])) ++ t) × RowFit a
  unfolding digits
  digits-sound [] a t e = let z : ◌≡◌ {A = ℕ} 0 1 = cc in absurd (omega arith)
  digits-sound (b ∷ s) a t e = go (digit b) refl e
    where
      go : (y : Bool) → digit b ≡ y → cond y (with_digit (b - 48) (digits_on stop s)) none ≡ some (a, t)
          → (b ∷ s ≡ (digit_bytes a ++ (stop ∷ [])) ++ t) × RowFit a
      go true h k =
          let v : Row (b ∷ s) a t × RowFit a = digit-sound b (digits_on stop s) s a t h (digits-on-sound s) k in
          (rw append_assoc v.0.0, v.1)
      go false h k = let z : ◌≡◌ {A = ℕ} 0 1 = cc in absurd (omega arith)

  pub digits-prints : Prints (digits stop) (λ ds. digit_bytes ds ++ (stop ∷ [])) RowFit
  digits-prints = record { sound = digits-sound; complete = digits-complete }
