-- Laws of the judgement, one for each return of the code; and the number of a page that is well formed.
use Rattle.std.specs.Prelude.{◌≡◌, Bool, true, false, ◌&&◌, cond, length}
use Rattle.std.proofs.Common.{sym, ap, ◌∙◌}
use mathlib.Core.List.Memᴰ
use mathlib.Core.List.{List, [], ◌∷◌}
use Rattle.std.proofs.Math.Option.{Option, none, some}
use Prim.Native.Nat.{ℕ, suc, ◌+◌, ◌-◌, ◌<◌, ◌≤◌}
use Rattle.std.proofs.Math.Decide.{ℕ_discrete}
use native.Mathlib.Omega.{arith}
use Rattle.std.proofs.Math.Dec.{eqb}
use borrow.Author.Tests.{eq-eqb, ne_eqb, le-leb, lt-leb}
use Rattle.lists.specs.Lists.{◌∈◌, all}
use Rattle.lists.specs.Tests.{all_below}
use Rattle.lists.specs.TableLaws.{length-table}
use Rattle.lists.specs.Booleans.{and-fails}
use Rattle.lists.specs.TestLaws.{all-fails, all-every, all-at}
use Rattle.lists.specs.AnyAll.{all-table}
use Rattle.board.specs.Alien.{size_right}
use Rattle.page.specs.Grammar.{Sheet, page_of}
use Rattle.page.specs.Places.{digit_at, digits_in}
use Rattle.page.specs.Judge.{rejected, accepted, rows_fit, low, two_colours}
use Rattle.page.specs.Judge.{judge_sheet, judge_read, judgement_of}

pub length_digits : (s : List ℕ) (a e : ℕ) → length (digits_in s a e) ≡ e - a
unfolding digits_in
length_digits s a e = length-table (e - a) (λ i. digit_at s (a + i))

-- the digits from a up to p are 0 or 1
unfoldable pub LowTo : List ℕ → ℕ → ℕ → Type 0
LowTo s a p = all_below (p - a) (λ i. low (digit_at s (a + i))) ≡ true

module _ (s : List ℕ) (a : ℕ) where
  low-digits : (e : ℕ) → all low (digits_in s a e) ≡ all_below (e - a) (λ i. low (digit_at s (a + i)))
  unfolding digits_in
  low-digits e = all-table low (e - a) (λ i. digit_at s (a + i))

  pub low-none : LowTo s a a
  unfolding LowTo all_below
  low-none = let e : a - a ≡ 0 = omega arith in rw e

  pub low-more : (p : ℕ) → a ≤ p → digit_at s p ≤ 1 → LowTo s a p → LowTo s a (p + 1)
  unfolding LowTo all_below low
  low-more p h l t =
      let e : p + 1 - a ≡ suc (p - a) = omega arith in
      let f : a + (p - a) ≡ p = omega arith in
      rw (e, t, f, le-leb (digit_at s p) 1 l)

  pub low-fails : (p e : ℕ) → a ≤ p → p < e → 1 < digit_at s p → all low (digits_in s a e) ≡ false
  unfolding low
  low-fails p e h k l =
      let f : a + (p - a) ≡ p = omega arith in
      low-digits e ∙ all-fails (e - a) (λ i. low (digit_at s (a + i))) (p - a) (omega arith)
      (rw f (lt-leb (digit_at s p) 1 l))

  pub low-all : (p e : ℕ) → e ≤ p → LowTo s a p → all low (digits_in s a e) ≡ true
  unfolding LowTo
  low-all p e h t =
      low-digits e ∙ all-every (e - a) (λ i. low (digit_at s (a + i)))
      (λ i l. all-at (p - a) (λ i. low (digit_at s (a + i))) i t (omega arith))

-- rows
one_less : (n m : ℕ) → 0 < n → eqb n (suc m) ≡ eqb (n - 1) m
one_less n m l = go (ℕ_discrete (n - 1) m)
  where
    go : Dec (n - 1 ≡ m) → eqb n (suc m) ≡ eqb (n - 1) m
    go (yes q) = eq-eqb n (suc m) (omega arith) ∙ sym (eq-eqb (n - 1) m q)
    go (no q) = ne_eqb n (suc m) (λ e. q (omega arith)) ∙ sym (ne_eqb (n - 1) m q)

module _ (h w : ℕ) {rows : List (List ℕ)} where
  pub rows_none : rows ≡ [] → rows_fit h w rows ≡ eqb h 0
  unfolding rows_fit all
  rows_none e = rw e

  module _ {ds : List ℕ} {more : List (List ℕ)} (e : rows ≡ ds ∷ more) where
    pub rows-many : h ≡ 0 → rows_fit h w rows ≡ false
    unfolding rows_fit
    rows-many z =
        rw e
        (and-fails (all (λ (k : List ℕ). eqb (length k) w) (ds ∷ more)) (eqb h (length (ds ∷ more)))
        (ne_eqb h (length (ds ∷ more)) (λ q. omega arith)))

    pub rows_other : (length ds ≡ w → ⊥) → rows_fit h w rows ≡ false
    unfolding rows_fit all
    rows_other n = rw (e, ne_eqb (length ds) w n)

    pub rows_more : 0 < h → length ds ≡ w → rows_fit h w rows ≡ rows_fit (h - 1) w more
    unfolding rows_fit all
    rows_more p q =
        rw (e, eq-eqb (length ds) w q)
        (ap (λ (b : Bool). all (λ (k : List ℕ). eqb (length k) w) more && b) (one_less h (length more) p))

-- the judgement
module _ (p : Sheet) where
  pub not-sized : size_right p.height p.width ≡ false → judge_sheet p ≡ rejected 1
  unfolding judge_sheet
  not-sized e = rw e

  module _ (a : size_right p.height p.width ≡ true) where
    pub ragged : rows_fit p.height p.width p.rows ≡ false → judge_sheet p ≡ rejected 2
    unfolding judge_sheet
    ragged e = rw (a, e)

    module _ (b : rows_fit p.height p.width p.rows ≡ true) where
      pub discoloured : two_colours p.rows ≡ false → judge_sheet p ≡ rejected 3
      unfolding judge_sheet
      discoloured e = rw (a, b, e)

      pub right : two_colours p.rows ≡ true → judge_sheet p ≡ accepted p
      unfolding judge_sheet
      right e = rw (a, b, e)

module _ (s : List ℕ) where
  pub malformed : page_of s ≡ none → judgement_of s ≡ rejected 10
  unfolding judgement_of judge_read
  malformed e = rw e

  pub formed : (p : Sheet) → page_of s ≡ some p → judgement_of s ≡ judge_sheet p
  unfolding judgement_of judge_read
  formed p e = rw e

-- the numbers with which a page is rejected
pub rejected-is : (k n : ℕ) → rejected k ≡ rejected n → n ≡ k
rejected-is k n e = cc

pub sheet-number : (p : Sheet) (n : ℕ) → judge_sheet p ≡ rejected n → n ∈ (1 ∷ 2 ∷ 3 ∷ [])
unfolding judge_sheet
sheet-number p n e =
    go (size_right p.height p.width) (rows_fit p.height p.width p.rows) (two_colours p.rows) e
  where
    go : (a b c : Bool)
        → cond a (cond b (cond c (accepted p) (rejected 3)) (rejected 2)) (rejected 1) ≡ rejected n
        → n ∈ (1 ∷ 2 ∷ 3 ∷ [])
    go true true true q = let z : ◌≡◌ {A = ℕ} 0 1 = cc in absurd (omega arith)
    go true true false q = Memᴰ.tail (Memᴰ.tail (Memᴰ.head (rejected-is 3 n q)))
    go true false c q = Memᴰ.tail (Memᴰ.head (rejected-is 2 n q))
    go false b c q = Memᴰ.head (rejected-is 1 n q)
