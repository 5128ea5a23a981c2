-- Laws of the parsers at a place of the bytes, one for each return of the code.
use Rattle.std.proofs.Math.Path.{◌≡◌, refl}
use Rattle.std.proofs.Common.{sym, ap, ◌∙◌, add-one, arith, length-drop, drop-cons}
use Rattle.std.specs.Prelude.{Bool, ◌&&◌, ℕ, zero, suc, ◌+◌, ◌-◌, ◌*◌, ◌<◌, ◌≤◌, min, length, take, drop, get_or, ltb}
use Rattle.std.specs.List.{starts_with}
use Rattle.std.specs.Char.{is_ascii_digit}
use Rattle.std.proofs.lemmas.List.{drop_min, take_all, drop-drop, get_or-drop}
use Rattle.std.proofs.Math.Bool.{true, false, cond}
use mathlib.Core.List.{List, [], ◌∷◌, ◌++◌, append-nil, append_assoc}
use Rattle.std.proofs.Math.Option.{Option, none, some}
use Rattle.std.proofs.Math.Dec.{leb, eqb}
use borrow.Author.Tests.{lt-ltb, le-ltb, le-leb, lt-leb, eq-eqb, ne_eqb, leb-true}
use Rattle.lists.specs.Table.{table}
use Rattle.lists.specs.Arithmetic.{eqb_swap}
use Rattle.lists.specs.Booleans.{and_left, and_right}
use Rattle.page.specs.Parsers.{rest, strip, number, number_on, may_follow, with_digit, digits_on, digits, digit}
use Rattle.page.specs.Places.{digit_at, digits_in}

pub length_rest : (s : List ℕ) (p : ℕ) → length (rest s p) ≡ length s - p
unfolding rest
length_rest s p = length-drop p s

pub rest_all : (s : List ℕ) → rest s 0 ≡ s
unfolding rest
rest_all s = refl

pub rest-past : (s : List ℕ) (p : ℕ) → length s ≤ p → rest s p ≡ []
unfolding rest
rest-past [] zero h = refl
rest-past [] (suc p) h = refl
rest-past (a ∷ s) zero h = absurd (omega arith)
rest-past (a ∷ s) (suc p) h = rest-past s p (omega arith)

pub rest_more : (s : List ℕ) (p : ℕ) → p < length s → rest s p ≡ get_or s p 0 ∷ rest s (p + 1)
unfolding rest
rest_more s p h = rw add-one (drop-cons s p 0 h)

-- the library's test of a digit
pub digit-told : (b : ℕ) {r x : Bool} → r ≡ is_ascii_digit b → r ≡ x → digit b ≡ x
unfolding digit
digit-told b e h = sym e ∙ h

-- a digit's byte lies between 48 and 57
pub digit_low : (b : ℕ) → digit b ≡ true → 48 ≤ b
unfolding digit
digit_low b e = leb-true 48 b (and_left (leb 48 b) (leb b 57) e)

pub digit-high : (b : ℕ) → digit b ≡ true → b ≤ 57
unfolding digit
digit-high b e = leb-true b 57 (and_right (leb 48 b) (leb b 57) e)

-- the bytes from the lesser of p and the length on
pub rest-cut : (s : List ℕ) (p n : ℕ) → n ≡ min p (length s) → take (length s - n) (drop n s) ≡ rest s p
unfolding rest
rest-cut s p n e = rw e (rw drop_min (take_all _ _ (omega (arith, length-drop p s))))

-- the bytes from p on, but for the first n
pub rest-rest : (s : List ℕ) (p n : ℕ) → rest (rest s p) n ≡ rest s (p + n)
unfolding rest
rest-rest s p n = drop-drop n p s

-- the bytes t are those of s from p on
module _ (s t : List ℕ) (p i : ℕ) (e : t ≡ rest s p) where
  pub rest-next : rest t (i + 1) ≡ rest s (p + i + 1)
  rest-next = let k : p + (i + 1) ≡ p + i + 1 = omega arith in rw (e, rest-rest s p (i + 1), k)

  pub rest-get : get_or t i 0 ≡ get_or s (p + i) 0
  unfolding rest
  rest-get = rw e (get_or-drop p s i 0)

  pub rest-in : i < length t → p + i < length s
  rest-in h = omega (arith, ap length e, length_rest s p)

  pub rest-out : length t ≤ i → length s ≤ p + i
  rest-out h = omega (arith, ap length e, length_rest s p)

-- a word is read where the bytes start with it
pub strip-starts : (word s : List ℕ)
    → strip word s ≡ cond (starts_with eqb s word) (some (rest s (length word))) none
unfolding strip rest
strip-starts [] s = refl
strip-starts (a ∷ word) [] = refl
strip-starts (a ∷ word) (b ∷ s) = rw (eqb_swap b a) (go (eqb a b) (strip-starts word s))
  where
    go : (x : Bool) → strip word s ≡ cond (starts_with eqb s word) (some (rest s (length word))) none
        → cond x (strip word s) none
        ≡ cond (x && starts_with eqb s word) (some (rest s (length word))) none
    go true ih = ih
    go false ih = refl

-- what may follow a number
module _ (v b : ℕ) where
  pub may-not : digit b ≡ false → may_follow v b ≡ false
  unfolding may_follow digit
  may-not e = go (leb 48 b) (leb b 57) e
    where
      go : (x y : Bool) → x && y ≡ false → x && (y && (ltb 0 v && leb (v * 10 + (b - 48)) 2147483647)) ≡ false
      go true true h = let z : ◌≡◌ {A = ℕ} 0 1 = cc in absurd (omega arith)
      go true false h = refl
      go false y h = refl

  module _ (d : digit b ≡ true) where
    low : leb 48 b ≡ true
    unfolding digit
    low = and_left (leb 48 b) (leb b 57) d

    high : leb b 57 ≡ true
    unfolding digit
    high = and_right (leb 48 b) (leb b 57) d

    pub may-zero : v ≡ 0 → may_follow v b ≡ false
    unfolding may_follow
    may-zero z = rw (low, high, le-ltb 0 v (omega arith))

    pub may-large : 0 < v → 2147483647 < v * 10 + (b - 48) → may_follow v b ≡ false
    unfolding may_follow
    may-large z g = rw (low, high, lt-ltb 0 v z, lt-leb (v * 10 + (b - 48)) 2147483647 g)

    pub may : 0 < v → v * 10 + (b - 48) ≤ 2147483647 → may_follow v b ≡ true
    unfolding may_follow
    may z g = rw (low, high, lt-ltb 0 v z, le-leb (v * 10 + (b - 48)) 2147483647 g)

-- numbers
module _ (s : List ℕ) (p stop v : ℕ) where
  pub on-past : length s ≤ p → number_on stop v (rest s p) ≡ none
  unfolding number_on
  on-past h = rw (rest-past s p h)

  pub on-stop : p < length s → get_or s p 0 ≡ stop → number_on stop v (rest s p) ≡ some (v, rest s (p + 1))
  unfolding number_on
  on-stop h e = rw (rest_more s p h, eq-eqb (get_or s p 0) stop e)

  pub on-not : p < length s → (get_or s p 0 ≡ stop → ⊥) → may_follow v (get_or s p 0) ≡ false
      → number_on stop v (rest s p) ≡ none
  unfolding number_on
  on-not h n m = rw (rest_more s p h, ne_eqb (get_or s p 0) stop n, m)

  pub on-more : p < length s → (get_or s p 0 ≡ stop → ⊥) → may_follow v (get_or s p 0) ≡ true
      → number_on stop v (rest s p) ≡ number_on stop (v * 10 + (get_or s p 0 - 48)) (rest s (p + 1))
  unfolding number_on
  on-more h n m = rw (rest_more s p h, ne_eqb (get_or s p 0) stop n, m)

module _ (s : List ℕ) (p stop : ℕ) where
  pub number_past : length s ≤ p → number stop (rest s p) ≡ none
  unfolding number
  number_past h = rw (rest-past s p h)

  pub number-not : p < length s → digit (get_or s p 0) ≡ false → number stop (rest s p) ≡ none
  unfolding number
  number-not h e = rw (rest_more s p h, e)

  pub parse-number-first : p < length s → digit (get_or s p 0) ≡ true
      → number stop (rest s p) ≡ number_on stop (get_or s p 0 - 48) (rest s (p + 1))
  unfolding number
  parse-number-first h e = rw (rest_more s p h, e)

-- digits: those that were passed stand in front of what is read on
pub digits-in-more : (s : List ℕ) (a p : ℕ) → a ≤ p → digits_in s a (p + 1) ≡ digits_in s a p ++ (digit_at s p ∷ [])
unfolding digits_in table
digits-in-more s a p h =
    let e : p + 1 - a ≡ suc (p - a) = omega arith in
    let f : a + (p - a) ≡ p = omega arith in
    rw (e, f)

pub digits-in-none : (s : List ℕ) (a : ℕ) → digits_in s a a ≡ []
unfolding digits_in table
digits-in-none s a = let e : a - a ≡ 0 = omega arith in rw e

unfoldable pub after_digits : List ℕ → Option (List ℕ × List ℕ) → Option (List ℕ × List ℕ)
after_digits ds none = none
after_digits ds (some p) = some (ds ++ p.0, p.1)

after-nil : (o : Option (List ℕ × List ℕ)) → after_digits [] o ≡ o
unfolding after_digits
after-nil none = refl
after-nil (some p) = refl

after-digit : (ds : List ℕ) (d : ℕ) (o : Option (List ℕ × List ℕ))
    → after_digits ds (with_digit d o) ≡ after_digits (ds ++ (d ∷ [])) o
unfolding after_digits with_digit
after-digit ds d none = refl
after-digit ds d (some p) = rw append_assoc

module _ (s : List ℕ) (p stop : ℕ) where
  pub digits-none : length s ≤ p → digits stop (rest s p) ≡ none
  unfolding digits
  digits-none h = rw (rest-past s p h)

  pub digits-not : p < length s → digit (get_or s p 0) ≡ false → digits stop (rest s p) ≡ none
  unfolding digits
  digits-not h e = rw (rest_more s p h, e)

  pub digits-first : p < length s → digit (get_or s p 0) ≡ true
      → digits stop (rest s p) ≡ after_digits (digits_in s p (p + 1)) (digits_on stop (rest s (p + 1)))
  unfolding digits digit_at
  digits-first h e =
      rw (
        digits-in-more s p p (omega arith),
        digits-in-none s p,
        ← after-digit [] (get_or s p 0 - 48) (digits_on stop (rest s (p + 1))),
        rest_more s p h,
        e,
      )
      (sym (after-nil _))

  pub digits-past : (ds : List ℕ) → length s ≤ p → after_digits ds (digits_on stop (rest s p)) ≡ none
  unfolding digits_on after_digits
  digits-past ds h = rw (rest-past s p h)

  pub digits-stop : (ds : List ℕ) → p < length s → get_or s p 0 ≡ stop
      → after_digits ds (digits_on stop (rest s p)) ≡ some (ds, rest s (p + 1))
  unfolding digits_on after_digits
  digits-stop ds h e = rw (rest_more s p h, eq-eqb (get_or s p 0) stop e, append-nil)

  pub digits-bad : (ds : List ℕ) → p < length s → (get_or s p 0 ≡ stop → ⊥) → digit (get_or s p 0) ≡ false
      → after_digits ds (digits_on stop (rest s p)) ≡ none
  unfolding digits_on after_digits
  digits-bad ds h n e = rw (rest_more s p h, ne_eqb (get_or s p 0) stop n, e)

  pub digits_more : (a : ℕ) → a ≤ p → p < length s → (get_or s p 0 ≡ stop → ⊥) → digit (get_or s p 0) ≡ true
      → after_digits (digits_in s a p) (digits_on stop (rest s p))
      ≡ after_digits (digits_in s a (p + 1)) (digits_on stop (rest s (p + 1)))
  unfolding digits_on digit_at
  digits_more a l h n e =
      rw (
        digits-in-more s a p l,
        ← after-digit (digits_in s a p) (get_or s p 0 - 48) (digits_on stop (rest s (p + 1))),
        rest_more s p h,
        ne_eqb (get_or s p 0) stop n,
        e,
      )
