-- Parsers: what the page's grammar is written with. A parser takes bytes off the front, and gives a value and the rest.
--
--   Parser A            a function from bytes to a value of A and the bytes after it, or none
--   rest s p            the bytes from place p on
--   strip word s        the bytes after word, if s starts with it
--   also o f            what f of the value read in o reads of the bytes left; none where nothing was read
--   onto o r            what r reads of the bytes o; none where o is none
--   give a              reads nothing: the value a
--   lead word r         the bytes of word, then r
--   followed r word     r, then the bytes of word
--   either r q          r, or q where r fails
--   both r q            r, then q: the pair of their values
--   map_r f r           r, with f of its value
--   and_on o s k        the value read in o before what k reads of the bytes left; no value and the bytes s where
--                       nothing was read
--   times n r           r as often as it succeeds, n times at most: the values and the rest
--   many r              r as often as it succeeds, up to the first failure: the values and the rest
--   rep r q             any number of r, then q
--   digit b             the byte b is one of 0 to 9
--   may_follow v b      the byte b is a digit that may stand after the number v
--   number_on stop v    the rest of a number that is v so far, and the byte stop after it
--   number stop         a decimal number without leading zeros, at most 2147483647, and the byte stop after it
--   with_digit d o      d before the digits read in o
--   digits_on stop      any number of digits, and the byte stop after them: the digits' values
--   digits stop         one digit or more, and the byte stop after them: the digits' values
use Rattle.std.specs.Prelude.{Bool, ◌&&◌, cond, List, [], ◌∷◌, ℕ, zero, suc, ◌+◌, ◌-◌, ◌*◌, length, drop, ltb, leb, eqb}
use Rattle.std.proofs.Math.Option.{Option, none, some}
use Rattle.lists.specs.Lists.{or_else}

abbrev pub Parser : Type 0 → Type 0
Parser A = List ℕ → Option (A × List ℕ)

unfoldable pub rest : List ℕ → ℕ → List ℕ
rest s p = drop p s

-- the rest after word, where the bytes start with it
unfoldable pub strip : List ℕ → List ℕ → Option (List ℕ)
strip [] s = some s
strip (a ∷ word) [] = none
strip (a ∷ word) (b ∷ s) = cond (eqb b a) (strip word s) none

-- what was read goes on to f; what is left goes on to r
module _ {A B : Type 0} where
  unfoldable pub also : Option (A × List ℕ) → (A → Parser B) → Option (B × List ℕ)
  also none f = none
  also (some p) f = f p.0 p.1

module _ {A : Type 0} where
  unfoldable pub onto : Option (List ℕ) → Parser A → Option (A × List ℕ)
  onto none r = none
  onto (some s) r = r s

  unfoldable pub give : A → Parser A
  give a s = some (a, s)

  unfoldable pub lead : List ℕ → Parser A → Parser A
  lead word r s = onto (strip word s) r

  unfoldable pub followed : Parser A → List ℕ → Parser A
  followed r word s = also (r s) (λ a t. lead word (give a) t)

  unfoldable pub either : Parser A → Parser A → Parser A
  either r q s = or_else (r s) (q s)

module _ {A B : Type 0} where
  unfoldable pub both : Parser A → Parser B → Parser (A × B)
  both r q s = also (r s) (λ a t. also (q t) (λ b u. some ((a, b), u)))

  unfoldable pub map_r : (A → B) → Parser A → Parser B
  map_r f r s = also (r s) (λ a t. some (f a, t))

module _ {A : Type 0} where
  -- nothing where the parser failed; else its value before what k reads of the rest
  unfoldable pub and_on : Option (A × List ℕ) → List ℕ → (List ℕ → List A × List ℕ) → List A × List ℕ
  and_on none s k = ([], s)
  and_on (some p) s k = (p.0 ∷ (k p.1).0, (k p.1).1)

  -- r as often as it succeeds, n times at most
  unfoldable pub times : ℕ → Parser A → List ℕ → List A × List ℕ
  times zero r s = ([], s)
  times (suc n) r s = and_on (r s) s (times n r)

  -- a parser that takes a byte succeeds at most as often as there are bytes
  unfoldable pub many : Parser A → List ℕ → List A × List ℕ
  many r s = times (length s) r s

unfoldable pub rep : {A B : Type 0} → Parser A → Parser B → Parser (List A × B)
rep r q s = also (q (many r s).1) (λ b t. some (((many r s).0, b), t))

-- the byte is one of 0 to 9, whose value is the byte less 48
unfoldable pub digit : ℕ → Bool
digit b = leb 48 b && leb b 57

-- a digit b may follow the number v: v is no leading zero, and the result is at most 2147483647
unfoldable pub may_follow : ℕ → ℕ → Bool
may_follow v b = leb 48 b && (leb b 57 && (ltb 0 v && leb (v * 10 + (b - 48)) 2147483647))

-- the rest of a number that stood at v, up to the byte stop
unfoldable pub number_on : ℕ → ℕ → Parser ℕ
number_on stop v [] = none
number_on stop v (b ∷ s) =
    cond (eqb b stop) (some (v, s)) (cond (may_follow v b) (number_on stop (v * 10 + (b - 48)) s) none)

unfoldable pub number : ℕ → Parser ℕ
number stop [] = none
number stop (b ∷ s) = cond (digit b) (number_on stop (b - 48) s) none

-- d before the digits that were read
unfoldable pub with_digit : ℕ → Option (List ℕ × List ℕ) → Option (List ℕ × List ℕ)
with_digit d none = none
with_digit d (some p) = some (d ∷ p.0, p.1)

-- digits up to the byte stop
unfoldable pub digits_on : ℕ → Parser (List ℕ)
digits_on stop [] = none
digits_on stop (b ∷ s) =
    cond (eqb b stop) (some ([], s)) (cond (digit b) (with_digit (b - 48) (digits_on stop s)) none)

unfoldable pub digits : ℕ → Parser (List ℕ)
digits stop [] = none
digits stop (b ∷ s) = cond (digit b) (with_digit (b - 48) (digits_on stop s)) none
