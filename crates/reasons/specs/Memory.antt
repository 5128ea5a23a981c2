-- Memory of a reason: what a function that writes literals says of it. It has 1,984 places for the numbers of the
-- literals. Working memory has one place more for each border, behind them, which is 0 until the border is named.
-- Memory of just 1,984 places takes every literal: it is for reasons that name no border twice.
--
--   Work                memory of a reason, and the place of the next literal
--   work_at m i         the memory m, with the next literal at the place i
--   named_in m b        the border b is named in m; it is not where m has no place for that
--   naming m b          m with the border b named; m as it is where it has no place for that
--   named_by p l        p with the literal l written and its border named; p as it is where the border is named, or
--                       where no place for a literal is left
--   named_all p ls      p with the literals ls, one after another
--   Spare m at          m has the places for literals, and `at` is one of them, or the first place behind them
--   Wrote m from ls after next  the literals ls were written into m from the place `from`, as named_all says: `after`
--                       is the memory afterwards, and `next` the next place
--   WordsWritten m words after r  the words were written into the lent memory m from its start: `after` is the memory
--                       afterwards, and r their number
use Rattle.std.specs.Prelude.{◌≡◌, Bool, cond, not, ◌||◌, List, [], ◌∷◌, ℕ, ◌+◌, ◌≤◌, eqb, leb, length, get_or, set}
use Rattle.std.proofs.lemmas.List.Edits.{sets}
use Rattle.rules.specs.declared.Literal.{Literal}
use Rattle.rules.specs.Codes.{literal_code}

pub record Work : Type 0 where
  pub memory : List ℕ
  pub next : ℕ

abbrev pub work_at : List ℕ → ℕ → Work
work_at m i = record { memory = m; next = i }

unfoldable pub named_in : List ℕ → ℕ → Bool
named_in m b = not (eqb (get_or m (1984 + b) 0) 0)

unfoldable pub naming : List ℕ → ℕ → List ℕ
naming m b = set m (1984 + b) 1

-- "A reason keeps the first of equal literals and drops later ones"
unfoldable pub named_by : Work → Literal → Work
named_by p l =
    cond (named_in p.memory l.border || leb 1984 p.next) p
    (work_at (set (naming p.memory l.border) p.next (literal_code l)) (p.next + 1))

unfoldable pub named_all : Work → List Literal → Work
named_all p [] = p
named_all p (l ∷ ls) = named_all (named_by p l) ls

pub record Spare (m : List ℕ) (at : ℕ) : Type 0 where
  pub long : 1984 ≤ length m
  pub room : at ≤ 1984

pub record Wrote (m : List ℕ) (from : ℕ) (ls : List Literal) (after : List ℕ) (next : ℕ) : Type 0 where
  pub is : work_at after next ≡ named_all (work_at m from) ls
  pub long : length after ≡ length m
  pub spare : Spare after next

-- "writes its literals from the start of the memory and nothing beyond"
pub record WordsWritten (m words after : List ℕ) (r : ℕ) : Type 0 where
  pub memory : after ≡ sets m 0 words
  pub count : r ≡ length words
