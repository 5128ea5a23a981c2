-- Laws of flags: a loop that sets them one by one, and the flags of a filter of the numbers below a bound.
--
--   Flagged xs F         the flags F of 1024 numbers are those of xs
use Rattle.std.specs.Prelude.{◌≡◌, refl, Bool, true, false, ◌||◌, List, [], ◌∷◌, ℕ, ◌+◌, ◌<◌, ◌≤◌, eqb, length, get_or}
use Rattle.std.specs.Prelude.{set, replicate}
use Rattle.std.proofs.Common.{◌∙◌, arith, eq-eqb, ne_eqb, length-set, get_or-set_same, get_or-set_other}
use Rattle.std.proofs.lemmas.List.{length-replicate}
use Rattle.lists.specs.Lists.{any, filter, range}
use Rattle.lists.specs.PaddedLaws.{zeros}
use Rattle.lists.specs.TableLaws.{get_d-table, length-table, table_is}
use Rattle.lists.specs.Parts.{part}
use Rattle.lists.specs.Arithmetic.{if-same}
use Rattle.lists.specs.Appends.{any_append}
use Rattle.lists.specs.PartLaws.{part_none, part-more}
use Rattle.lists.specs.Count.{bit}
use Rattle.lists.specs.CountLaws.{bit_is}
use Rattle.lists.specs.Filters.{any-filter}
use Rattle.reasons.specs.Arrays.{is_flagged}
use Rattle.stuck.specs.Writing.{flags_of}

pub record Flagged (xs F : List ℕ) : Type 0 where
  pub long : length F ≡ 1024
  pub each : (q : ℕ) → get_or F q 0 ≡ bit (any (eqb q) xs)

pub flags_long : (xs : List ℕ) → length (flags_of xs) ≡ 1024
unfolding flags_of
flags_long xs = length-table 1024 _

pub flagged-none : (l : List ℕ) (from : ℕ) → Flagged (part l from from) (replicate 1024 0)
unfolding any
flagged-none l from =
    rw (part_none l from from (omega arith))
    (record { long = length-replicate {A = ℕ} 1024 0; each = λ q. zeros 1024 q })

-- one number more
set-flag : (a b : Bool) → b ≡ true → 1 ≡ bit (a || (b || false))
set-flag true b e = refl
set-flag false b e = rw e

kept-flag : (a b : Bool) → b ≡ false → bit a ≡ bit (a || (b || false))
kept-flag true b e = refl
kept-flag false b e = rw e

pub flagged-more : (l : List ℕ) (from i : ℕ) {F : List ℕ} → from ≤ i → i < length l → get_or l i 0 < 1024
    → Flagged (part l from i) F → Flagged (part l from (i + 1)) (set F (get_or l i 0) 1)
unfolding any
flagged-more l from i {F} h k low f =
    let v = get_or l i 0 in
    record {
      long = length-set F v 1 ∙ f.long;
      each =
          λ q.
          rw (
            part-more l from i h k,
            any_append (eqb q) (part l from i) (v ∷ []),
          )
          (if-same q v
          (λ e. rw e (get_or-set_same F v 1 0 (omega (arith, f.long))
          ∙ set-flag (any (eqb v) (part l from i)) (eqb v v) (eq-eqb v v refl)))
          (λ e. get_or-set_other F v q 1 0 e ∙ f.each q
          ∙ kept-flag (any (eqb q) (part l from i)) (eqb q v) (ne_eqb q v e)));
    }

pub flagged-all : {xs F : List ℕ} → Flagged xs F → F ≡ flags_of xs
unfolding flags_of
flagged-all {xs} {F} f = table_is 1024 (λ q. bit (any (eqb q) xs)) 0 F f.long (λ i l. f.each i)

pub flagged-is : (f : ℕ → Bool) (n q : ℕ) → n ≤ 1024 → q < n → is_flagged (flags_of (filter f (range n))) q ≡ f q
unfolding is_flagged flags_of
flagged-is f n q few h =
    rw (get_d-table 1024 (λ x. bit (any (eqb x) (filter f (range n)))) q 0 (omega arith))
    (bit_is (any (eqb q) (filter f (range n))) ∙ any-filter f n q h)
