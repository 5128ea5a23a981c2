-- What an answer of the code says, in the parsers' terms: the value and the rest of the bytes.
--
--   digit_at s p        the value of the digit at place p
--   digits_in s a e     the values of the digits from place a up to place e
--   left_from s r       what is left at the place r
--   got_value s r       the value that was read, and what is left
--   got_digits s r      the digits that were read, and what is left
--   all_from r s p      what r reads, one value after the other, from place p on
--   end_from r s p      what is left then
--   after_read o        what is left after what was read
--   after_line l s      what is left after a line of the kind l
--   end_of l s p        what is left after the lines of the kind l from place p on
--   sheet_at s p        the page whose parts stand at the places p
--   form_of s r         that page, or none
--   unfit_number u      01's number of the refusal u
--   judged_of s r       the number, or that page
use Rattle.std.specs.Prelude.{List, ℕ, ◌+◌, ◌-◌, get_or, Option as Read, Some, None, Result, Ok, Err}
use Rattle.std.proofs.Math.Option.{Option, none, some}
use Rattle.lists.specs.Table.{table}
use Rattle.page.specs.Parsers.{Parser, rest, many}
use Rattle.page.specs.Grammar.{Sheet, row, clue, call}
use Rattle.page.specs.Judge.{Judgement, rejected, accepted}
use Rattle.page.specs.declared.Span.{Span}
use Rattle.page.specs.declared.Line.{Line}
use Rattle.page.specs.declared.Line.TheVariants as line_kind
use Rattle.page.specs.declared.Parts.{Parts}
use Rattle.page.specs.declared.Unfit.{Unfit}
use Rattle.page.specs.declared.Unfit.TheVariants as unfit

unfoldable pub digit_at : List ℕ → ℕ → ℕ
digit_at s p = get_or s p 0 - 48

unfoldable pub digits_in : List ℕ → ℕ → ℕ → List ℕ
digits_in s a e = table (e - a) (λ i. digit_at s (a + i))

unfoldable pub left_from : List ℕ → Read ℕ → Option (List ℕ)
left_from s (Some p) = some (rest s p)
left_from s None = none

unfoldable pub got_value : {A : Type 0} → List ℕ → Read (A × ℕ) → Option (A × List ℕ)
got_value s (Some p) = some (p.0, rest s p.1)
got_value s None = none

unfoldable pub got_digits : List ℕ → Read (Span × ℕ) → Option (List ℕ × List ℕ)
got_digits s (Some p) = some (digits_in s p.0.from p.0.to, rest s p.1)
got_digits s None = none

module _ {A : Type 0} where
  unfoldable pub all_from : Parser A → List ℕ → ℕ → List A
  all_from r s p = (many r (rest s p)).0

  unfoldable pub end_from : Parser A → List ℕ → ℕ → List ℕ
  end_from r s p = (many r (rest s p)).1

  unfoldable pub after_read : Option (A × List ℕ) → Option (List ℕ)
  after_read none = none
  after_read (some x) = some x.1

unfoldable pub after_line : Line → List ℕ → Option (List ℕ)
after_line line_kind.Row s = after_read (row s)
after_line line_kind.Clue s = after_read (clue s)
after_line line_kind.Call s = after_read (call s)

unfoldable pub end_of : Line → List ℕ → ℕ → List ℕ
end_of line_kind.Row s p = end_from row s p
end_of line_kind.Clue s p = end_from clue s p
end_of line_kind.Call s p = end_from call s p

unfoldable pub sheet_at : List ℕ → Parts → Sheet
sheet_at s p =
    record {
      height = p.height;
      width = p.width;
      rows = all_from row s p.rows;
      clues = all_from clue s p.clues;
      calls = all_from call s p.calls;
    }

unfoldable pub form_of : List ℕ → Read Parts → Option Sheet
form_of s (Some p) = some (sheet_at s p)
form_of s None = none

abbrev pub unfit_number : Unfit → ℕ
unfit_number unfit.Form = 10
unfit_number unfit.Size = 1
unfit_number unfit.Ragged = 2
unfit_number unfit.Colour = 3

unfoldable pub judged_of : List ℕ → Result Parts Unfit → Judgement
judged_of s (Err u) = rejected (unfit_number u)
judged_of s (Ok p) = accepted (sheet_at s p)
