-- 01's sample page, and a draft with the largest clue; proofs/JudgedLaws has how they are judged.
use Rattle.std.specs.Prelude.{◌≡◌, refl, List, [], ◌∷◌, ℕ}
use Rattle.lists.specs.Lists.{or_else, all, any}
use Rattle.rules.specs.declared.Side.TheVariants.{Wall, Open}
use Rattle.rules.specs.declared.Call.TheVariants.{Decide, Undo, Check}
use Rattle.board.specs.Alien.{size_right}
use Rattle.page.specs.Parsers.{strip, also, onto, give, lead, followed, either, both, map_r, and_on, times, many}
use Rattle.page.specs.Parsers.{rep, digit, may_follow, number_on, number, with_digit, digits_on, digits}
use Rattle.page.specs.Grammar.{size, row, clue, side, decide_call, call, close, sheet, on_page, same_cell, clues_fit}
use Rattle.page.specs.Grammar.{Sheet, whole, page_of}
use Rattle.page.specs.Judge.{accepted, rows_fit, low, two_colours, judge_sheet, judge_read}
use Rattle.page.specs.Judge.{judgement_of}

-- `(page` `(size 1 2)` `(row 01)` `(check)` `(decide 0 1)` `(check)` `(undo)` `(decide 0 0)` `(check)` `)`
abbrev pub sample : List ℕ
sample =
    40 ∷ 112 ∷ 97 ∷ 103 ∷ 101 ∷ 10 ∷ 40 ∷ 115 ∷ 105 ∷ 122 ∷ 101 ∷ 32 ∷ 49 ∷ 32 ∷ 50 ∷ 41 ∷ 10 ∷ 40 ∷ 114 ∷ 111 ∷
    119 ∷ 32 ∷ 48 ∷ 49 ∷ 41 ∷ 10 ∷ 40 ∷ 99 ∷ 104 ∷ 101 ∷ 99 ∷ 107 ∷ 41 ∷ 10 ∷ 40 ∷ 100 ∷ 101 ∷ 99 ∷ 105 ∷ 100 ∷ 101 ∷
    32 ∷ 48 ∷ 32 ∷ 49 ∷ 41 ∷ 10 ∷ 40 ∷ 99 ∷ 104 ∷ 101 ∷ 99 ∷ 107 ∷ 41 ∷ 10 ∷ 40 ∷ 117 ∷ 110 ∷ 100 ∷ 111 ∷ 41 ∷ 10 ∷
    40 ∷ 100 ∷ 101 ∷ 99 ∷ 105 ∷ 100 ∷ 101 ∷ 32 ∷ 48 ∷ 32 ∷ 48 ∷ 41 ∷ 10 ∷ 40 ∷ 99 ∷ 104 ∷ 101 ∷ 99 ∷ 107 ∷ 41 ∷ 10 ∷
    41 ∷ 10 ∷ []

abbrev pub sample_page : Sheet
sample_page =
    record {
      height = 1;
      width = 2;
      rows = (0 ∷ 1 ∷ []) ∷ [];
      clues = [];
      calls =
          Check ∷ Decide (record { border = 0; side = Wall }) ∷ Check ∷ Undo ∷
          Decide (record { border = 0; side = Open }) ∷ Check ∷ [];
    }

-- `(page` `(size 1 2)` `(row 01)` `(clue 0 0 2147483647)` `(check)` `)`
abbrev pub draft : List ℕ
draft =
    40 ∷ 112 ∷ 97 ∷ 103 ∷ 101 ∷ 10 ∷ 40 ∷ 115 ∷ 105 ∷ 122 ∷ 101 ∷ 32 ∷ 49 ∷ 32 ∷ 50 ∷ 41 ∷ 10 ∷ 40 ∷ 114 ∷ 111 ∷
    119 ∷ 32 ∷ 48 ∷ 49 ∷ 41 ∷ 10 ∷ 40 ∷ 99 ∷ 108 ∷ 117 ∷ 101 ∷ 32 ∷ 48 ∷ 32 ∷ 48 ∷ 32 ∷ 50 ∷ 49 ∷ 52 ∷ 55 ∷ 52 ∷ 56 ∷
    51 ∷ 54 ∷ 52 ∷ 55 ∷ 41 ∷ 10 ∷ 40 ∷ 99 ∷ 104 ∷ 101 ∷ 99 ∷ 107 ∷ 41 ∷ 10 ∷ 41 ∷ 10 ∷ []

abbrev pub draft_page : Sheet
draft_page =
    record {
      height = 1;
      width = 2;
      rows = (0 ∷ 1 ∷ []) ∷ [];
      clues = record { y = 0; x = 0; n = 2147483647 } ∷ [];
      calls = Check ∷ [];
    }

pub both-accepted : (judgement_of sample ≡ accepted sample_page) × (judgement_of draft ≡ accepted draft_page)
unfolding strip also onto give lead followed either or_else both map_r and_on times many rep digit may_follow number_on
    number with_digit digits_on digits size row clue side decide_call call close sheet on_page same_cell clues_fit whole
    page_of all any size_right rows_fit low two_colours judge_sheet judge_read judgement_of
both-accepted = (refl, refl)
