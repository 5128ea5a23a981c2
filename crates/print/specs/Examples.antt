-- 01's sample output, and the empty reason.
use Rattle.std.specs.Prelude.{◌≡◌, refl, List, [], ◌∷◌, ℕ}
use Rattle.rules.specs.declared.Side.TheVariants.{Wall}
use Rattle.rules.specs.Check.{pass, conflict}
use Rattle.rules.specs.Book.{answered}
use Rattle.page.specs.Decimal.{decimal_in, decimal}
use Rattle.page.specs.Many.{show_all}
use Rattle.print.specs.Answers.{show_literal, show_reply, show_answers}

-- `(answers` `(pass 1)` `(conflict 0w)` `(pass 0)` `)`
abbrev pub sample_text : List ℕ
sample_text =
    40 ∷ 97 ∷ 110 ∷ 115 ∷ 119 ∷ 101 ∷ 114 ∷ 115 ∷ 10 ∷ 40 ∷ 112 ∷ 97 ∷ 115 ∷ 115 ∷ 32 ∷ 49 ∷ 41 ∷ 10 ∷ 40 ∷ 99 ∷
    111 ∷ 110 ∷ 102 ∷ 108 ∷ 105 ∷ 99 ∷ 116 ∷ 32 ∷ 48 ∷ 119 ∷ 41 ∷ 10 ∷ 40 ∷ 112 ∷ 97 ∷ 115 ∷ 115 ∷ 32 ∷ 48 ∷ 41 ∷
    10 ∷ 41 ∷ 10 ∷ []

pub sample-answers : show_answers (answered (pass 1)
    ∷ answered (conflict (record { border = 0; side = Wall } ∷ [])) ∷ answered (pass 0) ∷ []) ≡ sample_text
unfolding decimal_in decimal show_all show_literal show_reply show_answers
sample-answers = refl

-- `(conflict)`, with no space
pub empty-reason : show_reply (answered (conflict [])) ≡ 40 ∷ 99 ∷ 111 ∷ 110 ∷ 102 ∷ 108 ∷ 105 ∷ 99 ∷ 116 ∷ 41 ∷ 10 ∷ []
unfolding show_all show_reply
empty-reason = refl
