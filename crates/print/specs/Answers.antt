-- Answers as text, 01's "Page program": what the page program prints.
--
--   answers_word        the first line, `(answers`
--   refused_word, pass_word, conflict_word  what these lines start with
--   letter side         w for wall, o for open
--   show_literal l      a space, the border's number and the letter
--   show_reply r        the line of a call's answer; a call that is done has none
--   show_answers rs     the whole output: (answers, the lines, )
--   code_text k         the text of the literal that reason memory holds as the number k
--   text_of l           the bytes of a line
use Rattle.std.specs.Prelude.{cond, List, [], ◌∷◌, ◌++◌, ℕ, ◌/◌, ◌%◌, eqb, take}
use Rattle.rules.specs.declared.Side.{Side}
use Rattle.rules.specs.declared.Side.TheVariants.{Wall, Open}
use Rattle.rules.specs.declared.Literal.{Literal}
use Rattle.rules.specs.Check.{pass, conflict}
use Rattle.rules.specs.Book.{Reply, refused, done, answered}
use Rattle.page.specs.Grammar.{bracket, newline, end_word}
use Rattle.page.specs.PageText.{counted}
use Rattle.page.specs.Many.{show_all}
use Rattle.print.specs.declared.Line.{Line}

-- `(answers` and its newline
abbrev pub answers_word : List ℕ
answers_word = 40 ∷ 97 ∷ 110 ∷ 115 ∷ 119 ∷ 101 ∷ 114 ∷ 115 ∷ 10 ∷ []

-- `(refused `
abbrev pub refused_word : List ℕ
refused_word = 40 ∷ 114 ∷ 101 ∷ 102 ∷ 117 ∷ 115 ∷ 101 ∷ 100 ∷ 32 ∷ []

-- `(pass `
abbrev pub pass_word : List ℕ
pass_word = 40 ∷ 112 ∷ 97 ∷ 115 ∷ 115 ∷ 32 ∷ []

-- `(conflict`
abbrev pub conflict_word : List ℕ
conflict_word = 40 ∷ 99 ∷ 111 ∷ 110 ∷ 102 ∷ 108 ∷ 105 ∷ 99 ∷ 116 ∷ []

-- "wall (w) or open (o)"
abbrev pub letter : Side → ℕ
letter Wall = 119
letter Open = 111

unfoldable pub show_literal : Literal → List ℕ
show_literal l = 32 ∷ counted l.border (letter l.side)

-- "A refused call prints `(refused n)`"; "The number after pass counts undecided borders; conflict lists literals, none
-- for an empty reason"
unfoldable pub show_reply : Reply → List ℕ
show_reply (refused n) = refused_word ++ (counted n bracket ++ newline)
show_reply done = []
show_reply (answered (pass n)) = pass_word ++ (counted n bracket ++ newline)
show_reply (answered (conflict ls)) = conflict_word ++ (show_all show_literal ls ++ end_word)

-- "It prints `(answers`, one line a check or refused call, `)`"
unfoldable pub show_answers : List Reply → List ℕ
show_answers rs = answers_word ++ (show_all show_reply rs ++ end_word)

-- "a literal is 2·border, plus 1 for wall"
unfoldable pub code_text : ℕ → List ℕ
code_text k = 32 ∷ counted (k / 2) (cond (eqb (k % 2) 1) 119 111)

unfoldable pub text_of : Line → List ℕ
text_of l = take l.count l.bytes
