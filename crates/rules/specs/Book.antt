-- The book of a list of calls: what each call answers, from the puzzle and the calls alone.
--
--   Asked                 a call with its arguments; of reason memory only the length; a tally record where one is lent
--   ask n c               the call c, with n places of reason memory lent, and no record
--   Reply                 refused with a number, done, or the answer of a check
--   Book                  what the book keeps: a sequence of literals
--   fresh_book            what it keeps at first
--   state_if test m n     the state m where the test holds, otherwise n
--   states ls             the borders with exactly the literals ls decided
--   names ls b            the border b is in the sequence ls
--   with_last ls l        the sequence ls with the literal l put last
--   without_last ls       ls with the last literal taken off
--   bare_or ls r          refused with 8 on the empty sequence, otherwise r
--   looked ls c           the sequence that the call c is answered from, where the book's is ls
--   then_reply d r        the reply d where it is not done, otherwise r
--   done_book k c         what the book keeps after the call c, where it is done
--   after_by r k m        the book m where the reply r is done, otherwise k
--   tally_of u w o        the tally with u borders undecided, w walls and o open
--   same_tally t u        the tallies t and u have the same counts
--   or_alien test r       refused with 5 where the test holds, otherwise r
--   lent_after r t u      the record t after the reply r: u where it is done; none where none is lent
--   tally_at Z ls         the tally of the borders with the sequence ls
--   disagrees Z ls t      a record t is lent that is not the tally of the sequence ls
--   decide_reply Z ls l   what a decide of l answers: refused with 6 or 7, or done
--   check_reply Z ls n    what a check answers, where reason memory has n places
--   reply_to Z ls n c     what the call c answers, where reason memory has n places
--   reply Z k a           what the book k answers to a
--   after Z k a           the book after a
--   tally_after Z k a     the record that is lent to a, as it stands after a
--   book_from Z k as      the book after the list as, where it is k before
--   replies_from Z k as   the answers to the list as, where the book is k before
--   tallies_from Z k as   the records lent to the list as, each after its call, where the book is k before
--   book_after Z as       the book after the list as
--   replies Z as          its answers to the list
--   tallies Z as          the records lent to the list, each after its call
use Rattle.std.specs.Prelude.{Bool, true, false, cond, not, ◌&&◌, List, [], ◌∷◌, ◌++◌, ℕ, ◌-◌, eqb, ltb, length}
use Rattle.std.proofs.Math.Option.{Option, some, none}
use Rattle.lists.specs.Lists.{any, filter}
use Rattle.rules.specs.declared.Literal.{Literal}
use Rattle.rules.specs.declared.Tally.{Tally}
use Rattle.rules.specs.declared.Call.{Call}
use Rattle.rules.specs.declared.Call.TheVariants.{Decide, Undo, Check, Preview}
use Rattle.rules.specs.Page.{Puzzle, State, undecided, decided, is_wall, is_open}
use Rattle.rules.specs.Check.{Verdict, check}

pub record Asked : Type 0 where
  pub call : Call
  pub places : ℕ
  pub tally : Option Tally

-- every call without a record is made so
abbrev pub ask : ℕ → Call → Asked
ask n c = record { call = c; places = n; tally = none }

pub data Reply : Type 0 where
  refused : ℕ → Reply
  done : Reply
  answered : Verdict → Reply

pub record Book : Type 0 where
  pub sequence : List Literal

-- "It keeps a sequence of literals, at first empty"
abbrev pub fresh_book : Book
fresh_book = record { sequence = [] }

abbrev pub state_if : Bool → State → State → State
state_if true m n = m
state_if false m n = n

-- "the puzzle with exactly the sequence's literals decided"
unfoldable pub states : List Literal → ℕ → State
states [] b = undecided
states (l ∷ ls) b = state_if (eqb l.border b) (decided l.side) (states ls b)

-- "its border is in the sequence"
unfoldable pub names : List Literal → ℕ → Bool
names ls b = any (λ (l : Literal). eqb l.border b) ls

-- "puts its literal last", "takes the last literal off"
abbrev pub with_last : List Literal → Literal → List Literal
with_last ls l = ls ++ (l ∷ [])

unfoldable pub without_last : List Literal → List Literal
without_last [] = []
without_last (l ∷ []) = []
without_last (l ∷ k ∷ ls) = l ∷ without_last (k ∷ ls)

abbrev pub bare_or : List Literal → Reply → Reply
bare_or [] r = refused 8
bare_or (l ∷ ls) r = r

-- "the book answers it likewise, from a copy of its sequence": with the preview's literal put last
abbrev pub looked : List Literal → Call → List Literal
looked ls (Decide l) = ls
looked ls Undo = ls
looked ls Check = ls
looked ls (Preview l) = with_last ls l

-- "what decide followed by check would": the decide's reply d where it is refused, the check's r where it is done
abbrev pub then_reply : Reply → Reply → Reply
then_reply (refused n) r = refused n
then_reply done r = r
then_reply (answered f) r = answered f

-- a decide "puts its literal last", an undo "takes the last literal off"
unfoldable pub done_book : Book → Call → Book
done_book k (Decide l) = record { sequence = with_last k.sequence l }
done_book k Undo = record { sequence = without_last k.sequence }
done_book k Check = k
done_book k (Preview l) = k

-- "Checks and refused calls do not change the sequence"; a preview "leaves the sequence"
abbrev pub after_by : Reply → Book → Book → Book
after_by (refused n) k m = k
after_by done k m = m
after_by (answered f) k m = k

abbrev pub tally_of : ℕ → ℕ → ℕ → Tally
tally_of u w o = record { undecided = u; walls = w; opens = o }

abbrev pub same_tally : Tally → Tally → Bool
same_tally t u = eqb t.undecided u.undecided && eqb t.walls u.walls && eqb t.opens u.opens

-- "The lowest applicable number is given": 5 comes before 6 to 9
abbrev pub or_alien : Bool → Reply → Reply
or_alien true r = refused 5
or_alien false r = r

-- a decide or an undo that is done "updates that one"; "a check or preview changes nothing in it"; one that disagrees
-- "keeps its contents", and so does that of any refused call
abbrev pub lent_after : Reply → Option Tally → Tally → Option Tally
lent_after r none u = none
lent_after (refused n) (some t) u = some t
lent_after done (some t) u = some u
lent_after (answered f) (some t) u = some t

module _ (Z : Puzzle) where
  -- undecided, walls and opens: each literal of the sequence decides one border
  unfoldable pub tally_at : List Literal → Tally
  tally_at ls =
      tally_of (Z.page.borders - length ls)
      (length (filter (λ (l : Literal). is_wall (decided l.side)) ls))
      (length (filter (λ (l : Literal). is_open (decided l.side)) ls))

  -- "where it disagrees with the sequence"
  abbrev pub disagrees : List Literal → Option Tally → Bool
  disagrees ls none = false
  disagrees ls (some t) = not (same_tally t (tally_at ls))

  -- "A decide answers 6 if its number is not below the border count, 7 if its border is in the sequence; else it is
  -- done"
  unfoldable pub decide_reply : List Literal → Literal → Reply
  decide_reply ls l = cond (ltb l.border Z.page.borders) (cond (names ls l.border) (refused 7) done)
      (refused 6)

  -- "A check answers 9 if its memory is short; else what Check gives"
  unfoldable pub check_reply : List Literal → ℕ → Reply
  check_reply ls places = cond (ltb places 1984) (refused 9) (answered (check Z (states ls)))

  -- "An undo answers 8 on the empty sequence"; a preview "returns .. what decide followed by check would"
  unfoldable pub reply_to : List Literal → ℕ → Call → Reply
  reply_to ls places (Decide l) = decide_reply ls l
  reply_to ls places Undo = bare_or ls done
  reply_to ls places Check = check_reply ls places
  reply_to ls places (Preview l) = then_reply (decide_reply ls l) (check_reply (with_last ls l) places)

  -- "the book takes the record as lent and answers 5 too where it disagrees with the sequence"
  abbrev pub reply : Book → Asked → Reply
  reply k a = or_alien (disagrees k.sequence a.tally) (reply_to k.sequence a.places a.call)

  unfoldable pub after : Book → Asked → Book
  after k a = after_by (reply k a) k (done_book k a.call)

  -- "the host lends the tally record and each call updates that one"
  abbrev pub tally_after : Book → Asked → Option Tally
  tally_after k a = lent_after (reply k a) a.tally (tally_at (after k a).sequence)

  unfoldable pub book_from : Book → List Asked → Book
  book_from k [] = k
  book_from k (a ∷ calls) = book_from (after k a) calls

  unfoldable pub replies_from : Book → List Asked → List Reply
  replies_from k [] = []
  replies_from k (a ∷ calls) = reply k a ∷ replies_from (after k a) calls

  unfoldable pub tallies_from : Book → List Asked → List (Option Tally)
  tallies_from k [] = []
  tallies_from k (a ∷ calls) = tally_after k a ∷ tallies_from (after k a) calls

  abbrev pub book_after : List Asked → Book
  book_after calls = book_from fresh_book calls

  abbrev pub replies : List Asked → List Reply
  replies calls = replies_from fresh_book calls

  abbrev pub tallies : List Asked → List (Option Tally)
  tallies calls = tallies_from fresh_book calls
