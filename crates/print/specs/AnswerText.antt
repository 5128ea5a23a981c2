-- Printed answers read back: a parser of answers, and that it reads exactly what is printed.
--
--   literal, reply_line  the parsers of a literal and of a line
--   answers              the parser of the whole output
--   ReplyFit r           the numbers are at most 2147483647, and the call has a line
use Rattle.std.specs.Prelude.{◌≡◌, refl, ◌⊎◌, List, [], ◌∷◌, ◌++◌, ℕ, suc, ◌<◌, ◌≤◌, length}
use Rattle.std.proofs.Common.{sym, ap, inl, inr, ⊎_elim, append_assoc, arith, length-append}
use Rattle.std.proofs.Math.Option.{none}
use Rattle.lists.specs.Lists.{or_else}
use Rattle.rules.specs.declared.Side.{Side}
use Rattle.rules.specs.declared.Side.TheVariants.{Wall, Open}
use Rattle.rules.specs.declared.Literal.{Literal}
use Rattle.rules.specs.Check.{pass, conflict}
use Rattle.rules.specs.Book.{Reply, refused, done, answered}
use Rattle.page.specs.Parsers.{Parser, also, onto, lead, followed, either, map_r, rep, strip, number, number_on, give}
use Rattle.page.specs.Parsers.{may_follow}
use Rattle.page.specs.Grammar.{bracket, newline, end_word}
use Rattle.page.specs.Decimal.{decimal}
use Rattle.page.specs.PageText.{counted, Count}
use Rattle.page.specs.Printed.{Prints, Takes, takes-printed, refit, give-prints, lead-prints, followed-prints}
use Rattle.page.specs.Printed.{either-prints, map-prints}
use Rattle.page.specs.NumberText.{number-prints, read-decimal}
use Rattle.page.specs.Many.{AllFit, rep-prints}
use Rattle.print.specs.Answers.{answers_word, refused_word, pass_word, conflict_word, letter, show_literal, show_reply}
use Rattle.print.specs.Answers.{show_answers}

abbrev literal_from : Side → ℕ → Literal
literal_from side b = record { border = b; side = side }

unfoldable pub literal : Parser Literal
literal = lead (32 ∷ []) (either (map_r (literal_from Wall) (number 119)) (map_r (literal_from Open) (number 111)))

abbrev conflict_from : List Literal × Unit {0} → Reply
conflict_from p = answered (conflict p.0)

unfoldable pub reply_line : Parser Reply
reply_line =
    either (map_r refused (lead refused_word (followed (number bracket) newline)))
    (either (map_r (λ n. answered (pass n)) (lead pass_word (followed (number bracket) newline)))
    (map_r conflict_from (lead conflict_word (rep literal (lead end_word (give (tt {0})))))))

unfoldable pub answers : Parser (List Reply)
answers = map_r (λ p. p.0) (lead answers_word (rep reply_line (lead end_word (give (tt {0})))))

abbrev LiteralFit : Literal → Type 0
LiteralFit l = Count l.border

unfoldable pub ReplyFit : Reply → Type 0
ReplyFit (refused n) = Count n
ReplyFit done = ⊥
ReplyFit (answered (pass n)) = Count n
ReplyFit (answered (conflict ls)) = AllFit LiteralFit ls

-- a literal, of one side
unfoldable Sided : Side → Literal → Type 0
Sided side l = Count l.border × (side ≡ l.side)

unfoldable behind : Literal → List ℕ
behind l = counted l.border (letter l.side)

sided : (side : Side) → 57 < letter side ⊎ letter side < 48
    → Prints (map_r (literal_from side) (number (letter side))) behind (Sided side)
unfolding Sided behind
sided side h =
    map-prints (literal_from side) behind (Sided side) (number-prints (letter side) h) (λ a f. (refl, (f, refl)))
    (λ l f. (l.border, (f.0, ap (λ (s : Side). literal_from s l.border) f.1)))

not-wall : (l : Literal) (t : List ℕ) → Sided Open l → map_r (literal_from Wall) (number 119) (behind l ++ t) ≡ none
unfolding Sided behind map_r also decimal number_on may_follow
not-wall l t f =
    rw (
      ← f.1,
      append_assoc,
      read-decimal 119 (inl (omega arith)) (suc l.border) l.border (111 ∷ t) (omega arith) f.0,
    )

pub literal-prints : Prints literal show_literal LiteralFit
unfolding literal show_literal behind Sided
literal-prints =
    lead-prints (32 ∷ [])
    (refit LiteralFit (either-prints (sided Wall (inl (omega arith))) (sided Open (inl (omega arith))) not-wall) to
    from)
  where
    to : (l : Literal) → Sided Wall l ⊎ Sided Open l → LiteralFit l
    to l (inl f) = f.0
    to l (inr f) = f.0

    side-of : (l : Literal) (s : Side) → l.side ≡ s → LiteralFit l → Sided Wall l ⊎ Sided Open l
    side-of l Wall e f = inl (f, sym e)
    side-of l Open e f = inr (f, sym e)

    from : (l : Literal) → LiteralFit l → Sided Wall l ⊎ Sided Open l
    from l f = side-of l l.side refl f

literal-takes : Takes 1 literal
unfolding show_literal
literal-takes = takes-printed literal show_literal LiteralFit 1 literal-prints (λ l f. omega arith)

numbered : (word : List ℕ)
    → Prints (lead word (followed (number bracket) newline)) (λ n. word ++ (counted n bracket ++ newline)) Count
numbered word = lead-prints word (followed-prints newline (number-prints bracket (inr (omega arith))))

ended : Prints (lead end_word (give (tt {0}))) (λ u. end_word) (λ u. tt ≡ u)
ended = lead-prints end_word (give-prints (tt {0}))

-- which of the three lines a reply has
unfoldable Refused : Reply → Type 0
Refused (refused n) = Count n
Refused done = ⊥
Refused (answered a) = ⊥

unfoldable Passed : Reply → Type 0
Passed (refused n) = ⊥
Passed done = ⊥
Passed (answered (pass n)) = Count n
Passed (answered (conflict ls)) = ⊥

unfoldable Clashed : Reply → Type 0
Clashed (refused n) = ⊥
Clashed done = ⊥
Clashed (answered (pass n)) = ⊥
Clashed (answered (conflict ls)) = AllFit LiteralFit ls

refused-prints : Prints (map_r refused (lead refused_word (followed (number bracket) newline))) show_reply Refused
unfolding show_reply Refused
refused-prints = map-prints refused show_reply Refused (numbered refused_word) (λ n f. (refl, f)) from
  where
    from : (r : Reply) → Refused r → (n : ℕ) × (Count n × (refused n ≡ r))
    from (refused n) f = (n, (f, refl))
    from done f = absurd f
    from (answered a) f = absurd f

pass-prints :
    Prints (map_r (λ n. answered (pass n)) (lead pass_word (followed (number bracket) newline))) show_reply Passed
unfolding show_reply Passed
pass-prints = map-prints (λ n. answered (pass n)) show_reply Passed (numbered pass_word) (λ n f. (refl, f)) from
  where
    from : (r : Reply) → Passed r → (n : ℕ) × (Count n × (answered (pass n) ≡ r))
    from (refused n) f = absurd f
    from done f = absurd f
    from (answered (pass n)) f = (n, (f, refl))
    from (answered (conflict ls)) f = absurd f

literal-not : (t : List ℕ) → literal (end_word ++ t) ≡ none
unfolding literal lead onto strip
literal-not t = refl

conflict-prints : Prints (map_r conflict_from (lead conflict_word (rep literal (lead end_word (give (tt {0}))))))
    show_reply Clashed
unfolding show_reply Clashed
conflict-prints =
    map-prints conflict_from show_reply Clashed
    (lead-prints conflict_word (rep-prints literal-prints ended literal-takes (λ u t f. literal-not t)))
    (λ p f. (refl, f.0)) from
  where
    from : (r : Reply) → Clashed r
        → (p : List Literal × Unit {0}) × ((AllFit LiteralFit p.0 × (tt ≡ p.1)) × (conflict_from p ≡ r))
    from (refused n) f = absurd f
    from done f = absurd f
    from (answered (pass n)) f = absurd f
    from (answered (conflict ls)) f = ((ls, tt), ((f, refl), refl))

-- a reply's line is read back as the reply
pub reply-prints : Prints reply_line show_reply ReplyFit
unfolding reply_line show_reply Refused Passed Clashed ReplyFit map_r also lead onto strip
reply-prints =
    refit ReplyFit
    (either-prints refused-prints (either-prints pass-prints conflict-prints not-pass)
    (λ r t. ⊎_elim (pass-not r t) (clash-not r t)))
    to from
  where
    not-pass : (r : Reply) (t : List ℕ) → Clashed r
        → map_r (λ n. answered (pass n)) (lead pass_word (followed (number bracket) newline)) (show_reply r ++ t) ≡ none
    not-pass (refused n) t f = absurd f
    not-pass done t f = absurd f
    not-pass (answered (pass n)) t f = absurd f
    not-pass (answered (conflict ls)) t f = refl

    pass-not : (r : Reply) (t : List ℕ) → Passed r
        → map_r refused (lead refused_word (followed (number bracket) newline)) (show_reply r ++ t) ≡ none
    pass-not (refused n) t f = absurd f
    pass-not done t f = absurd f
    pass-not (answered (pass n)) t f = refl
    pass-not (answered (conflict ls)) t f = absurd f

    clash-not : (r : Reply) (t : List ℕ) → Clashed r
        → map_r refused (lead refused_word (followed (number bracket) newline)) (show_reply r ++ t) ≡ none
    clash-not (refused n) t f = absurd f
    clash-not done t f = absurd f
    clash-not (answered (pass n)) t f = absurd f
    clash-not (answered (conflict ls)) t f = refl

    to : (r : Reply) → Refused r ⊎ (Passed r ⊎ Clashed r) → ReplyFit r
    to (refused n) (inl f) = f
    to (refused n) (inr (inl f)) = absurd f
    to (refused n) (inr (inr f)) = absurd f
    to done (inl f) = f
    to done (inr (inl f)) = f
    to done (inr (inr f)) = f
    to (answered (pass n)) (inl f) = absurd f
    to (answered (pass n)) (inr (inl f)) = f
    to (answered (pass n)) (inr (inr f)) = absurd f
    to (answered (conflict ls)) (inl f) = absurd f
    to (answered (conflict ls)) (inr (inl f)) = absurd f
    to (answered (conflict ls)) (inr (inr f)) = f

    from : (r : Reply) → ReplyFit r → Refused r ⊎ (Passed r ⊎ Clashed r)
    from (refused n) f = inl f
    from done f = inl f
    from (answered (pass n)) f = inr (inl f)
    from (answered (conflict ls)) f = inr (inr f)

reply-long : (r : Reply) → ReplyFit r → 1 ≤ length (show_reply r)
unfolding ReplyFit show_reply
reply-long (refused n) f = omega arith
reply-long done f = absurd f
reply-long (answered (pass n)) f = omega arith
reply-long (answered (conflict ls)) f = omega arith

reply-takes : Takes 1 reply_line
reply-takes s r t e =
    let h : (s ≡ show_reply r ++ t) × ReplyFit r = reply-prints.sound s r t e in
    omega (arith, ap length h.0, length-append (show_reply r) t, reply-long r h.1)

reply-not : (t : List ℕ) → reply_line (end_word ++ t) ≡ none
unfolding reply_line either or_else map_r also lead onto strip
reply-not t = refl

-- the whole output is read back as the list of replies
pub answers-prints : Prints answers show_answers (AllFit ReplyFit)
unfolding answers show_answers
answers-prints =
    map-prints (λ p. p.0) show_answers (AllFit ReplyFit)
    (lead-prints answers_word (rep-prints reply-prints ended reply-takes (λ u t f. reply-not t)))
    (λ p f. (refl, f.0)) (λ rs f. ((rs, tt), ((f, refl), refl)))
