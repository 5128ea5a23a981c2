-- Bytes written into memory, lines that grow, and their laws.
--
--   Written m at ds e r                        the memory e is m with the bytes ds from `at` on, up to r, and no other
--                                              byte changed
--   Longer a ds b                              the line b is the line a with the bytes ds more
--   start                                      the line of no bytes
--   LineHolds l ds                             the line l holds the bytes ds and is 0 beyond them
--   written_none, written-more                 no byte, and one text after another
--   written-copied                             a text, copied as a whole
--   written-length                             the length stays
--   written-front, written-rest                the bytes from the start on, and those beyond them
--   holds_as, holds_more, holds_text, holds-short  what a line holds, by parts, and that it has at most 32 bytes
--   decimal-last, decimal-long                 a number's last digit
--   tens k, decimal-short, decimal-64, decimal-16  the k-th power of ten, and how many digits a number has
--   numbered-text                              a word, a number, a bracket and a newline
use Rattle.std.specs.Prelude.{◌≡◌, refl, Bool, true, false, List, [], ◌∷◌, ◌++◌, ℕ, zero, suc, ◌+◌, ◌*◌, ◌/◌, ◌%◌, ◌<◌}
use Rattle.std.specs.Prelude.{◌≤◌, ltb, length, take, drop, replicate}
use Rattle.std.proofs.Common.{sym, ap, ap₂, ◌∙◌, append_assoc, arith, ltb-true, ltb-false, length-append}
use Rattle.std.proofs.Common.{take_at, drop_at}
use Rattle.std.proofs.lemmas.List.Edits.{sets, sets-eq}
use Rattle.std.proofs.lemmas.List.{drop-drop}
use borrow.Rule.Slice.PartMut.{put_mid}
use Rattle.std.proofs.Math.Seq.{length-sets}
use Rattle.lists.specs.Stores.{sets-append}
use Rattle.page.specs.Decimal.{decimal}
use Rattle.page.specs.NumberText.{decimal-one, decimal-more}
use Rattle.print.specs.declared.Line.{Line}
use Rattle.print.specs.Answers.{text_of}

pub record Written (m : List ℕ) (at : ℕ) (ds e : List ℕ) (r : ℕ) : Type 0 where
  pub memory : e ≡ sets m at ds
  pub next : r ≡ at + length ds

abbrev pub Longer : Line → List ℕ → Line → Type 0
Longer a ds b = Written a.bytes a.count ds b.bytes b.count

abbrev pub start : Line
start = record { bytes = replicate 32 0; count = 0 }

pub record LineHolds (l : Line) (ds : List ℕ) : Type 0 where
  pub written : Longer start ds l
  pub small : l.count ≤ 32

-- ---- texts, one after another
pub written_none : (m : List ℕ) (at : ℕ) → Written m at [] m at
written_none m at = record { memory = refl; next = omega arith }

-- a text, copied as a whole
pub written-copied : (m part : List ℕ) (at k r : ℕ) (ds : List ℕ) → part ≡ ds → k ≡ length ds
    → at + length ds ≤ length m → r ≡ at + length ds → Written m at ds (put_mid at k m part) r
written-copied m part at k r ds e q h n =
    record {
      memory =
          rw (e, q)
          (sym (sets-eq ds m at h ∙ append_assoc (take at m) ds (drop (at + length ds) m)
          ∙ ap (λ l. take at m ++ (ds ++ l)) (sym (drop-drop (length ds) at m))));
      next = n;
    }

pub written-length : {m ds e : List ℕ} {at r : ℕ} → Written m at ds e r → length e ≡ length m
written-length {m} {ds} {at = at} w = ap length w.memory ∙ length-sets m at ds

pub written-more : {m ds e es f : List ℕ} {at r q : ℕ} → Written m at ds e r → Written e r es f q
    → Written m at (ds ++ es) f q
written-more {m} {ds} {es = es} {at = at} p w =
    record {
      memory =
          w.memory ∙ ap₂ (λ (l : List ℕ) (n : ℕ). sets l n es) p.memory p.next ∙ sym (sets-append m at ds es);
      next = omega (arith, p.next, w.next, length-append ds es);
    }

-- ---- from the start on, within the memory
module _ {m ds e : List ℕ} {r : ℕ} (w : Written m 0 ds e r) (h : r ≤ length m) where
  as_long : length ds ≡ r
  as_long = omega (arith, w.next)

  front-is : e ≡ ds ++ drop (0 + length ds) m
  front-is = w.memory ∙ sets-eq ds m 0 (omega (arith, w.next))

  pub written-front : take r e ≡ ds
  written-front = ap (take r) front-is ∙ take_at ds (drop (0 + length ds) m) r as_long

  pub written-rest : drop r e ≡ drop r m
  written-rest = ap (drop r) front-is ∙ drop_at ds (drop (0 + length ds) m) r as_long
      ∙ ap (λ (n : ℕ). drop n m) (sym w.next)

pub holds_as : {l : Line} {ds es : List ℕ} → LineHolds l ds → ds ≡ es → LineHolds l es
holds_as h q = rw q at h

-- three parts of a line
pub holds_more : {a b l : Line} {ds es fs : List ℕ} → Longer start ds a → Longer a es b → Longer b fs l → l.count ≤ 32
    → LineHolds l (ds ++ es ++ fs)
holds_more p q w h = record { written = written-more (written-more p q) w; small = h }

pub holds_text : {l : Line} {ds : List ℕ} → LineHolds l ds → text_of l ≡ ds
unfolding text_of
holds_text h = written-front h.written h.small

pub holds-short : {l : Line} {ds : List ℕ} → LineHolds l ds → length (text_of l) ≤ 32
holds-short h = omega (arith, ap length (holds_text h), h.written.next, h.small)

-- a number, digit by digit
pub decimal-last : (n : ℕ) → 10 ≤ n → decimal n ≡ decimal (n / 10) ++ ((48 + n % 10) ∷ [])
decimal-last n h =
    let e : n / 10 * 10 + n % 10 ≡ n = omega arith in
    ap decimal (sym e) ∙ decimal-more (n / 10) (n % 10) (omega arith) (omega arith)

pub decimal-long : (n : ℕ) → 10 ≤ n → length (decimal n) ≡ length (decimal (n / 10)) + 1
decimal-long n h = ap length (decimal-last n h) ∙ length-append (decimal (n / 10)) ((48 + n % 10) ∷ [])

-- k digits are enough below the k-th power of ten
unfoldable pub tens : ℕ → ℕ
tens zero = 1
tens (suc k) = tens k * 10

pub decimal-short : (k n : ℕ) → n < tens (suc k) → length (decimal n) ≤ suc k
unfolding tens
decimal-short zero n h = omega (arith, ap length (decimal-one n (omega arith)))
decimal-short (suc k) n h = go (ltb n 10) refl (decimal-short k (n / 10))
  where
    go : (b : Bool) → ltb n 10 ≡ b → (n / 10 < tens (suc k) → length (decimal (n / 10)) ≤ suc k)
        → length (decimal n) ≤ suc (suc k)
    go true e ih = omega (arith, ap length (decimal-one n (ltb-true n 10 e)))
    go false e ih = omega (arith, decimal-long n (ltb-false n 10 e), ih (omega arith))

-- any number of 64 bits has at most 20 digits, and half a number of 16 bits at most 5
pub decimal-64 : (n : ℕ) → n < 18446744073709551616 → length (decimal n) ≤ 20
unfolding tens
decimal-64 n h = decimal-short 19 n (omega arith)

pub decimal-16 : (n : ℕ) → n < 65536 → length (decimal n) ≤ 5
unfolding tens
decimal-16 n h = decimal-short 4 n (omega arith)

pub numbered-text : (w d : List ℕ) → (w ++ d) ++ (41 ∷ 10 ∷ []) ≡ w ++ ((d ++ (41 ∷ [])) ++ (10 ∷ []))
numbered-text w d = append_assoc w d (41 ∷ 10 ∷ [])
    ∙ ap (λ (l : List ℕ). w ++ l) (sym (append_assoc d (41 ∷ []) (10 ∷ [])))
