-- Calls on an image that is not alien, by cases from its bytes; and a list of them.
use Rattle.std.specs.Prelude.{◌≡◌, Bool, true, false, cond, List, [], ◌∷◌, length, take, drop, is_err, Ok, Err}
use Rattle.std.proofs.Math.Path.{refl, sym}
use Rattle.std.proofs.Common.{ap, ap₂, ◌∙◌, length-drop, drop_of_length-le, drop-cons, length-take-le}
use Prim.Native.Nat.{ℕ, suc, ◌+◌, ◌-◌, ◌*◌, ◌<◌, ◌≤◌}
use native.Mathlib.Omega.{arith}
use borrow.Author.Tests.{eq-eqb, ne_eqb}
use Rattle.std.proofs.Math.ListN.{get_or}
use Rattle.std.proofs.Math.Seq.{ext_get_or, get_or-take, get_or-drop}
use Rattle.lists.specs.Table.{table}
use Rattle.lists.specs.TableLaws.{length-table, get_d-table}
use Rattle.rules.specs.declared.Literal.{Literal}
use Rattle.rules.specs.declared.Tally.{Tally}
use Rattle.rules.specs.Codes.{code_of, side_in}
use Rattle.board.specs.declared.Returned.{Returned}
use Rattle.board.specs.Alien.{borders_of, border_count_of, is_alien}
use Rattle.board.specs.Board.{Outcome, number_of, side_count, tally_more, tally_less, decide_refusal, undo_refusal}
use Rattle.board.specs.Cases.{refused-number, decide-alien, decide-ends, undo-alien, undo-ends}
use Rattle.board.specs.ConditionLaws.{borders-of, borders-of-le}
use Rattle.board.specs.NativeLaws.{native-has}
use Rattle.image.specs.Image.{pair, spelled_tally, spelled_board, Bytes, Proper, decide_literal, ImageCall, decide}
use Rattle.image.specs.Image.{undo, number_by, board_by, right_length, image_alien, image_number, image_after}
use Rattle.image.specs.Image.{image_written}
use Rattle.image.specs.RoundLaws.{long-is, known-board, image-known}
use Rattle.image.specs.CallLaws.{call-number-is, after-refused, decide-fits, image-decide-after}
use Rattle.image.specs.CallLaws.{undo-fits, image-undo-after}
use Rattle.image.specs.RunLaws.{proper-after}
use Rattle.image.specs.Series.{code_call, done_of, image_done, SeriesStepped}

-- ---- an image that is not alien
module _ (s : List ℕ) (h : Bytes s) (k : image_alien s ≡ false) where
  pub long : length s ≡ 11082
  long = (known-board s k).0

  proper : Proper (spelled_board s)
  proper = (known-board s k).1

  -- a call leaves it so
  pub after-known : (a : ImageCall) → image_alien (image_after s a) ≡ false
  unfolding image_after
  after-known a =
      rw (long-is s long) (image-known (board_by (spelled_board s) a) (proper-after (spelled_board s) a proper))

  -- the number of a call is that of what the board returns
  by-board : (a : ImageCall) → number_by (spelled_board s) a ≡ image_number s a
  by-board a = call-number-is s h long (spelled_board s) refl a

  borders-are : borders_of (get_or s 0 0) (get_or s 1 0) ≡ border_count_of (spelled_board s)
  unfolding spelled_board
  borders-are = borders-of (native-has (spelled_board s) proper.known).size

  -- the board's borders, as a part of the image
  pub series-part-length : length (take 1984 (drop 5122 s)) ≡ 1984
  series-part-length = let e = long in length-take-le 1984 (drop 5122 s) (omega (arith, length-drop 5122 s))

  borders-part : take 1984 (drop 5122 s) ≡ (spelled_board s).borders
  unfolding spelled_board
  borders-part =
      let f : ℕ → ℕ = λ i. get_or s (5122 + i) 0 in
      let p = series-part-length in
      ext_get_or 0 (take 1984 (drop 5122 s)) (table 1984 f) (p ∙ sym (length-table 1984 f))
      (λ i h.
      let l : i < 1984 = omega arith in
      get_or-take 1984 (drop 5122 s) i 0 l ∙ get_or-drop 5122 s i 0 ∙ sym (get_d-table 1984 f i 0 l))

  count-is : (spelled_board s).count ≡ pair s 7106
  unfolding spelled_board
  count-is = refl

  tally-is : (spelled_board s).tally ≡ spelled_tally s
  unfolding spelled_board
  tally-is = refl

  border-is : (n : ℕ) → n < 1984 → get_or (spelled_board s).borders n 0 ≡ get_or s (5122 + n) 0
  unfolding spelled_board
  border-is n l = get_d-table 1984 (λ i. get_or s (5122 + i) 0) n 0 l

  entry-is : (i : ℕ) → i < 1984 → get_or (spelled_board s).stack i 0 ≡ pair s (7108 + 2 * i)
  unfolding spelled_board
  entry-is i l = get_d-table 1984 (λ j. pair s (7108 + 2 * j)) i 0 l

  refused : (a : ImageCall) (o : Outcome) → number_of o ≡ image_number s a → (number_of o ≡ 0 → ⊥)
      → SeriesStepped s a s o
  refused a o e f =
      record { number = e; after = after-refused s h long (spelled_board s) refl a (λ z. f (e ∙ z)) }

  stepped : {a : ImageCall} {t : List ℕ} → image_number s a ≡ 0 → t ≡ image_after s a → SeriesStepped s a t (Ok tt)
  stepped z e = record { number = sym z; after = e }

  -- a decide, from what the code has: its literal l, the count m of the page's borders, and how its tests end
  module _ (n d : ℕ) (l : Literal) (y : l ≡ decide_literal n d) (m : ℕ)
      (q : m ≡ borders_of (get_or s 0 0) (get_or s 1 0)) where
    named : l.border ≡ n
    named = ap (λ (j : Literal). j.border) y

    pub few : m ≤ 1984
    few = rw q (borders-of-le (get_or s 0 0) (get_or s 1 0))

    module _ (o : Outcome) (r : o ≡ decide_refusal m (take 1984 (drop 5122 s)) l.border) where
      decide-number : number_of o ≡ image_number s (decide n d)
      decide-number =
          let b = spelled_board s in
          ap number_of
          (r
          ∙ ap (λ bs. decide_refusal m bs l.border) borders-part
          ∙ ap₂ (λ (j x : ℕ). decide_refusal j b.borders x) (q ∙ borders-are) named
          ∙ decide-ends b (decide_literal n d) proper.known)
          ∙ by-board (decide n d)

      pub decide-not : (number_of o ≡ 0 → ⊥) → SeriesStepped s (decide n d) s o
      decide-not f = refused (decide n d) o decide-number f

      -- one that is done
      module _ (z : number_of o ≡ 0) (c : ℕ) (e : c ≡ pair s 7106) (t : Tally) (g : t ≡ spelled_tally s) where
        decided : image_number s (decide n d) ≡ 0
        decided = sym decide-number ∙ z

        pub decide-room : (l.border < 1984) × (c < 1984) × (0 < t.undecided) × (t.walls ≤ 1984) × (t.opens ≤ 1984)
        decide-room =
            let r = decide-fits s h long (spelled_board s) refl n d decided in
            rw (named, e ∙ sym count-is, g ∙ sym tally-is) r

        pub decide-step : {v : ℕ} {u : Tally} {a : List ℕ} → v ≡ code_of l.side → u ≡ tally_more t (side_in v)
            → a ≡ image_written s l.border v (c + 1) c l.border u → SeriesStepped s (decide n d) a (Ok tt)
        decide-step {v} {u} {a} x k w =
            stepped decided
            (image-decide-after s h long (spelled_board s) refl n d decided l v u a y x
            (k ∙ ap (λ (j : Tally). tally_more j (side_in v)) (g ∙ sym tally-is))
            (w ∙ ap (λ j. image_written s l.border v (j + 1) j l.border u) (e ∙ sym count-is)))

  -- an undo, where the image has the count m, and how its test ends
  module _ (m : ℕ) (e : m ≡ pair s 7106) (o : Outcome) (r : o ≡ undo_refusal m) where
    counted : (spelled_board s).count ≡ m
    counted = count-is ∙ sym e

    undo-number : number_of o ≡ image_number s undo
    undo-number =
        ap number_of (r ∙ ap undo_refusal (sym counted) ∙ undo-ends (spelled_board s) proper.known) ∙ by-board undo

    pub undo-not : (number_of o ≡ 0 → ⊥) → SeriesStepped s undo s o
    undo-not f = refused undo o undo-number f

    module _ (z : number_of o ≡ 0) where
      undone : image_number s undo ≡ 0
      undone = sym undo-number ∙ z

      pub undo-some : 0 < m
      undo-some = rw (← counted) (undo-fits s h long (spelled_board s) refl undone).0

      pub undo-low : m ≤ 1984
      undo-low = rw (← counted) (undo-fits s h long (spelled_board s) refl undone).1

      -- its entry n
      module _ (n : ℕ) (x : n ≡ pair s (7108 + 2 * (m - 1))) where
        entry : n ≡ get_or (spelled_board s).stack ((spelled_board s).count - 1) 0
        entry =
            let o = undo-low in
            let i = undo-some in
            x
            ∙ sym (entry-is (m - 1) (omega arith))
            ∙ ap (λ j. get_or (spelled_board s).stack (j - 1) 0) (sym counted)

        pub undo-room : n < 1984
        undo-room = rw entry (undo-fits s h long (spelled_board s) refl undone).2

        -- its tally t
        module _ (t : Tally) (g : t ≡ spelled_tally s) where
          pub undo-tally : (t.undecided ≤ 1984) × (0 < side_count t (side_in (get_or s (5122 + n) 0)))
          undo-tally =
              let f = undo-fits s h long (spelled_board s) refl undone in
              rw (g ∙ sym tally-is, ← border-is n undo-room) (f.3, rw entry f.4)

          pub undo-step : {u : Tally} {a : List ℕ} → u ≡ tally_less t (side_in (get_or s (5122 + n) 0))
              → a ≡ image_written s n 0 (m - 1) (m - 1) 0 u → SeriesStepped s undo a (Ok tt)
          undo-step {u} {a} k w =
              stepped undone
              (image-undo-after s h long (spelled_board s) refl undone n u a entry
              (k
              ∙ ap₂ (λ (j : Tally) (v : ℕ). tally_less j (side_in v)) (g ∙ sym tally-is) (sym (border-is n undo-room)))
              (w ∙ ap (λ j. image_written s n 0 (j - 1) (j - 1) 0 u) (sym counted)))

-- ---- a list of calls
-- no call is done on an alien image
pub alien-number : (s : List ℕ) → image_alien s ≡ true → (a : ImageCall) → image_number s a ≡ 5
unfolding image_alien image_number
alien-number s k a = go (right_length s) k a
  where
    go : (x : Bool) → cond x (is_alien (spelled_board s)) true ≡ true → (c : ImageCall)
        → cond x (number_by (spelled_board s) c) 5 ≡ 5
    go true e (decide n d) =
        sym (ap (λ (r : Returned). number_of r.outcome) (decide-alien (spelled_board s) (decide_literal n d) e))
    go true e undo = sym (ap (λ (r : Returned). number_of r.outcome) (undo-alien (spelled_board s) e))
    go false e c = refl

pub alien-none : (s codes : List ℕ) → image_alien s ≡ true → (0 ≡ done_of s codes) × (s ≡ image_done s codes)
unfolding done_of image_done
alien-none s [] k = (refl, refl)
alien-none s (c ∷ codes) k =
    let n = alien-number s k (code_call c) in
    let f = ne_eqb (image_number s (code_call c)) 0 (λ z. let g : 5 ≡ 0 = sym n ∙ z in omega arith) in
    (rw f, rw f)

-- i calls are done, and the image is s now
pub record Running (start codes : List ℕ) (i : ℕ) (s : List ℕ) : Type 0 where
  pub order : i ≤ length codes
  pub bytes : Bytes s
  pub known : image_alien s ≡ false
  pub number : done_of start codes ≡ i + done_of s (drop i codes)
  pub image : image_done start codes ≡ image_done s (drop i codes)

pub running-first : (s codes : List ℕ) → Bytes s → image_alien s ≡ false → Running s codes 0 s
running-first s codes h k =
    record { order = omega arith; bytes = h; known = k; number = omega arith; image = refl }

-- its length is the same all the time
pub running-long : {start codes : List ℕ} {i : ℕ} {s : List ℕ} → Bytes start → image_alien start ≡ false
    → Running start codes i s → length s ≡ length start
running-long {start} {codes} {i} {s} h k R = long s R.bytes R.known ∙ sym (long start h k)

pub running-end : {start codes : List ℕ} {i : ℕ} {s : List ℕ} → Running start codes i s → length codes ≤ i
    → (i ≡ done_of start codes) × (s ≡ image_done start codes)
unfolding done_of image_done
running-end {start} {codes} {i} {s} R l =
    let e = drop_of_length-le codes l in
    (sym (R.number ∙ rw e (omega arith)), sym (R.image ∙ rw e))

module _ {start codes : List ℕ} {i : ℕ} {s : List ℕ} (R : Running start codes i s) (l : i < length codes) where
  abbrev call : ImageCall
  call = code_call (get_or codes i 0)

  here : drop i codes ≡ get_or codes i 0 ∷ drop (suc i) codes
  here = drop-cons codes i 0 l

  pub running-next : {t : List ℕ} (o : Outcome) → Bytes t → SeriesStepped s call t o → is_err o ≡ false
      → Running start codes (i + 1) t
  unfolding done_of image_done
  running-next (Err r) h S f = absurd (let z : ◌≡◌ {A = ℕ} 0 1 = cc in omega arith)
  running-next {t} (Ok u) h S f =
      let e = eq-eqb (image_number s call) 0 (sym S.number) in
      let o : i + 1 ≡ suc i = omega arith in
      let n : i + suc (done_of t (drop (suc i) codes)) ≡ suc i + done_of t (drop (suc i) codes) = omega arith in
      rw o
      (record {
        order = omega arith;
        bytes = h;
        known = rw S.after (after-known s R.bytes R.known call);
        number = R.number ∙ rw (here, e, ← S.after) n;
        image = R.image ∙ rw (here, e, ← S.after);
      })

  pub running-stop : {t : List ℕ} (o : Outcome) → SeriesStepped s call t o → is_err o ≡ true
      → (i ≡ done_of start codes) × (t ≡ image_done start codes)
  unfolding done_of image_done
  running-stop (Ok u) S g = absurd (let z : ◌≡◌ {A = ℕ} 0 1 = cc in omega arith)
  running-stop (Err r) S g =
      let n : image_number s call ≡ 0 → ⊥ = λ z. refused-number r (S.number ∙ z) in
      let e = ne_eqb (image_number s call) 0 n in
      let f = after-refused s R.bytes (long s R.bytes R.known) (spelled_board s) refl call n in
      (sym (R.number ∙ rw (here, e) (omega arith)), S.after ∙ sym f ∙ sym (R.image ∙ rw (here, e)))
