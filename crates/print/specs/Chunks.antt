-- The text of a reason's literals, written chunk by chunk.
--
--   codes_from ks a e   the numbers of reason memory from place a up to place e
--   Putting ks a e m after next count  `after` is m with the texts of the literals from a up to next, count bytes
--   Put ks a e m after r  so it is for the chunk r, and some literal is put where there is room
--   show-append         the texts of two lists
--   chunk-codes-none, chunk-codes-more  the numbers of no literal, and of one more
--   putting-none, putting-more, putting-stop  no literal, one more, and the end
--   put-none            where no literal is put, the memory is as it was
use Rattle.std.specs.Prelude.{◌≡◌, refl, List, [], ◌∷◌, ◌++◌, ℕ, suc, ◌+◌, ◌-◌, ◌<◌, ◌≤◌, length, get_or}
use Rattle.std.proofs.Common.{sym, append_assoc, append-nil, arith}
use Rattle.std.proofs.Math.Decide.{ℕ_discrete}
use Rattle.lists.specs.Table.{table}
use Rattle.page.specs.Many.{show_all}
use Rattle.print.specs.declared.Chunk.{Chunk}
use Rattle.print.specs.declared.Line.{Line}
use Rattle.print.specs.Answers.{code_text, text_of}
use Rattle.print.specs.Lines.{Written, LineHolds, written_none, written-more, written-length, holds_text}
use Rattle.print.specs.Lines.{holds-short}

unfoldable pub codes_from : List ℕ → ℕ → ℕ → List ℕ
codes_from ks a e = table (e - a) (λ i. get_or ks (a + i) 0)

pub record Putting (ks : List ℕ) (a e : ℕ) (m after : List ℕ) (next count : ℕ) : Type 0 where
  pub from : a ≤ next
  -- none past the last one asked for, none past the memory
  pub within : a < next → (next ≤ e) × (next ≤ length ks)
  pub fits : count ≤ length m
  pub written : Written m 0 (show_all code_text (codes_from ks a next)) after count

pub record Put (ks : List ℕ) (a e : ℕ) (m after : List ℕ) (r : Chunk) : Type 0 where
  pub putting : Putting ks a e m after r.next r.count
  -- a buffer of 32 bytes or more takes one literal at least
  pub moves : a < e → a < length ks → 32 ≤ length m → a < r.next

pub show-append : {A : Type 0} (f : A → List ℕ) (xs ys : List A) → show_all f (xs ++ ys) ≡ show_all f xs
    ++ show_all f ys
unfolding show_all
show-append f [] ys = refl
show-append f (x ∷ xs) ys = rw (show-append f xs ys) (sym (append_assoc (f x) (show_all f xs) (show_all f ys)))

pub chunk-codes-none : (ks : List ℕ) (a : ℕ) → codes_from ks a a ≡ []
unfolding codes_from table
chunk-codes-none ks a = let e : a - a ≡ 0 = omega arith in rw e

pub chunk-codes-more : (ks : List ℕ) (a p : ℕ) → a ≤ p → codes_from ks a (p + 1) ≡ codes_from ks a p
    ++ (get_or ks p 0 ∷ [])
unfolding codes_from table
chunk-codes-more ks a p h =
    let e : p + 1 - a ≡ suc (p - a) = omega arith in
    let f : a + (p - a) ≡ p = omega arith in
    rw (e, f)

-- a literal more
show-one : (ks : List ℕ) (a p : ℕ) → a ≤ p
    → show_all code_text (codes_from ks a (p + 1)) ≡ show_all code_text (codes_from ks a p) ++ code_text (get_or ks p 0)
unfolding show_all
show-one ks a p h =
    rw (
      chunk-codes-more ks a p h,
      show-append code_text (codes_from ks a p) (get_or ks p 0 ∷ []),
      append-nil (code_text (get_or ks p 0)),
    )

pub putting-none : (ks : List ℕ) (a e : ℕ) (m : List ℕ) → Putting ks a e m m a 0
unfolding show_all
putting-none ks a e m =
    record {
      from = omega arith;
      within = λ h. absurd (omega arith);
      fits = omega arith;
      written = rw (chunk-codes-none ks a) (written_none m 0);
    }

pub putting-more : {ks m after more : List ℕ} {line : Line} {a e next count r : ℕ} → Putting ks a e m after next count
    → next < e → next < length ks → LineHolds line (code_text (get_or ks next 0)) → count + 32 ≤ length after
    → Written after count (text_of line) more r → Putting ks a e m more (next + 1) r
putting-more {ks} {a = a} {next = next} p l k h o w =
    record {
      from = omega (arith, p.from);
      within = λ z. (omega arith, omega arith);
      fits = omega (arith, w.next, holds-short h, written-length p.written);
      written = rw (show-one ks a next p.from, ← holds_text h) (written-more p.written w);
    }

-- nothing is put where the next literal is still the first
module _ {ks m after : List ℕ} {a e next count : ℕ} (p : Putting ks a e m after next count) (q : next ≡ a) where
  none_written : Written m 0 [] after count
  unfolding show_all
  none_written = rw (q, chunk-codes-none ks a) at p.written

pub putting-stop : {ks m after : List ℕ} {a e next count : ℕ} → Putting ks a e m after next count
    → (next ≡ a → count ≡ 0 → a < e → a < length ks → 32 ≤ length after → ⊥)
    → Put ks a e m after (record { next = next; count = count })
putting-stop {ks} {m} {after} {a} {e} {next} {count} p stop =
    record { putting = p; moves = go (ℕ_discrete next a) }
  where
    go : Dec (next ≡ a) → a < e → a < length ks → 32 ≤ length m → a < next
    go (yes q) x y z =
        absurd (stop q (omega (arith, (none_written p q).next)) x y (omega (arith, written-length p.written)))
    go (no q) x y z = omega (arith, p.from)

pub put-none : {ks m after : List ℕ} {a e : ℕ} {r : Chunk} → Put ks a e m after r → r.next ≤ a → after ≡ m
put-none {a = a} {r = r} P h =
    let q : r.next ≡ a = omega (arith, P.putting.from) in
    (none_written P.putting q).memory
