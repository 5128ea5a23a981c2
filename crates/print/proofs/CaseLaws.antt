-- More laws of the definitions, by cases; no answer cites them.
use Rattle.std.specs.Prelude.{◌≡◌, refl, List, [], ◌∷◌, ℕ, ◌+◌, ◌<◌, ◌≤◌, length, take, set, get_or}
use Rattle.std.proofs.Common.{add-one, arith, take-suc}
use Rattle.std.proofs.Math.Seq.{take-length}
use Rattle.print.specs.declared.Line.{Line}
use Rattle.print.specs.Answers.{text_of}
use Rattle.print.specs.Lines.{Written, written_none, written-more}

-- Lines: texts, byte by byte
pub written_byte : (m : List ℕ) (at b : ℕ) → Written m at (b ∷ []) (set m at b) (at + 1)
written_byte m at b = record { memory = refl; next = refl }

pub written-word : {m e f : List ℕ} {at r q : ℕ} (w : List ℕ) (i : ℕ) → i < length w → Written m at (take i w) e r
    → Written e r (get_or w i 0 ∷ []) f q → Written m at (take (i + 1) w) f q
written-word w i h p d = rw (add-one i, take-suc w i 0 h) (written-more p d)

pub written-end : {m e : List ℕ} {at r : ℕ} (w : List ℕ) (i : ℕ) → i ≤ length w → length w ≤ i
    → Written m at (take i w) e r → Written m at w e r
written-end w i h l p = let e : i ≡ length w = omega arith in rw (e, take-length w) at p

-- a line's bytes, up to its count
pub line-none : (m : List ℕ) (at : ℕ) → Written m at [] m (at + 0)
line-none m at = let k : at + 0 ≡ at = omega arith in rw k (written_none m at)

pub line-more : {m e : List ℕ} {at : ℕ} (w : List ℕ) (i : ℕ) → Written m at (take i w) e (at + i) → i < length w
    → Written m at (take (i + 1) w) (set e (at + i) (get_or w i 0)) (at + (i + 1))
line-more {e = e} {at} w i p h =
    let k : at + (i + 1) ≡ at + i + 1 = omega arith in
    rw k (written-word w i h p (written_byte e (at + i) (get_or w i 0)))

pub line-written : {m e : List ℕ} {at : ℕ} (l : Line) (i : ℕ) → i ≡ l.count
    → Written m at (take i l.bytes) e (at + i) → Written m at (text_of l) e (at + l.count)
unfolding text_of
line-written l i q w = rw q at w
