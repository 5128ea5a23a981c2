-- Numbers of two bytes: how many there are, and those of a reason that is written from the start of the memory.
--
--   length-codes        half as many as bytes
--   codes-written       the numbers after a reason is written
--   literals-small      a reason's literals are numbers of two bytes
use Rattle.std.specs.Prelude.{◌≡◌, refl, false, ℕ, zero, suc, ◌+◌, ◌*◌, ◌/◌, ◌%◌, ◌<◌, ◌≤◌, drop}
use Rattle.std.proofs.Math.Path.{ap, sym}
use Rattle.std.proofs.Common.{ap₂, ◌∙◌, zero-add}
use mathlib.Core.List.Memᴰ
use mathlib.Core.List.{List, [], ◌∷◌, ◌++◌, map}
use native.Mathlib.Omega.{arith}
use Rattle.std.proofs.Math.ListN.{length, length-map}
use Rattle.std.proofs.lemmas.List.Edits.{sets-eq}
use Rattle.lists.specs.Lists.{◌∈◌, flat_map}
use Rattle.lists.specs.Flats.{length-flat}
use Rattle.rules.specs.declared.Side.{Side}
use Rattle.rules.specs.declared.Side.TheVariants.{Wall, Open}
use Rattle.rules.specs.declared.Literal.{Literal}
use Rattle.rules.specs.Page.{Contains}
use Rattle.rules.specs.Codes.{side_code, literal_code, put}
use Rattle.rules.specs.Check.{Reason, conflict, check}
use Rattle.laws.specs.CodeLaws.{decided-below}
use Rattle.argument.proofs.FlatDemand.{flat-holds}
use Rattle.board.specs.declared.Board.{Board}
use Rattle.board.specs.Alien.{is_alien}
use Rattle.board.specs.Board.{Typed}
use Rattle.board.specs.View.{puzzle_of, states_of}
use Rattle.board.specs.NativeLaws.{native-has}
use Rattle.image.specs.Image.{two_bytes, put_bytes}
use Rattle.image.specs.ByteLaws.{two-long}
use Rattle.image.specs.Runs.{codes_in}

pub length-codes : (m : List ℕ) → length (codes_in m) ≡ length m / 2
unfolding codes_in
length-codes [] = refl
length-codes (low ∷ []) = refl
length-codes (low ∷ high ∷ m) = let e = length-codes m in omega arith

twice : (k : ℕ) → 2 * suc k ≡ suc (suc (2 * k))
twice k = omega arith

codes-drop : (k : ℕ) (m : List ℕ) → codes_in (drop (2 * k) m) ≡ drop k (codes_in m)
unfolding codes_in
codes-drop zero m = refl
codes-drop (suc k) [] = rw (twice k)
codes-drop (suc k) (low ∷ []) = rw (twice k)
codes-drop (suc k) (low ∷ high ∷ m) = rw (twice k) (codes-drop k m)

codes-bytes : (cs rest : List ℕ) → ((c : ℕ) → c ∈ cs → c < 65536)
    → codes_in (flat_map two_bytes cs ++ rest) ≡ cs ++ codes_in rest
unfolding codes_in flat_map two_bytes
codes-bytes [] rest h = refl
codes-bytes (c ∷ cs) rest h =
    let s = h c (Memᴰ.head refl) in
    let e : c % 256 + 256 * (c / 256 % 256) ≡ c = omega arith in
    ap₂ (λ (x : ℕ) (l : List ℕ). x ∷ l) e (codes-bytes cs rest (λ x m. h x (Memᴰ.tail m)))

module _ (r : Reason) (h : (l : Literal) → l ∈ r → literal_code l < 65536) where
  code-small : (ls : Reason) → ((l : Literal) → l ∈ ls → literal_code l < 65536) → (c : ℕ) → c ∈ map literal_code ls
      → c < 65536
  code-small [] k c m = elim m [ ]
  code-small (l ∷ ls) k c (Memᴰ.head q) = rw q (k l (Memᴰ.head refl))
  code-small (l ∷ ls) k c (Memᴰ.tail m) = code-small ls (λ x n. k x (Memᴰ.tail n)) c m

  pub codes-written : (m : List ℕ) → 2 * length r ≤ length m → codes_in (put_bytes m r) ≡ put (codes_in m) 0 r
  unfolding put_bytes put
  codes-written m f =
      let cs = map literal_code r in
      let k = length-map r literal_code in
      let n = length-flat two_bytes 2 cs (λ x m. two-long x) in
      let e : length (flat_map two_bytes cs) ≡ 2 * length cs = omega arith in
      let q = length-codes m in
      ap codes_in (sets-eq (flat_map two_bytes cs) m 0 (omega arith) ∙ simp (zero-add, e))
      ∙ codes-bytes cs (drop (2 * length cs) m) (code-small r h)
      ∙ ap (λ (l : List ℕ). cs ++ l) (codes-drop (length cs) m)
      ∙ sym (sets-eq cs (codes_in m) 0 (omega arith) ∙ simp zero-add)

side-small : (d : Side) → side_code d < 2
side-small Wall = omega arith
side-small Open = omega arith

pub literals-small : (b : Board) → is_alien b ≡ false → Typed b → (r : Reason)
    → check (puzzle_of b) (states_of b) ≡ conflict r → (l : Literal) → l ∈ r → literal_code l < 65536
unfolding puzzle_of states_of Contains
literals-small b t T r e l m =
    let z = (native-has b t).size in
    let k = decided-below b.borders l.border l.side
    (flat-holds b.height b.width (omega arith) _ _ (states_of b) r e l m) in
    let q = T.borders in
    let s = side-small l.side in
    omega arith
