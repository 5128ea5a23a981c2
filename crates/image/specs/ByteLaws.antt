-- Laws of bytes: a number from its two or four bytes, the bytes of a number that was read, and signed numbers.
use Rattle.std.specs.Prelude.{◌≡◌, refl, true, List, [], ◌∷◌, ◌++◌, ℕ, zero, suc, ◌+◌, ◌-◌}
use Rattle.std.specs.Prelude.{◌*◌, ◌/◌, ◌%◌, ◌<◌, ◌≤◌, ℤ, pos}
use Rattle.std.specs.Prelude.{negsuc, length, take, drop}
use Rattle.std.proofs.Math.Path.{ap, ap₂, sym}
use Rattle.std.proofs.Common.{◌∙◌, lt-ltb, le-ltb, le-leb, leb-true, take-add, drop-drop}
use Rattle.std.proofs.Math.Decide.{dec_lt}
use native.Mathlib.Omega.{arith}
use Rattle.std.proofs.Math.ListN.{get_or}
use borrow.Rule.Slice.PartMut.{put_mid}
use Rattle.std.proofs.lemmas.List.Edits.{sets, sets-eq, paste_all}
use Rattle.std.proofs.lemmas.Slice.{put_mid-paste}
use Rattle.std.specs.Int.{w32, to_le_bytes, cast_unsigned}
use mathlib.Core.List.{append_assoc}
use Rattle.std.specs.Int.Signed.{le_z}
use Rattle.lists.specs.Table.{table}
use Rattle.lists.specs.TableLaws.{table-part}
use Rattle.image.specs.Image.{pair, quad, from_bits, two_bytes, four_bytes, bits_of, clue_bytes, Bytes}

pub two-long : (v : ℕ) → length (two_bytes v) ≡ 2
unfolding two_bytes
two-long v = refl

pub four-long : (v : ℕ) → length (four_bytes v) ≡ 4
unfolding four_bytes two_bytes
four-long v = refl

-- two bytes stored over two others
pub two-over : (v w : ℕ) (l : List ℕ) → sets (two_bytes v ++ l) 0 (two_bytes w) ≡ two_bytes w ++ l
unfolding two_bytes
two-over v w l = refl

-- a part of a list that is overwritten by as many elements: they are stored one after the other
pub part-stored : {A : Type 0} (a k : ℕ) (l part vs : List A) → part ≡ vs → length vs ≡ k → a + k ≤ length l
    → put_mid a k l part ≡ sets l a vs
part-stored a k l part vs e n h =
    put_mid-paste a k l part vs k e refl (sym n)
    ∙ paste_all l a vs k (sym n)
    ∙ sym (sets-eq vs l a (omega arith) ∙ rw n (append_assoc (take a l) vs (drop (a + k) l)))

-- the library's bytes of a number of 32 bits, and of a clue
four-le : (v : ℕ) → to_le_bytes w32 v ≡ four_bytes v
unfolding four_bytes two_bytes
four-le v =
    let e : v / 16777216 ≡ v / 65536 / 256 = omega arith in
    ap (λ t. v % 256 ∷ v / 256 % 256 ∷ v / 65536 % 256 ∷ t % 256 ∷ []) e

pub clue-le : (z : ℤ) → to_le_bytes w32 (cast_unsigned w32 z) ≡ clue_bytes z
clue-le (pos n) = four-le n
clue-le (negsuc n) =
    let e : 4294967296 - suc n ≡ 4294967295 - n = omega arith in
    four-le (4294967296 - suc n) ∙ ap four_bytes e

-- ---- a number from its bytes
module _ (s : List ℕ) (k v : ℕ) where
  pub pair_of : ((j : ℕ) → j < 2 → get_or s (k + j) 0 ≡ get_or (two_bytes v) j 0) → v < 65536 → pair s k ≡ v
  unfolding two_bytes
  pair_of f h =
      let z : k + 0 ≡ k = omega arith in
      let p : get_or s k 0 ≡ v % 256 = ap (λ j. get_or s j 0) (sym z) ∙ f 0 (omega arith) in
      let q : get_or s (k + 1) 0 ≡ v / 256 % 256 = f 1 (omega arith) in
      omega arith

pub quad-of : (s : List ℕ) (k v : ℕ) → ((j : ℕ) → j < 4 → get_or s (k + j) 0 ≡ get_or (four_bytes v) j 0)
    → v < 4294967296 → quad s k ≡ v
unfolding four_bytes two_bytes
quad-of s k v f h =
    let z : k + 0 ≡ k = omega arith in
    let t : k + 3 ≡ k + 2 + 1 = omega arith in
    let p : get_or s k 0 ≡ v % 256 = ap (λ j. get_or s j 0) (sym z) ∙ f 0 (omega arith) in
    let q : get_or s (k + 1) 0 ≡ v / 256 % 256 = f 1 (omega arith) in
    let r : get_or s (k + 2) 0 ≡ v / 65536 % 256 = f 2 (omega arith) in
    let u : get_or s (k + 2 + 1) 0 ≡ v / 65536 / 256 % 256 = ap (λ j. get_or s j 0) (sym t) ∙ f 3 (omega arith) in
    omega arith

-- ---- the bytes of a number that was read
low : (a b : ℕ) → a < 256 → (a + 256 * b) % 256 ≡ a
low a b h = omega arith

high : (a b : ℕ) → a < 256 → b < 256 → (a + 256 * b) / 256 % 256 ≡ b
high a b h k = let e : (a + 256 * b) / 256 ≡ b = omega arith in ap (λ x. x % 256) e ∙ small
  where
    small : b % 256 ≡ b
    small = omega arith

module _ (s : List ℕ) (h : Bytes s) (k : ℕ) where
  pub two-of : k + 2 ≤ length s → two_bytes (pair s k) ≡ take 2 (drop k s)
  unfolding two_bytes table
  two-of l =
      let z : k + 0 ≡ k = omega arith in
      let x : get_or s (k + 0) 0 ≡ get_or s k 0 = ap (λ j. get_or s j 0) z in
      let p : pair s k % 256 ≡ get_or s (k + 0) 0 = low (get_or s k 0) (get_or s (k + 1) 0) (h k) ∙ sym x in
      let q : pair s k / 256 % 256 ≡ get_or s (k + 1) 0 = high (get_or s k 0) (get_or s (k + 1) 0) (h k) (h (k + 1)) in
      ap₂ (λ (y w : ℕ). y ∷ w ∷ []) p q ∙ table-part k 2 0 s l

low' : (a b : ℕ) → (a + 256 * b) % 256 ≡ a % 256
low' a b = omega arith

two-low : (v w : ℕ) → two_bytes (v + 65536 * w) ≡ two_bytes v
unfolding two_bytes
two-low v w =
    let p : (v + 65536 * w) % 256 ≡ v % 256 = omega arith in
    let r : (v + 65536 * w) / 256 ≡ v / 256 + 256 * w = omega arith in
    let q : (v + 65536 * w) / 256 % 256 ≡ v / 256 % 256 = ap (λ x. x % 256) r ∙ low' (v / 256) w in
    ap₂ (λ (y z : ℕ). y ∷ z ∷ []) p q

pub four-of : (s : List ℕ) → Bytes s → (k : ℕ) → k + 4 ≤ length s → four_bytes (quad s k) ≡ take 4 (drop k s)
unfolding four_bytes
four-of s h k l =
    let a = h k in
    let b = h (k + 1) in
    let e : quad s k / 65536 ≡ pair s (k + 2) = omega arith in
    ap₂ (λ (x y : List ℕ). x ++ y) (two-low (pair s k) (pair s (k + 2)) ∙ two-of s h k (omega arith))
    (ap two_bytes e ∙ two-of s h (k + 2) (omega arith) ∙ ap (λ (x : List ℕ). take 2 x) (sym (drop-drop 2 k s)))
    ∙ sym (take-add 2 2 (drop k s))

pub quad-small : (s : List ℕ) → Bytes s → (k : ℕ) → quad s k < 4294967296
quad-small s h k = omega (arith, h k, h (k + 1), h (k + 2), h (k + 2 + 1))

-- ---- signed numbers
pub bits-from : (n : ℕ) → n < 4294967296 → bits_of (from_bits n) ≡ n
bits-from n h = go (dec_lt n 2147483648)
  where
    go : Dec (n < 2147483648) → bits_of (from_bits n) ≡ n
    go (yes l) = rw (lt-ltb n 2147483648 l)
    go (no l) = rw (le-ltb n 2147483648 (omega arith)) (omega arith)

pub from-small : (n : ℕ) → le_z (from_bits n) (pos 2147483647) ≡ true
from-small n = go (dec_lt n 2147483648)
  where
    go : Dec (n < 2147483648) → le_z (from_bits n) (pos 2147483647) ≡ true
    go (yes l) = rw (lt-ltb n 2147483648 l) (le-leb n 2147483647 (omega arith))
    go (no l) = rw (le-ltb n 2147483648 (omega arith))

-- a clue that is right and small
module _ (z : ℤ) (p : le_z (negsuc 0) z ≡ true) (q : le_z z (pos 2147483647) ≡ true) where
  pub bits_small : bits_of z < 4294967296
  bits_small = go z q
    where
      go : (y : ℤ) → le_z y (pos 2147483647) ≡ true → bits_of y < 4294967296
      go (pos n) e = let l = leb-true n 2147483647 e in omega arith
      go (negsuc n) e = omega arith

  pub from_bits_lem : from_bits (bits_of z) ≡ z
  from_bits_lem = go z p q
    where
      go : (y : ℤ) → le_z (negsuc 0) y ≡ true → le_z y (pos 2147483647) ≡ true → from_bits (bits_of y) ≡ y
      go (pos n) d e = let l = leb-true n 2147483647 e in rw (lt-ltb n 2147483648 (omega arith))
      go (negsuc zero) d e = refl
      go (negsuc (suc n)) d e = absurd (let l = leb-true (suc n) 0 d in omega arith)
