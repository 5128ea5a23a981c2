-- Image and board, there and back; and an image is alien exactly if it is the image of no board that is not.
use Rattle.std.specs.Prelude.{◌≡◌, refl, Bool, true, false, cond, ◌↔◌, eqb, pos, negsuc, length, take, drop}
use Rattle.std.proofs.Math.Path.{ap, ap₂, sym}
use Rattle.std.proofs.Common.{◌∙◌, arith, eq-eqb, eqb-true, drop-cons}
use Rattle.std.proofs.lemmas.Bool.{false≢true}
use mathlib.Core.List.{List, [], ◌∷◌, ◌++◌}
use Prim.Native.Nat.{ℕ, ◌+◌, ◌*◌, ◌<◌, ◌≤◌}
use Rattle.std.proofs.Math.Decide.{dec_lt}
use Rattle.std.proofs.Math.ListN.{get_or, length-drop, get_or-eq_default}
use Rattle.std.proofs.Math.Seq.{take_all}
use Rattle.std.specs.Int.Signed.{le_z}
use Rattle.lists.specs.Lists.{flat_map}
use Rattle.lists.specs.Table.{table}
use Rattle.lists.specs.TableLaws.{table_is, get_d-table, length-table, flat-part, table-part}
use Rattle.lists.specs.Stores.{drop-split}
use Rattle.rules.specs.Book.{tally_of}
use Rattle.board.specs.declared.Board.{Board}
use Rattle.board.specs.Alien.{cell_count_of, board_of, is_alien}
use Rattle.board.specs.Board.{Typed}
use Rattle.board.specs.NativeLaws.{Native, native-has, borders-fit, tally-fits}
use Rattle.image.specs.Image.{pair, quad, from_bits, spelled_board, two_bytes, four_bytes, bits_of, clue_bytes}
use Rattle.image.specs.Image.{image_of}
use Rattle.image.specs.Image.{spelled_tally, tally_counts, tally_bytes, right_length, image_alien, Bytes, Proper}
use Rattle.image.specs.ByteLaws.{pair_of, quad-of, two-of, four-of, quad-small, bits-from, from-small}
use Rattle.image.specs.ByteLaws.{bits_small, from_bits_lem}
use Rattle.image.specs.LayoutLaws.{image-long, colour-at, clue-at, border-at, count_at, entry_at, tally-at}

-- ---- an image that is read and written again
module _ (s : List ℕ) (h : Bytes s) (e : length s ≡ 11082) where
  front : s ≡ (get_or s 0 0 ∷ get_or s 1 0 ∷ []) ++ drop 2 s
  front = drop-cons s 0 0 (omega arith) ∙ ap (λ (l : List ℕ). get_or s 0 0 ∷ l) (drop-cons s 1 0 (omega arith))

  clue-part : flat_map clue_bytes (table 1024 (λ i. from_bits (quad s (1026 + 4 * i))))
      ≡ take 4096 (drop 1026 s)
  clue-part =
      flat-part clue_bytes 4 1026 1024 (λ i. from_bits (quad s (1026 + 4 * i))) s
      (λ i l.
      ap four_bytes (bits-from (quad s (1026 + 4 * i)) (quad-small s h (1026 + 4 * i)))
      ∙ four-of s h (1026 + 4 * i) (omega arith))

  -- n numbers of two bytes from a place on
  pairs-part : (a n : ℕ) → a + 2 * n ≤ 11082
      → flat_map two_bytes (table n (λ i. pair s (a + 2 * i))) ≡ take (2 * n) (drop a s)
  pairs-part a n l =
      flat-part two_bytes 2 a n (λ i. pair s (a + 2 * i)) s (λ i m. two-of s h (a + 2 * i) (omega arith))

  tally-part : tally_bytes (spelled_tally s) ≡ drop 11076 s
  unfolding table
  tally-part = pairs-part 11076 3 (omega arith) ∙ take_all 6 (drop 11076 s) (omega (arith, length-drop 11076 s))

  pub image-board : image_of (spelled_board s) ≡ s
  unfolding image_of spelled_board
  image-board =
      let a : List ℕ = get_or s 0 0 ∷ get_or s 1 0 ∷ [] in
      let p = table-part 2 1024 0 s (omega arith) in
      let q = table-part 5122 1984 0 s (omega arith) in
      let r = two-of s h 7106 (omega arith) in
      ap₂ (λ (x y : List ℕ). a ++ (x ++ y)) p
      (ap₂ (λ (x y : List ℕ). x ++ y) clue-part
      (ap₂ (λ (x y : List ℕ). x ++ y) q
      (ap₂ (λ (x y : List ℕ). x ++ y) r
      (ap₂ (λ (x y : List ℕ). x ++ y) (pairs-part 7108 1984 (omega arith)) tally-part ∙ sym (drop-split 3968 7108 s))
      ∙ sym (drop-split 2 7106 s)) ∙ sym (drop-split 1984 5122 s))
      ∙ sym (drop-split 4096 1026 s))
      ∙ ap (λ (l : List ℕ). a ++ l) (sym (drop-split 1024 2 s))
      ∙ sym front

-- the board of an image is a value of the code's type
pub board-typed : (s : List ℕ) → Typed (spelled_board s)
unfolding spelled_board
board-typed s =
    record {
      colours = length-table 1024 _;
      clues = length-table 1024 _;
      borders = length-table 1984 _;
      stack = length-table 1984 _;
      small = λ i. small i (dec_lt i 1024);
    }
  where
    small : (i : ℕ) → Dec (i < 1024)
        → le_z (get_or (table 1024 (λ j. from_bits (quad s (1026 + 4 * j)))) i (pos 0)) (pos 2147483647) ≡ true
    small i (yes l) =
        rw (get_d-table 1024 (λ j. from_bits (quad s (1026 + 4 * j))) i (pos 0) l)
        (from-small (quad s (1026 + 4 * i)))
    small i (no l) =
        let g = length-table 1024 (λ j. from_bits (quad s (1026 + 4 * j))) in
        rw (get_or-eq_default (table 1024 (λ j. from_bits (quad s (1026 + 4 * j)))) (pos 0) {n = i} (omega arith))

-- ---- a board that is written and read again
module _ (b : Board) (T : Typed b) (N : Native b) where
  -- every number fits its bytes
  entry-small : (i : ℕ) → get_or b.stack i 0 < 65536
  entry-small i = go (dec_lt i b.count)
    where
      go : Dec (i < b.count) → get_or b.stack i 0 < 65536
      go (yes l) = omega (arith, N.entry i l, borders-fit b N)
      go (no l) = let z = N.no_entry i (omega arith) in omega arith

  clue-right : (i : ℕ) → le_z (negsuc 0) (get_or b.clues i (pos 0)) ≡ true
  clue-right i = go (dec_lt i (cell_count_of b))
    where
      go : Dec (i < cell_count_of b) → le_z (negsuc 0) (get_or b.clues i (pos 0)) ≡ true
      go (yes l) = N.clue i l
      go (no l) = rw (N.no_clue i (omega arith))

  clue-is : (i : ℕ) → i < 1024 → get_or b.clues i (pos 0) ≡ from_bits (quad (image_of b) (1026 + 4 * i))
  clue-is i l =
      let k = get_or b.clues i (pos 0) in
      let p = clue-right i in
      let q = T.small i in
      sym
      (ap from_bits (quad-of (image_of b) (1026 + 4 * i) (bits_of k) (λ j m. clue-at b T i j l m) (bits_small k p q))
      ∙ from_bits_lem k p q)

  entry-is : (i : ℕ) → i < 1984 → get_or b.stack i 0 ≡ pair (image_of b) (7108 + 2 * i)
  entry-is i l =
      sym
      (pair_of (image_of b) (7108 + 2 * i) (get_or b.stack i 0) (λ j m. entry_at b T i j l m) (entry-small i))

  -- the count i of the tally
  tally-is : (i : ℕ) → i < 3 → get_or (tally_counts b.tally) i 0 < 65536
      → pair (image_of b) (11076 + 2 * i) ≡ get_or (tally_counts b.tally) i 0
  tally-is i l m = pair_of (image_of b) (11076 + 2 * i) _ (λ j k. tally-at b T i j l k) m

  written_read : spelled_board (image_of b) ≡ b
  unfolding spelled_board image_of
  written_read =
      sym
      (λ i.
      board_of b.height b.width
      (table_is 1024 _ 0 b.colours T.colours (λ j l. sym (colour-at b T j l)) i)
      (table_is 1024 _ (pos 0) b.clues T.clues clue-is i)
      (table_is 1984 _ 0 b.borders T.borders (λ j l. sym (border-at b T j l)) i)
      (table_is 1984 _ 0 b.stack T.stack entry-is i)
      (sym (pair_of (image_of b) 7106 b.count (count_at b T) few) i)
      (tally i))
    where
      few : b.count < 65536
      few = omega (arith, N.few, borders-fit b N)

      tally : b.tally ≡ spelled_tally (image_of b)
      tally =
          let f = tally-fits b N in
          let u = tally-is 0 (omega arith) (omega (arith, f.0)) in
          let w = tally-is 1 (omega arith) (omega (arith, f.1)) in
          let o = tally-is 2 (omega arith) (omega (arith, f.2)) in
          sym (λ i. tally_of (u i) (w i) (o i))

pub board-image : (b : Board) → Proper b → spelled_board (image_of b) ≡ b
board-image b P = written_read b P.typed (native-has b P.known)

-- ---- which images are alien
pub long-is : (s : List ℕ) → length s ≡ 11082 → right_length s ≡ true
unfolding right_length
long-is s e = eq-eqb (length s) 11082 e

pub image-known : (b : Board) → Proper b → image_alien (image_of b) ≡ false
unfolding image_alien
image-known b P = rw (long-is (image_of b) (image-long b P.typed), board-image b P) P.known

pub known-board : (s : List ℕ) → image_alien s ≡ false → (length s ≡ 11082) × Proper (spelled_board s)
unfolding image_alien right_length
known-board s a = go (eqb (length s) 11082) refl a
  where
    go : (t : Bool) → eqb (length s) 11082 ≡ t → cond t (is_alien (spelled_board s)) true ≡ false
        → (length s ≡ 11082) × Proper (spelled_board s)
    go true p q = (eqb-true (length s) 11082 p, record { known = q; typed = board-typed s })
    go false p q = absurd (false≢true (sym q))

-- an image is not alien exactly if it is the image of a board that is not
pub alien-image : (s : List ℕ) → Bytes s → (image_alien s ≡ false) ↔ ((b : Board) × Proper b × (s ≡ image_of b))
alien-image s h = (
  λ a. let r = known-board s a in (spelled_board s, r.1, sym (image-board s h r.0)),
  λ r. ap image_alien r.2 ∙ image-known r.0 r.1,
)
