-- Where each part of a board stands in its image: what is read there, and the image of a board with one place changed.
use Rattle.std.specs.Prelude.{◌≡◌, ℕ, ◌+◌, ◌*◌, ◌<◌, pos, length, set}
use Rattle.std.proofs.Math.Path.{refl, ap}
use Rattle.std.proofs.Common.{sym, ◌∙◌, length-set}
use mathlib.Core.List.{List, [], ◌∷◌, ◌++◌}
use native.Mathlib.Omega.{arith}
use Rattle.std.proofs.Math.ListN.{get_or, length-append, get_or-append}
use Rattle.std.proofs.lemmas.List.{set-append_left}
use Rattle.std.proofs.Math.Seq.{sets}
use Rattle.lists.specs.Lists.{flat_map}
use Rattle.lists.specs.Appends.{flat_append}
use Rattle.lists.specs.Stores.{get_d_past, sets-past, sets-flat}
use Rattle.lists.specs.Flats.{length-flat, get_d-flat}
use Rattle.rules.specs.declared.Tally.{Tally}
use Rattle.board.specs.declared.Board.{Board}
use Rattle.board.specs.Alien.{board_with}
use Rattle.board.specs.Board.{Typed}
use Rattle.image.specs.Image.{two_bytes, four_bytes, bits_of, clue_bytes, tally_counts, tally_bytes, image_of}
use Rattle.image.specs.Image.{image_written}
use Rattle.image.specs.ByteLaws.{two-long, four-long, two-over}

-- ---- three parts, and then the rest, which starts at 5122
module _ (a c k r : List ℕ) (p : length a ≡ 2) (q : length c ≡ 1024) (m : length k ≡ 4096) where
  get_d-rest : (i : ℕ) → get_or (a ++ (c ++ (k ++ r))) (5122 + i) 0 ≡ get_or r i 0
  get_d-rest i =
      let e : 5122 + i ≡ 2 + (1024 + (4096 + i)) = omega arith in
      ap (λ j. get_or (a ++ (c ++ (k ++ r))) j 0) e
      ∙ get_d_past a (c ++ (k ++ r)) 2 p (1024 + (4096 + i)) 0
      ∙ get_d_past c (k ++ r) 1024 q (4096 + i) 0
      ∙ get_d_past k r 4096 m i 0

  sets-rest : (i : ℕ) (vs : List ℕ)
      → sets (a ++ (c ++ (k ++ r))) (5122 + i) vs ≡ a ++ (c ++ (k ++ sets r i vs))
  sets-rest i vs =
      let e : 5122 + i ≡ 2 + (1024 + (4096 + i)) = omega arith in
      ap (λ j. sets (a ++ (c ++ (k ++ r))) j vs) e
      ∙ sets-past a (c ++ (k ++ r)) 2 (1024 + (4096 + i)) vs p
      ∙ ap (λ (l : List ℕ). a ++ l) (sets-past c (k ++ r) 1024 (4096 + i) vs q)
      ∙ ap (λ (l : List ℕ). a ++ (c ++ l)) (sets-past k r 4096 i vs m)

  get_d-clues : (i : ℕ) → i < 4096 → get_or (a ++ (c ++ (k ++ r))) (1026 + i) 0 ≡ get_or k i 0
  get_d-clues i h =
      let e : 1026 + i ≡ 2 + (1024 + i) = omega arith in
      ap (λ j. get_or (a ++ (c ++ (k ++ r))) j 0) e
      ∙ get_d_past a (c ++ (k ++ r)) 2 p (1024 + i) 0
      ∙ get_d_past c (k ++ r) 1024 q i 0
      ∙ get_or-append k r 0 i (omega arith)

-- ---- a board with one place changed
module _ (b : Board) where
  -- the border n is v
  abbrev pub with_border : ℕ → ℕ → Board
  with_border n v = board_with b (set b.borders n v) b.stack b.count b.tally

  -- the count is c
  abbrev pub with_count : ℕ → Board
  with_count c = board_with b b.borders b.stack c b.tally

  -- the entry i of the stack is e
  abbrev pub with_entry : ℕ → ℕ → Board
  with_entry i e = board_with b b.borders (set b.stack i e) b.count b.tally

  -- the tally is t
  abbrev pub with_tally : Tally → Board
  with_tally t = board_with b b.borders b.stack b.count t

tally-long : (t : Tally) → length (tally_bytes t) ≡ 6
unfolding flat_map two_bytes
tally-long t = refl

tally-over : (t u : Tally) → sets (tally_bytes t) 0 (tally_bytes u) ≡ tally_bytes u
unfolding flat_map two_bytes
tally-over t u = refl

-- ---- what is read
module _ (b : Board) (T : Typed b) where
  clues-long : length (flat_map clue_bytes b.clues) ≡ 4096
  clues-long = length-flat clue_bytes 4 b.clues (λ k m. four-long (bits_of k)) ∙ ap (λ j. 4 * j) T.clues

  stack-long : length (flat_map two_bytes b.stack) ≡ 3968
  stack-long = length-flat two_bytes 2 b.stack (λ x m. two-long x) ∙ ap (λ j. 2 * j) T.stack

  abbrev size : List ℕ
  size = b.height ∷ b.width ∷ []

  abbrev clues : List ℕ
  clues = flat_map clue_bytes b.clues

  -- the stack and the tally: numbers of two bytes
  abbrev ends : List ℕ
  ends = flat_map two_bytes b.stack ++ tally_bytes b.tally

  ends-flat : ends ≡ flat_map two_bytes (b.stack ++ tally_counts b.tally)
  ends-flat = sym (flat_append two_bytes b.stack (tally_counts b.tally))

  abbrev rest : List ℕ
  rest = b.borders ++ (two_bytes b.count ++ ends)

  pub image-long : length (image_of b) ≡ 11082
  unfolding image_of
  image-long =
      let g = T.colours in
      let h = T.borders in
      omega (
        arith,
        clues-long,
        stack-long,
        two-long b.count,
        tally-long b.tally,
        length-append b.colours (clues ++ rest),
        length-append clues rest,
        length-append b.borders (two_bytes b.count ++ ends),
        length-append (two_bytes b.count) ends,
        length-append (flat_map two_bytes b.stack) (tally_bytes b.tally),
      )

  pub colour-at : (i : ℕ) → i < 1024 → get_or (image_of b) (2 + i) 0 ≡ get_or b.colours i 0
  unfolding image_of
  colour-at i h =
      let g = T.colours in
      get_d_past size (b.colours ++ (clues ++ rest)) 2 refl i 0
      ∙ get_or-append b.colours (clues ++ rest) 0 i (omega arith)

  pub clue-at : (i j : ℕ) → i < 1024 → j < 4
      → get_or (image_of b) (1026 + 4 * i + j) 0 ≡ get_or (four_bytes (bits_of (get_or b.clues i (pos 0)))) j 0
  unfolding image_of
  clue-at i j h l =
      let g = T.clues in
      let e : 1026 + 4 * i + j ≡ 1026 + (4 * i + j) = omega arith in
      ap (λ n. get_or (size ++ (b.colours ++ (clues ++ rest))) n 0) e
      ∙ get_d-clues size b.colours clues rest refl T.colours clues-long (4 * i + j) (omega arith)
      ∙ get_d-flat clue_bytes 4 (λ k. four-long (bits_of k)) b.clues i j (pos 0) 0 (omega arith) l

  rest_at : (i : ℕ) → get_or (image_of b) (5122 + i) 0 ≡ get_or rest i 0
  unfolding image_of
  rest_at i = get_d-rest size b.colours clues rest refl T.colours clues-long i

  pub border-at : (n : ℕ) → n < 1984 → get_or (image_of b) (5122 + n) 0 ≡ get_or b.borders n 0
  border-at n h =
      let g = T.borders in
      rest_at n ∙ get_or-append b.borders (two_bytes b.count ++ ends) 0 n (omega arith)

  pub count_at : (j : ℕ) → j < 2 → get_or (image_of b) (7106 + j) 0 ≡ get_or (two_bytes b.count) j 0
  count_at j h =
      let e : 7106 + j ≡ 5122 + (1984 + j) = omega arith in
      ap (λ n. get_or (image_of b) n 0) e
      ∙ rest_at (1984 + j)
      ∙ get_d_past b.borders (two_bytes b.count ++ ends) 1984 T.borders j 0
      ∙ get_or-append (two_bytes b.count) ends 0 j (omega (arith, two-long b.count))

  -- the number i of the stack and the tally
  ends_at : (i j : ℕ) → i < 1987 → j < 2
      → get_or (image_of b) (7108 + 2 * i + j) 0 ≡ get_or (two_bytes (get_or (b.stack ++ tally_counts b.tally) i 0)) j 0
  ends_at i j h l =
      let g = T.stack in
      let k = length-append b.stack (tally_counts b.tally) in
      let e : 7108 + 2 * i + j ≡ 5122 + (1984 + (2 + (2 * i + j))) = omega arith in
      ap (λ n. get_or (image_of b) n 0) e
      ∙ rest_at (1984 + (2 + (2 * i + j)))
      ∙ get_d_past b.borders (two_bytes b.count ++ ends) 1984 T.borders (2 + (2 * i + j)) 0
      ∙ get_d_past (two_bytes b.count) ends 2 (two-long b.count) (2 * i + j) 0
      ∙ ap (λ (x : List ℕ). get_or x (2 * i + j) 0) ends-flat
      ∙ get_d-flat two_bytes 2 two-long (b.stack ++ tally_counts b.tally) i j 0 0 (omega arith) l

  pub entry_at : (i j : ℕ) → i < 1984 → j < 2
      → get_or (image_of b) (7108 + 2 * i + j) 0 ≡ get_or (two_bytes (get_or b.stack i 0)) j 0
  entry_at i j h l =
      let g = T.stack in
      ends_at i j (omega arith) l
      ∙ ap (λ v. get_or (two_bytes v) j 0) (get_or-append b.stack (tally_counts b.tally) 0 i (omega arith))

  pub tally-at : (i j : ℕ) → i < 3 → j < 2
      → get_or (image_of b) (11076 + 2 * i + j) 0 ≡ get_or (two_bytes (get_or (tally_counts b.tally) i 0)) j 0
  tally-at i j h l =
      let e : 11076 + 2 * i + j ≡ 7108 + 2 * (1984 + i) + j = omega arith in
      ap (λ n. get_or (image_of b) n 0) e
      ∙ ends_at (1984 + i) j (omega arith) l
      ∙ ap (λ v. get_or (two_bytes v) j 0) (get_d_past b.stack (tally_counts b.tally) 1984 T.stack i 0)

  -- ---- one place changed
  rest-sets : (i : ℕ) (vs : List ℕ)
      → sets (image_of b) (5122 + i) vs ≡ size ++ (b.colours ++ (clues ++ sets rest i vs))
  unfolding image_of
  rest-sets i vs = sets-rest size b.colours clues rest refl T.colours clues-long i vs

  pub border-image : (n v : ℕ) → n < 1984 → set (image_of b) (5122 + n) v ≡ image_of (with_border b n v)
  unfolding image_of
  border-image n v h =
      let g = T.borders in
      rest-sets n (v ∷ [])
      ∙ ap (λ (l : List ℕ). size ++ (b.colours ++ (clues ++ l)))
      (set-append_left b.borders (two_bytes b.count ++ ends) n v (omega arith))

  pub count-image : (c : ℕ) → sets (image_of b) 7106 (two_bytes c) ≡ image_of (with_count b c)
  unfolding image_of
  count-image c =
      rest-sets 1984 (two_bytes c)
      ∙ ap (λ (l : List ℕ). size ++ (b.colours ++ (clues ++ l)))
      (sets-past b.borders (two_bytes b.count ++ ends) 1984 0 (two_bytes c) T.borders
      ∙ ap (λ (l : List ℕ). b.borders ++ l) (two-over b.count c ends))

  ends-sets : (i : ℕ) (vs : List ℕ)
      → sets (image_of b) (7108 + i) vs
      ≡ size ++ (b.colours ++ (clues ++ (b.borders ++ (two_bytes b.count ++ sets ends i vs))))
  ends-sets i vs =
      let p : 7108 + i ≡ 5122 + (1984 + (2 + i)) = omega arith in
      ap (λ n. sets (image_of b) n vs) p
      ∙ rest-sets (1984 + (2 + i)) vs
      ∙ ap (λ (l : List ℕ). size ++ (b.colours ++ (clues ++ l)))
      (sets-past b.borders (two_bytes b.count ++ ends) 1984 (2 + i) vs T.borders
      ∙ ap (λ (l : List ℕ). b.borders ++ l)
      (sets-past (two_bytes b.count) ends 2 i vs (two-long b.count)))

  pub entry-image : (i e : ℕ) → i < 1984 → sets (image_of b) (7108 + 2 * i) (two_bytes e) ≡ image_of (with_entry b i e)
  unfolding image_of
  entry-image i e h =
      let g = T.stack in
      let xs = tally_counts b.tally in
      let k = length-append b.stack xs in
      ends-sets (2 * i) (two_bytes e)
      ∙ ap (λ (l : List ℕ). size ++ (b.colours ++ (clues ++ (b.borders ++ (two_bytes b.count ++ l)))))
      (ap (λ (l : List ℕ). sets l (2 * i) (two_bytes e)) ends-flat
      ∙ sets-flat two_bytes 2 two-long two-over (b.stack ++ xs) i e (omega arith)
      ∙ ap (flat_map two_bytes) (set-append_left b.stack xs i e (omega arith))
      ∙ flat_append two_bytes (set b.stack i e) xs)

  pub tally-image : (t : Tally) → sets (image_of b) 11076 (tally_bytes t) ≡ image_of (with_tally b t)
  unfolding image_of
  tally-image t =
      ends-sets 3968 (tally_bytes t)
      ∙ ap (λ (l : List ℕ). size ++ (b.colours ++ (clues ++ (b.borders ++ (two_bytes b.count ++ l)))))
      (sets-past (flat_map two_bytes b.stack) (tally_bytes b.tally) 3968 0 (tally_bytes t) stack-long
      ∙ ap (λ (l : List ℕ). flat_map two_bytes b.stack ++ l) (tally-over b.tally t))

-- a border, the count, an entry of the stack and the tally
pub written-image : (b : Board) → Typed b → (n v c i e : ℕ) (t : Tally) → n < 1984 → i < 1984
    → image_written (image_of b) n v c i e t
    ≡ image_of (with_tally (with_entry (with_count (with_border b n v) c) i e) t)
unfolding image_written
written-image b T n v c i e t p q =
    let S : Typed (with_border b n v) = record {
      colours = T.colours;
      clues = T.clues;
      borders = length-set b.borders n v ∙ T.borders;
      stack = T.stack;
      small = T.small;
    } in
    let U : Typed (with_count (with_border b n v) c) = record {
      colours = S.colours;
      clues = S.clues;
      borders = S.borders;
      stack = S.stack;
      small = S.small;
    } in
    let W : Typed (with_entry (with_count (with_border b n v) c) i e) = record {
      colours = U.colours;
      clues = U.clues;
      borders = U.borders;
      stack = length-set b.stack i e ∙ U.stack;
      small = U.small;
    } in
    ap (λ (s : List ℕ). sets (sets (sets s 7106 (two_bytes c)) (7108 + 2 * i) (two_bytes e)) 11076 (tally_bytes t))
    (border-image b T n v p)
    ∙ ap (λ (s : List ℕ). sets (sets s (7108 + 2 * i) (two_bytes e)) 11076 (tally_bytes t))
    (count-image (with_border b n v) S c)
    ∙ ap (λ (s : List ℕ). sets s 11076 (tally_bytes t)) (entry-image (with_count (with_border b n v) c) U i e q)
    ∙ tally-image (with_entry (with_count (with_border b n v) c) i e) W t
