-- The listed transforms of a shape are its images by the listed rows.
use Rattle.std.specs.Prelude.{◌≡◌, Bool, ◌||◌}
use Rattle.std.proofs.Math.Path.{refl, sym, ap, ap₂}
use Rattle.std.proofs.Common.{◌∙◌, subst, arith}
use Rattle.std.proofs.Math.Bool.{true, false, cond, xor}
use mathlib.Core.List.{List, [], ◌∷◌, ◌++◌, map, map-append}
use Prim.Native.Nat.{ℕ, zero, suc, ◌+◌, ◌≤◌, ◌<◌}
use Rattle.std.proofs.Math.Dec.{T}
use Rattle.lists.specs.Lists.{any}
use Rattle.lists.specs.Booleans.{same_test}
use Rattle.rules.specs.Page.{Point, Shape}
use Rattle.rules.specs.Turns.{Turn, apply, compose, keep, half, quarter, half_quarter, flip}
use Rattle.rules.specs.Shapes.{turned, same_shape, with_half, quarters, with_quarter, with_flip, flat_transforms}
use Rattle.laws.specs.SameLaws.{same_points→eq, same-when}
use Rattle.laws.specs.ShapeLaws.{turned-cells, turned-compose}
use Rattle.shapes.specs.Rows.{turn_at, image, fixes, flip_listed, rotation_rows, rows_by, rows_of}

module _ (t : Shape) (settled : turned (apply keep) t ≡ t) where
  -- the cells turned by a
  abbrev C : Turn → List Point
  C a = (turned (apply a) t).cells

  act : (d a b : Turn) → C a ≡ C b → C (compose d a) ≡ C (compose d b)
  act d a b e =
      ap (λ u. u.cells) (sym (turned-compose d a t))
      ∙ (turned-cells (apply d) (turned (apply a) t) (turned (apply b) t) e ∙ ap (λ u. u.cells) (turned-compose d b t))

  kept : C keep ≡ t.cells
  kept = ap (λ u. u.cells) settled

  fixed : (r : ℕ) → T (fixes t r) → C keep ≡ C (turn_at r)
  unfolding fixes image
  fixed r e = kept ∙ same_points→eq t.cells (C (turn_at r)) e

  fixing : (r : ℕ) → C keep ≡ C (turn_at r) → T (fixes t r)
  unfolding fixes image
  fixing r e = same-when t.cells (C (turn_at r)) (sym kept ∙ e)

  -- a shape that a quarter leaves as it is, a half leaves too
  quarter-half : T (fixes t 3) → T (fixes t 1)
  unfolding xor
  quarter-half e = fixing 1 (fixed 3 e ∙ act quarter keep quarter (fixed 3 e))

  -- the flip is the image by a rotation r exactly if the reflection r + 4 leaves the shape
  flip-same : (r : ℕ) (a : Turn) → compose a (turn_at r) ≡ keep → compose a flip ≡ turn_at (r + 4)
      → compose (turn_at r) keep ≡ turn_at r → compose (turn_at r) (turn_at (r + 4)) ≡ flip
      → same_shape (image r t) (turned (apply flip) t) ≡ fixes t (r + 4)
  unfolding image
  flip-same r a i j k l =
      same_test (same_shape (turned (apply (turn_at r)) t) (turned (apply flip) t)) (fixes t (r + 4))
      (λ e. fixing (r + 4)
      (ap C (sym i) ∙ (act a (turn_at r) flip (same_points→eq (C (turn_at r)) (C flip) e) ∙ ap C j)))
      (λ e. same-when (C (turn_at r)) (C flip)
      (ap C (sym k) ∙ (act (turn_at r) keep (turn_at (r + 4)) (fixed (r + 4) e) ∙ ap C l)))

  flip0 : same_shape (image 0 t) (turned (apply flip) t) ≡ fixes t 4
  unfolding xor
  flip0 = flip-same 0 keep refl refl refl refl

  flip1 : same_shape (image 1 t) (turned (apply flip) t) ≡ fixes t 5
  unfolding xor
  flip1 = flip-same 1 half refl refl refl refl

  flip2 : same_shape (image 2 t) (turned (apply flip) t) ≡ fixes t 6
  unfolding xor
  flip2 = flip-same 2 quarter refl refl refl refl

  flip3 : same_shape (image 3 t) (turned (apply flip) t) ≡ fixes t 7
  unfolding xor
  flip3 = flip-same 3 half_quarter refl refl refl refl

  -- what leaves the shape as it is, put before a row
  moved : (r s : ℕ) (a : Turn) → compose (turn_at r) keep ≡ turn_at r → compose (turn_at r) a ≡ turn_at s → C keep ≡ C a
      → fixes t r ≡ fixes t s
  moved r s a i j e =
      let k : C (turn_at r) ≡ C (turn_at s) = ap C (sym i) ∙ (act (turn_at r) keep a e ∙ ap C j) in
      same_test (fixes t r) (fixes t s) (λ u. fixing s (fixed r u ∙ k)) (λ u. fixing r (fixed s u ∙ sym k))

  half-flip : T (fixes t 1) → fixes t 4 ≡ fixes t 5
  unfolding xor
  half-flip e = moved 4 5 half refl refl (fixed 1 e)

  half-turn : T (fixes t 1) → fixes t 6 ≡ fixes t 7
  unfolding xor
  half-turn e = moved 6 7 half refl refl (fixed 1 e)

  quarter-flip : T (fixes t 3) → fixes t 4 ≡ fixes t 7
  unfolding xor
  quarter-flip e = moved 4 7 quarter refl refl (fixed 3 e)

  -- the images by the rows of a list
  abbrev images : List ℕ → List Shape
  images rs = map (λ r. image r t) rs

  abbrev flip_among : List Shape → Bool
  flip_among us = any (λ u. same_shape u (turned (apply flip) t)) us

  image0 : image 0 t ≡ t
  unfolding image
  image0 = settled

  image2 : turned (apply half) (image 3 t) ≡ image 2 t
  unfolding image xor
  image2 = turned-compose half quarter t

  rotations : (h q : Bool) → fixes t 1 ≡ h → fixes t 3 ≡ q → with_quarter t (with_half t) ≡ images (rotation_rows h q)
  unfolding with_quarter with_half quarters fixes image
  rotations true true d e = rw (d, e) (ap (λ u. u ∷ []) (sym image0))
  rotations true false d e = rw (d, e) (ap (λ u. u ∷ image 3 t ∷ []) (sym image0))
  rotations false true d e = absurd (subst T d (quarter-half (rw e tt)))
  rotations false false d e =
      rw (d, e) (ap₂ (λ u v. u ∷ image 1 t ∷ v ∷ image 3 t ∷ []) (sym image0) image2)

  -- the flip is among the rotations exactly if a reflection leaves the shape
  among : (h q : Bool) → fixes t 1 ≡ h → fixes t 3 ≡ q → flip_among (images (rotation_rows h q)) ≡ flip_listed t
  unfolding any flip_listed
  among true true d e =
      let i = half-flip (rw d tt) in
      let j = half-turn (rw d tt) in
      let k = quarter-flip (rw e tt) in
      rw (flip0, ← i, j, ← k) (or_same (fixes t 4))
    where
      or_same : (a : Bool) → a || false ≡ a || a || a || a
      or_same true = refl
      or_same false = refl
  among true false d e =
      let i = half-flip (rw d tt) in
      let j = half-turn (rw d tt) in
      rw (flip0, flip3, ← i, j) (or-pair (fixes t 4) (fixes t 7))
    where
      or-pair : (a b : Bool) → a || (b || false) ≡ a || a || b || b
      or-pair true b = refl
      or-pair false true = refl
      or-pair false false = refl
  among false q d e = rw (flip0, flip1, flip2, flip3) (or-four (fixes t 4) (fixes t 5) (fixes t 6) (fixes t 7))
    where
      or-four : (a b c d : Bool) → a || (b || (c || (d || false))) ≡ a || b || c || d
      or-four true b c d = refl
      or-four false true c d = refl
      or-four false false true d = refl
      or-four false false false true = refl
      or-four false false false false = refl

  flipped : (h q : Bool) → map (turned (apply flip)) (images (rotation_rows h q))
      ≡ images (map (λ r. r + 4) (rotation_rows h q))
  unfolding image xor
  flipped true true = ap (λ u. u ∷ []) (turned-compose flip keep t)
  flipped true false =
      ap₂ (λ u v. u ∷ v ∷ []) (turned-compose flip keep t) (turned-compose flip quarter t)
  flipped false q =
      ap₂ (λ u us. u ∷ us) (turned-compose flip keep t)
      (ap₂ (λ u us. u ∷ us) (turned-compose flip half t)
      (ap₂ (λ u v. u ∷ v ∷ []) (turned-compose flip half_quarter t) (turned-compose flip quarter t)))

  pub transforms-rows : flat_transforms t ≡ map (λ r. image r t) (rows_of t)
  unfolding flat_transforms with_flip rows_of
  transforms-rows =
      rw (rotations (fixes t 1) (fixes t 3) refl refl, among (fixes t 1) (fixes t 3) refl refl)
      (go (flip_listed t))
    where
      go : (b : Bool) → let rs : List ℕ = rotation_rows (fixes t 1) (fixes t 3) in
          cond b (images rs) (images rs ++ map (turned (apply flip)) (images rs))
          ≡ images (cond b rs (rs ++ map (λ r. r + 4) rs))
      go true = refl
      go false =
          let rs : List ℕ = rotation_rows (fixes t 1) (fixes t 3) in
          ap (λ us. images rs ++ us) (flipped (fixes t 1) (fixes t 3))
          ∙ sym (map-append (λ r. image r t) rs (map (λ r. r + 4) rs))

-- the tests of the code, one law for each answer
module _ (t : Shape) where
  pub flip-some : (r : ℕ) → 4 ≤ r → r < 8 → fixes t r ≡ true → true ≡ flip_listed t
  unfolding flip_listed
  flip-some zero a b e = absurd (omega arith)
  flip-some (suc zero) a b e = absurd (omega arith)
  flip-some (suc (suc zero)) a b e = absurd (omega arith)
  flip-some (suc (suc (suc zero))) a b e = absurd (omega arith)
  flip-some (suc (suc (suc (suc zero)))) a b e = rw e
  flip-some (suc (suc (suc (suc (suc zero))))) a b e = rw e (go (fixes t 4))
    where
      go : (u : Bool) → true ≡ u || true || fixes t 6 || fixes t 7
      go true = refl
      go false = refl
  flip-some (suc (suc (suc (suc (suc (suc zero)))))) a b e = rw e (go (fixes t 4) (fixes t 5))
    where
      go : (u v : Bool) → true ≡ u || v || true || fixes t 7
      go true v = refl
      go false true = refl
      go false false = refl
  flip-some (suc (suc (suc (suc (suc (suc (suc zero))))))) a b e = rw e (go (fixes t 4) (fixes t 5) (fixes t 6))
    where
      go : (u v q : Bool) → true ≡ u || v || q || true
      go true v q = refl
      go false true q = refl
      go false false true = refl
      go false false false = refl
  flip-some (suc (suc (suc (suc (suc (suc (suc (suc r)))))))) a b e = absurd (omega arith)

  pub flip-none : ((r : ℕ) → 4 ≤ r → r < 8 → fixes t r ≡ false) → false ≡ flip_listed t
  unfolding flip_listed
  flip-none f = rw (
    f 4 (omega arith) (omega arith),
    f 5 (omega arith) (omega arith),
    f 6 (omega arith) (omega arith),
    f 7 (omega arith) (omega arith),
  )

  pub rows-symmetric : {q f : Bool} → fixes t 1 ≡ true → q ≡ fixes t 3 → f ≡ flip_listed t → rows_by true q f
      ≡ rows_of t
  unfolding rows_of
  rows-symmetric a b c = rw (a, b, c)

  pub rows-plain : {f : Bool} → fixes t 1 ≡ false → f ≡ flip_listed t → rows_by false false f ≡ rows_of t
  unfolding rows_of
  rows-plain a c = rw (a, c)
