-- Laws of WroteAs: nothing written, one element, one list after another, what place is next, and a loop.
use Rattle.std.specs.Prelude.{◌≡◌, refl, List, [], ◌∷◌, ◌++◌, ℕ, ◌+◌, ◌*◌, length}
use Rattle.std.proofs.Common.{ap, ◌∙◌, length-append}
use native.Mathlib.Omega.{arith}
use Rattle.std.proofs.lemmas.List.Edits.{sets}
use Rattle.std.proofs.Math.Seq.{length-sets}
use Rattle.lists.specs.Lists.{flat_map}
use Rattle.lists.specs.UpTo.{up_to}
use Rattle.lists.specs.Wrote.{WroteAs}
use Rattle.lists.specs.Appends.{flat_append}
use Rattle.lists.specs.Flats.{length-flat, flat-one}
use Rattle.lists.specs.Stores.{sets-append}
use Rattle.lists.specs.UpToLaws.{up_none, up_more}

module _ {A B : Type 0} {code : A → List B} where
  pub wrote_none : (m : List B) (i : ℕ) → WroteAs code m i [] m i
  unfolding flat_map
  wrote_none m i = record { memory = refl; place = omega arith }

  pub wrote_one : (m : List B) (i : ℕ) (x : A) → WroteAs code m i (x ∷ []) (sets m i (code x)) (i + length (code x))
  wrote_one m i x = record { memory = rw (flat-one code x); place = rw (flat-one code x) }

  pub wrote-same : {m : List B} {i : ℕ} {xs ys : List A} {m' : List B} {j : ℕ} → xs ≡ ys → WroteAs code m i xs m' j
      → WroteAs code m i ys m' j
  wrote-same e a = rw e at a

  module _ {m : List B} {i : ℕ} {xs : List A} {m' : List B} {j : ℕ} (a : WroteAs code m i xs m' j) where
    pub wrote-more : {ys : List A} {m'' : List B} {k : ℕ} → WroteAs code m' j ys m'' k
        → WroteAs code m i (xs ++ ys) m'' k
    wrote-more {ys} b =
        record {
          memory =
              b.memory
              ∙ rw (
                a.memory,
                a.place,
                flat_append code xs ys,
                sets-append m i (flat_map code xs) (flat_map code ys),
              );
          place =
              omega (
                arith,
                a.place,
                b.place,
                ap length (flat_append code xs ys),
                length-append (flat_map code xs) (flat_map code ys),
              );
        }

    pub wrote-length : length m' ≡ length m
    wrote-length = ap length a.memory ∙ length-sets m i (flat_map code xs)

    -- elements of k places each
    pub wrote-place : (k : ℕ) → ((x : A) → length (code x) ≡ k) → j ≡ i + k * length xs
    wrote-place k long = a.place ∙ ap (λ n. i + n) (length-flat code k xs (λ x m. long x))

  -- a loop that writes the lists f 0, f 1, ..
  module _ (f : ℕ → List A) {m : List B} {i : ℕ} where
    pub loop-none : WroteAs code m i (up_to f 0) m i
    loop-none = rw (up_none f) (wrote_none m i)

    module _ (k : ℕ) {m' : List B} {j : ℕ} (a : WroteAs code m i (up_to f k) m' j) where
      pub loop-more : {m'' : List B} {l : ℕ} → WroteAs code m' j (f k) m'' l → WroteAs code m i (up_to f (k + 1)) m'' l
      loop-more b = rw (up_more f k) (wrote-more a b)
