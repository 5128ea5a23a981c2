-- Laws of parts of a list: where one starts, ends and is split, its length, and a loop over one that tests or gathers.
use Rattle.std.specs.Prelude.{◌≡◌, Bool, true, false, List, [], ◌∷◌, ◌++◌, ℕ, suc, ◌+◌, ◌-◌, ◌≤◌, ◌<◌, length, get_or}
use Rattle.std.specs.Prelude.{set, drop}
use Rattle.std.proofs.Math.Path.{sym}
use Rattle.std.proofs.Common.{ap, ◌∙◌, add-one, arith, length-take, length-drop, drop_of_length-le, drop-cons, take-add}
use Rattle.std.proofs.Common.{drop-drop, take_all, length-take-le, drop-set-lt}
use Rattle.std.proofs.Math.Seq.{take-nil}
use Rattle.lists.specs.Lists.{any, all}
use Rattle.lists.specs.Parts.{part}

module _ {A : Type 0} where
  -- ---- nothing: a part that ends before it starts, and one that starts past the end
  pub part_none : (l : List A) (i to : ℕ) → to ≤ i → part l i to ≡ []
  part_none l i to q = let e : to - i ≡ 0 = omega arith in rw e

  pub part-past : (l : List A) (i to : ℕ) → length l ≤ i → part l i to ≡ []
  part-past l i to q = rw (drop_of_length-le l q) (take-nil (to - i))

  -- one that ends past the end
  pub part-rest : (l : List A) (i to : ℕ) → length l ≤ to → part l i (length l) ≡ part l i to
  part-rest l i to q =
      take_all (length l - i) (drop i l) (omega (arith, length-drop i l))
      ∙ sym (take_all (to - i) (drop i l) (omega (arith, length-drop i l)))

  -- ---- one after the other
  pub part-split : (l : List A) (from i to : ℕ) → from ≤ i → i ≤ to → part l from to ≡ part l from i ++ part l i to
  part-split l from i to p q =
      let e : to - from ≡ (i - from) + (to - i) = omega arith in
      let d : from + (i - from) ≡ i = omega arith in
      rw (e, take-add (i - from) (to - i) (drop from l), drop-drop (i - from) from l, d)

  -- ---- lengths
  pub part_length : (l : List A) (from i : ℕ) → length (part l from i) ≤ i - from
  part_length l from i = simp length-take (omega arith)

  pub part_count : (l : List A) (from i : ℕ) → from ≤ i → i ≤ length l → length (part l from i) ≡ i - from
  part_count l from i h k = length-take-le _ _ (simp length-drop (omega arith))

  -- a store before a part
  pub part-set-before : (l : List A) (i : ℕ) (v : A) (from to : ℕ) → i < from
      → part (set l i v) from to ≡ part l from to
  part-set-before l i v from to h = rw (drop-set-lt from l i v h)

-- ---- the numbers of a part, one by one
pub part-next : (l : List ℕ) (i to : ℕ) → i < to → to ≤ length l → part l i to ≡ get_or l i 0 ∷ part l (i + 1) to
part-next l i to q r =
    let e : to - i ≡ suc (to - (i + 1)) = omega arith in
    rw (e, drop-cons l i 0 (omega arith), add-one i)

pub part-one : (l : List ℕ) (i : ℕ) → i < length l → part l i (i + 1) ≡ get_or l i 0 ∷ []
part-one l i q = part-next l i (i + 1) (omega arith) (omega arith) ∙ rw (part_none l (i + 1) (i + 1) (omega arith))

pub part-more : (l : List ℕ) (from i : ℕ) → from ≤ i → i < length l
    → part l from (i + 1) ≡ part l from i ++ (get_or l i 0 ∷ [])
part-more l from i p q =
    part-split l from i (i + 1) p (omega arith) ∙ ap (λ (x : List ℕ). part l from i ++ x) (part-one l i q)

-- the number at i, with those before and after it
pub part_at : (l : List ℕ) (from i to : ℕ) → from ≤ i → i < to → to ≤ length l
    → part l from to ≡ part l from i ++ (get_or l i 0 ∷ part l (i + 1) to)
part_at l from i to p q r =
    part-split l from i to p (omega arith) ∙ ap (λ (x : List ℕ). part l from i ++ x) (part-next l i to q r)

-- ---- a loop over a part
-- a test of each number, which ends at the first that passes; `whole` is the answer
module _ (f : ℕ → Bool) (l : List ℕ) (i to : ℕ) {whole : Bool} (inv : whole ≡ any f (part l i to)) where
  pub any-done : to ≤ i → false ≡ whole
  unfolding any
  any-done q = sym (inv ∙ rw (part_none l i to q))

  module _ (q : i < to) (r : to ≤ length l) where
    pub any_found : f (get_or l i 0) ≡ true → true ≡ whole
    unfolding any
    any_found e = sym (inv ∙ rw (part-next l i to q r, e))

    pub any_next : f (get_or l i 0) ≡ false → whole ≡ any f (part l (i + 1) to)
    unfolding any
    any_next e = inv ∙ rw (part-next l i to q r, e)

-- one that ends at the first that fails
module _ (f : ℕ → Bool) (l : List ℕ) (i to : ℕ) {whole : Bool} (inv : whole ≡ all f (part l i to)) where
  pub all_done : to ≤ i → true ≡ whole
  unfolding all
  all_done q = sym (inv ∙ rw (part_none l i to q))

  module _ (q : i < to) (r : to ≤ length l) where
    pub all-ends : f (get_or l i 0) ≡ false → false ≡ whole
    unfolding all
    all-ends e = sym (inv ∙ rw (part-next l i to q r, e))

    pub all-next : f (get_or l i 0) ≡ true → whole ≡ all f (part l (i + 1) to)
    unfolding all
    all-next e = inv ∙ rw (part-next l i to q r, e)
