-- Laws of ranges: their elements, their length, and a range that grows at its end.
use Rattle.std.specs.Prelude.{◌≡◌, refl, ◌⊎◌, not, List, [], ◌∷◌, ◌++◌, ℕ, zero, suc, ◌+◌, ◌≤◌, ◌<◌, T, eqb, length}
use Rattle.std.specs.Prelude.{get_or}
use Rattle.std.proofs.Common.{ap, ◌∙◌, inl, inr, arith, eqb→eq}
use mathlib.Core.List.Memᴰ
use Rattle.lists.specs.Lists.{◌∈◌, Distinct, range_from, range}
use Rattle.lists.specs.Booleans.{T-dec}
use Rattle.lists.specs.Arithmetic.{neqb→ne}

pub mem-range_from : (i n : ℕ) {x : ℕ} → i ≤ x → x < i + n → x ∈ range_from i n
mem-range_from i zero h k = absurd (omega arith)
mem-range_from i (suc n) {x} h k = go (T-dec (eqb x i)) (λ h'. mem-range_from (suc i) n h' (omega arith))
  where
    go : T (eqb x i) ⊎ T (not (eqb x i)) → (suc i ≤ x → x ∈ range_from (suc i) n) → x ∈ range_from i (suc n)
    go (inl t) ih = Memᴰ.head (eqb→eq x i t)
    go (inr t) ih = Memᴰ.tail (ih (omega (arith, neqb→ne x i t)))

pub mem-range : (n : ℕ) {x : ℕ} → x < n → x ∈ range n
mem-range n {x} h = mem-range_from 0 n (omega arith) (omega arith)

pub range_from-lt : (i n : ℕ) {x : ℕ} → x ∈ range_from i n → x < i + n
range_from-lt i zero m = absurd (Memᴰ.not-nil m)
range_from-lt i (suc n) (Memᴰ.head q) = omega arith
range_from-lt i (suc n) (Memᴰ.tail m) = let r = range_from-lt (suc i) n m in omega arith

pub range-lt : (n : ℕ) {x : ℕ} → x ∈ range n → x < n
range-lt n m = let r = range_from-lt 0 n m in omega arith

pub range_from-ge : (i n : ℕ) {x : ℕ} → x ∈ range_from i n → i ≤ x
range_from-ge i zero m = absurd (Memᴰ.not-nil m)
range_from-ge i (suc n) (Memᴰ.head q) = omega arith
range_from-ge i (suc n) (Memᴰ.tail m) = let r = range_from-ge (suc i) n m in omega arith

pub distinct-range : (i n : ℕ) → Distinct (range_from i n)
distinct-range i zero = tt
distinct-range i (suc n) = (λ m. let r = range_from-ge (suc i) n m in omega arith, distinct-range (suc i) n)

pub length-range : (i n : ℕ) → length (range_from i n) ≡ n
length-range i zero = refl
length-range i (suc n) = ap suc (length-range (suc i) n)

range_from-at : (i n k : ℕ) → k < n → get_or (range_from i n) k 0 ≡ i + k
range_from-at i zero k h = absurd (omega arith)
range_from-at i (suc n) zero h = omega arith
range_from-at i (suc n) (suc k) h = range_from-at (suc i) n k (omega arith) ∙ omega arith

pub range_at : (n k : ℕ) → k < n → get_or (range n) k 0 ≡ k
range_at n k h = range_from-at 0 n k h ∙ omega arith

pub range_from-more : (i n : ℕ) → range_from i (suc n) ≡ range_from i n ++ ((i + n) ∷ [])
range_from-more i zero = let e : i ≡ i + 0 = omega arith in ap (λ (k : ℕ). k ∷ []) e
range_from-more i (suc n) =
    let e : suc i + n ≡ i + suc n = omega arith in
    ap (λ (l : List ℕ). i ∷ l)
    (range_from-more (suc i) n ∙ ap (λ (k : ℕ). range_from (suc i) n ++ (k ∷ [])) e)

pub range-more : (n : ℕ) → range (suc n) ≡ range n ++ (n ∷ [])
range-more n =
    let e : 0 + n ≡ n = omega arith in
    range_from-more 0 n ∙ ap (λ (k : ℕ). range n ++ (k ∷ [])) e
