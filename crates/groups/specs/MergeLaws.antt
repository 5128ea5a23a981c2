-- Laws of the labels once cells are joined to the cells left of them, one after the other.
use Rattle.std.specs.Prelude.{◌≡◌, List}
use Rattle.std.proofs.Math.Bool.{true}
use Prim.Native.Nat.{ℕ, zero, suc, ◌-◌, ◌<◌, ◌≤◌}
use Rattle.std.proofs.Common.{arith}
use Rattle.std.proofs.Math.Decide.{ℕ_discrete}
use Rattle.std.proofs.Math.ListN.{get_or}
use Rattle.laws.specs.LabelLaws.{Labelled, labelled-merge, merge_keeps, merge-meets, merge-sound}
use Rattle.groups.specs.Ties.{joined}

-- cells joined to the cells left of them, one after the other
module _ (n : ℕ) (some : 1 ≤ n) (L : List ℕ) (lab : Labelled n L) (cs : ℕ → ℕ) where
  pub joined-labels : (k : ℕ) → Labelled n (joined L cs k)
  unfolding joined
  joined-labels zero = lab
  joined-labels (suc k) = labelled-merge n some (joined L cs k) (joined-labels k) true (cs k - 1) (cs k)

  module _ (k : ℕ) (few : (i : ℕ) → i < k → cs i < n) where
    pub joined_keeps : (j : ℕ) → j ≤ k → (a b : ℕ) → a < n → b < n → get_or L a 0 ≡ get_or L b 0
        → get_or (joined L cs j) a 0 ≡ get_or (joined L cs j) b 0
    unfolding joined
    joined_keeps zero h a b ha hb e = e
    joined_keeps (suc j) h a b ha hb e =
        let i = few j (omega arith) in
        merge_keeps n (joined L cs j) (joined-labels j) (cs j - 1) (cs j) (omega arith) i a b ha hb
        (joined_keeps j (omega arith) a b ha hb e)

    pub joined_meets : (j : ℕ) → j ≤ k → (i : ℕ) → i < j
        → get_or (joined L cs j) (cs i - 1) 0 ≡ get_or (joined L cs j) (cs i) 0
    unfolding joined
    joined_meets zero h i l = absurd (omega arith)
    joined_meets (suc j) h i l =
        go (λ (m : i < j). joined_meets j (omega arith) i m) (ℕ_discrete i j)
      where
        go : (i < j → get_or (joined L cs j) (cs i - 1) 0 ≡ get_or (joined L cs j) (cs i) 0) → Dec (i ≡ j)
            → get_or (joined L cs (suc j)) (cs i - 1) 0 ≡ get_or (joined L cs (suc j)) (cs i) 0
        go r (yes e) =
            let m = few j (omega arith) in
            rw e (merge-meets n (joined L cs j) (joined-labels j) (cs j - 1) (cs j) (omega arith) m)
        go r (no e) =
            let m = few j (omega arith) in
            let q = few i (omega arith) in
            merge_keeps n (joined L cs j) (joined-labels j) (cs j - 1) (cs j) (omega arith) m (cs i - 1) (cs i)
            (omega arith) q (r (omega arith))

    pub joined-sound : (K : List ℕ) → ((i : ℕ) → i < k → get_or K (cs i - 1) 0 ≡ get_or K (cs i) 0)
        → ((x : ℕ) → x < n → get_or K (get_or L x 0) 0 ≡ get_or K x 0)
        → (j : ℕ) → j ≤ k → (x : ℕ) → x < n → get_or K (get_or (joined L cs j) x 0) 0 ≡ get_or K x 0
    unfolding joined
    joined-sound K f s zero h = s
    joined-sound K f s (suc j) h =
        let m = few j (omega arith) in
        merge-sound n (joined L cs j) (joined-labels j) (cs j - 1) (cs j) (omega arith) m K (f j (omega arith))
        (joined-sound K f s j (omega arith))
