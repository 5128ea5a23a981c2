-- Laws of the array of parents: it follows the labels merge by merge.
use Rattle.std.specs.Prelude.{◌≡◌, true, List, map, ℕ, ◌<◌, ◌≤◌, max, min, get_or, set, replicate}
use Rattle.std.proofs.Common.{sym, ap, ◌∙◌, arith, length-set, get_or-set_same, get_or-set_other}
use Rattle.std.proofs.Math.Decide.{ℕ_discrete, dec_lt}
use Rattle.std.proofs.lemmas.List.{length-replicate, set-get_or}
use Rattle.lists.specs.PaddedLaws.{zeros}
use Rattle.rules.specs.Groups.{entry, rename, merge_if}
use Rattle.laws.specs.LabelLaws.{rename-hit, rename-miss, renamed, labelled-renamed, merge-earlier, merge-later}
use Rattle.laws.specs.LabelLaws.{merge-same}
use Rattle.groups.specs.Forests.{Forest, Rep}

pub forest-zeros : Forest (replicate 1024 0)
forest-zeros =
    record { long = length-replicate {A = ℕ} 1024 0; down = λ x. omega (arith, zeros 1024 x) }

-- a parent that is no later keeps the forest
pub forest-set : (p : List ℕ) (u v : ℕ) → Forest p → u < 1024 → v ≤ u → Forest (set p u v)
forest-set p u v f h l =
    record { long = length-set p u v ∙ f.long; down = λ x. at x (ℕ_discrete x u) }
  where
    at : (x : ℕ) → Dec (x ≡ u) → get_or (set p u v) x 0 ≤ x
    at x (yes e) = rw (e, get_or-set_same p u v 0 (omega (arith, f.long))) l
    at x (no e) = rw (get_or-set_other p u x v 0 e) (f.down x)

-- the later of two roots is put below the earlier
module _ (n : ℕ) (p L : List ℕ) (f : Forest p) (r : Rep n p L) (few : n ≤ 1024) (lo hi : ℕ) (l : lo < hi) (h : hi < n)
    (rl : get_or p lo 0 ≡ lo) (rh : get_or p hi 0 ≡ hi) where
  own : get_or L lo 0 ≡ lo
  own = r.root lo (omega arith) rl

  at : (x : ℕ) → x < n → get_or (map (rename lo hi) L) x 0 ≡ rename lo hi (get_or L x 0)
  at = renamed n lo hi L r.labelled (omega arith) own

  at-hi : get_or (map (rename lo hi) L) hi 0 ≡ lo
  at-hi = at hi h ∙ rename-hit lo hi (get_or L hi 0) (r.root hi h rh)

  at-lo : get_or (map (rename lo hi) L) lo 0 ≡ lo
  at-lo = at lo (omega arith) ∙ rename-miss lo hi (get_or L lo 0) (λ e. omega (arith, own)) ∙ own

  pub rep-join : Rep n (set p hi lo) (map (rename lo hi) L)
  rep-join =
      record {
        labelled = labelled-renamed n lo hi L r.labelled (omega arith) own;
        same = λ x k. same x k (ℕ_discrete x hi);
        root = λ x k e. root x k e (ℕ_discrete x hi);
      }
    where
      hit : get_or (set p hi lo) hi 0 ≡ lo
      hit = get_or-set_same p hi lo 0 (omega (arith, f.long))

      same : (x : ℕ) → x < n → Dec (x ≡ hi)
          → get_or (map (rename lo hi) L) (get_or (set p hi lo) x 0) 0 ≡ get_or (map (rename lo hi) L) x 0
      same x k (yes e) = rw (e, hit) (at-lo ∙ sym at-hi)
      same x k (no e) =
          rw (get_or-set_other p hi x lo 0 e)
          (at (get_or p x 0) (omega (arith, f.down x)) ∙ ap (rename lo hi) (r.same x k) ∙ sym (at x k))

      root : (x : ℕ) → x < n → get_or (set p hi lo) x 0 ≡ x → Dec (x ≡ hi) → get_or (map (rename lo hi) L) x 0 ≡ x
      root x k e (yes q) = absurd (omega (arith, hit, ap (λ (i : ℕ). get_or (set p hi lo) i 0) q))
      root x k e (no q) =
          let o : get_or L x 0 ≡ x = r.root x k (sym (get_or-set_other p hi x lo 0 q) ∙ e) in
          at x k ∙ rename-miss lo hi (get_or L x 0) (λ z. q (sym o ∙ z)) ∙ o

-- what a border that joins cells a and b asks of the forest, whose roots there are u and v
module _ (n : ℕ) (p L : List ℕ) (f : Forest p) (r : Rep n p L) (few : n ≤ 1024) (a b u v : ℕ) (ha : a < n) (hb : b < n)
    (eu : u ≡ get_or L a 0) (ev : v ≡ get_or L b 0) (ru : get_or p u 0 ≡ u) (rv : get_or p v 0 ≡ v) where
  pub rep-earlier : u < v → Rep n (set p v u) (merge_if true (entry L a) (entry L b) L)
  rep-earlier l =
      rw (merge-earlier L a b (omega arith), ← eu, ← ev)
      (rep-join n p L f r few u v l (omega (arith, r.labelled.least b hb)) ru rv)

  pub rep-later : v < u → Rep n (set p u v) (merge_if true (entry L a) (entry L b) L)
  rep-later l =
      rw (merge-later L a b (omega arith), ← eu, ← ev)
      (rep-join n p L f r few v u l (omega (arith, r.labelled.least a ha)) rv ru)

  pub rep-one : u ≡ v → Rep n p (merge_if true (entry L a) (entry L b) L)
  rep-one e = rw (merge-same L a b (sym eu ∙ e ∙ ev)) r

  pub rep-roots : (hi lo : ℕ) → hi ≡ max u v → lo ≡ min u v
      → Rep n (set p hi lo) (merge_if true (entry L a) (entry L b) L)
  rep-roots hi lo eh el =
      elim (dec_lt u v) [
        | yes h ↦ let i : hi ≡ v = omega arith in let j : lo ≡ u = omega arith in rw (i, j) (rep-earlier h)
        | no h ↦ elim (dec_lt v u) [
          | yes k ↦ let i : hi ≡ u = omega arith in let j : lo ≡ v = omega arith in rw (i, j) (rep-later k)
          | no k ↦ let i : hi ≡ u = omega arith in let j : lo ≡ u = omega arith in
              let q : set p u u ≡ p = rw ru at (set-get_or p u 0) in
              rw (i, j, q) (rep-one (omega arith))
        ]
      ]

-- cells whose parents have one parent are of one group
pub rep-cousins : (n : ℕ) (p L : List ℕ) → Forest p → Rep n p L → (a b : ℕ) → a < n → b < n
    → get_or p (get_or p a 0) 0 ≡ get_or p (get_or p b 0) 0 → Rep n p (merge_if true (entry L a) (entry L b) L)
rep-cousins n p L f r a b ha hb e =
    let up : (x : ℕ) → x < n → get_or L x 0 ≡ get_or L (get_or p (get_or p x 0) 0) 0 =
    λ x h. sym (r.same (get_or p x 0) (omega (arith, f.down x)) ∙ r.same x h) in
    rw (merge-same L a b (up a ha ∙ ap (λ (i : ℕ). get_or L i 0) e ∙ sym (up b hb))) r
