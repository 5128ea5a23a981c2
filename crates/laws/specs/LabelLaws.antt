-- Laws of labels: what a merge does to them, those after each border, and that two cells have the same label exactly
-- when they are joined, the first cell of the group.
--
--   labels_after G link k  the labels once the first k borders are taken
--   Labelled n L        L has for each of n cells a label that is no later, and is its own label
--   rename-hit, rename-miss, rename-same, renamed, labelled-renamed  one label renamed
--   merge-earlier, merge-later, merge-same, labelled-merge  the merge of two cells, by how their labels stand
--   merge_keeps, merge-meets, merge-within  equal labels stay so, those of the two cells become so, and no others
--   merge-sound         the same of labels that a list gives
--   after_none, after_more, after-all  no border, one more, and all of them
--   labelled-range, labelled-after, labelled  labels are such from the first to the last border
--   after-meets, after-within, after-sound  the same border by border
--   labels-one          labels of the same groups are the same labels
--   label-le, label-idem  a label is no later than its cell, and is its own label
--   label-joined, joined-label  equal labels are joined cells, and the other way round
--   hop-label           the two cells of a hop over a border that links have one label
use Rattle.std.specs.Prelude.{◌≡◌, Bool, List, [], ◌∷◌, ◌++◌, map, ◌⊎◌, ℕ, zero, suc, ◌+◌, ◌<◌, ◌≤◌, T, length, get_or}
use Rattle.std.proofs.Math.Path.{refl}
use Rattle.std.proofs.Common.{sym, ap, ◌∙◌, subst, inl, inr, add-one, arith, ext_get_or}
use Rattle.std.proofs.Math.Bool.{true, false}
use Rattle.std.proofs.Math.Decide.{ℕ_discrete, dec_lt}
use borrow.Author.Tests.{eq-eqb, ne_eqb, leb-true, leb-false, le-leb, lt-leb}
use Rattle.std.proofs.Math.Dec.{leb}
use Rattle.std.proofs.lemmas.List.{length-map}
use Rattle.std.proofs.Math.ListN.{get_or-eq_default}
use Rattle.lists.specs.Lists.{◌∈◌, range}
use Rattle.lists.specs.Ranges.{range_at, range-more, length-range}
use Rattle.lists.specs.Maps.{get_d_map}
use Rattle.lists.specs.Booleans.{T_true}
use Rattle.rules.specs.Page.{Page, Hop}
use Rattle.rules.specs.Rules.{Joined, stay, step}
use Rattle.rules.specs.Groups.{entry, rename, merge, merge_if, merge_all, labels}
use Rattle.laws.specs.PageLaws.{Bordered, second-in}
use Rattle.laws.specs.RuleLaws.{join-trans, join-sym, border-join}

unfoldable pub labels_after : Page → (ℕ → Bool) → ℕ → List ℕ
labels_after G link k = merge_all G link (range G.cells) (range k)

pub record Labelled (n : ℕ) (L : List ℕ) : Type 0 where
  pub size : length L ≡ n
  pub least : (x : ℕ) → x < n → get_or L x 0 ≤ x
  pub twice : (x : ℕ) → x < n → get_or L (get_or L x 0) 0 ≡ get_or L x 0

pub rename-hit : (lo hi l : ℕ) → l ≡ hi → rename lo hi l ≡ lo
rename-hit lo hi l e = rw (eq-eqb l hi e)

pub rename-miss : (lo hi l : ℕ) → (l ≡ hi → ⊥) → rename lo hi l ≡ l
rename-miss lo hi l e = rw (ne_eqb l hi e)

module _ (n lo hi : ℕ) (L : List ℕ) (x : Labelled n L) (le : lo ≤ hi) (own : get_or L lo 0 ≡ lo) where
  -- the label of cell i after a merge
  pub renamed : (i : ℕ) → i < n → get_or (map (rename lo hi) L) i 0 ≡ rename lo hi (get_or L i 0)
  renamed i h = get_d_map (rename lo hi) L i 0 0 (omega (arith, x.size))

  stays : lo < n → get_or (map (rename lo hi) L) lo 0 ≡ lo
  stays h = renamed lo h ∙ ap (rename lo hi) own ∙ go (ℕ_discrete lo hi)
    where
      go : Dec (lo ≡ hi) → rename lo hi lo ≡ lo
      go (yes e) = rename-hit lo hi lo e
      go (no e) = rename-miss lo hi lo e

  pub labelled-renamed : Labelled n (map (rename lo hi) L)
  labelled-renamed =
      record {
        size = length-map L (rename lo hi) ∙ x.size;
        least = λ i h. least i h (ℕ_discrete (get_or L i 0) hi);
        twice = λ i h. twice i h (ℕ_discrete (get_or L i 0) hi);
      }
    where
      least : (i : ℕ) → i < n → Dec (get_or L i 0 ≡ hi) → get_or (map (rename lo hi) L) i 0 ≤ i
      least i h (yes e) = omega (arith, renamed i h, rename-hit lo hi (get_or L i 0) e, x.least i h)
      least i h (no e) = omega (arith, renamed i h, rename-miss lo hi (get_or L i 0) e, x.least i h)

      twice : (i : ℕ) → i < n → Dec (get_or L i 0 ≡ hi)
          → get_or (map (rename lo hi) L) (get_or (map (rename lo hi) L) i 0) 0 ≡ get_or (map (rename lo hi) L) i 0
      twice i h (yes e) =
          let q : get_or (map (rename lo hi) L) i 0 ≡ lo = renamed i h ∙ rename-hit lo hi (get_or L i 0) e in
          rw q (stays (omega (arith, x.least i h)))
      twice i h (no e) =
          let m : rename lo hi (get_or L i 0) ≡ get_or L i 0 = rename-miss lo hi (get_or L i 0) e in
          let q : get_or (map (rename lo hi) L) i 0 ≡ get_or L i 0 = renamed i h ∙ m in
          rw q (renamed (get_or L i 0) (omega (arith, x.least i h)) ∙ ap (rename lo hi) (x.twice i h) ∙ m)

-- a merge within one group changes nothing
pub rename-same : (a : ℕ) (L : List ℕ) → map (rename a a) L ≡ L
rename-same a [] = refl
rename-same a (l ∷ L) = rw (go (ℕ_discrete l a), rename-same a L)
  where
    go : Dec (l ≡ a) → rename a a l ≡ l
    go (yes e) = rename-hit a a l e ∙ sym e
    go (no e) = rename-miss a a l e

-- the merge of a border that joins, by how its cells' labels stand
module _ (L : List ℕ) (a b : ℕ) where
  pub merge-earlier : get_or L a 0 ≤ get_or L b 0
      → merge_if true (entry L a) (entry L b) L ≡ map (rename (get_or L a 0) (get_or L b 0)) L
  unfolding entry
  merge-earlier h = rw (le-leb (get_or L a 0) (get_or L b 0) h)

  pub merge-later : get_or L b 0 < get_or L a 0
      → merge_if true (entry L a) (entry L b) L ≡ map (rename (get_or L b 0) (get_or L a 0)) L
  unfolding entry
  merge-later h = rw (lt-leb (get_or L a 0) (get_or L b 0) h)

  pub merge-same : get_or L a 0 ≡ get_or L b 0 → merge_if true (entry L a) (entry L b) L ≡ L
  merge-same e = merge-earlier (omega arith) ∙ rw e (rename-same (get_or L b 0) L)

-- a border keeps labels labels
module _ (n : ℕ) (some : 1 ≤ n) (L : List ℕ) (x : Labelled n L) where
  own-label : (i : ℕ) → get_or L (get_or L i 0) 0 ≡ get_or L i 0
  own-label i = go (dec_lt i n)
    where
      go : Dec (i < n) → get_or L (get_or L i 0) 0 ≡ get_or L i 0
      go (yes h) = x.twice i h
      go (no h) =
          let k : length L ≤ i = omega (arith, x.size) in
          let z : get_or L i 0 ≡ 0 = get_or-eq_default L 0 k in
          rw z (omega (arith, x.least 0 some))

  pub labelled-merge : (t : Bool) (a b : ℕ) → Labelled n (merge_if t (entry L a) (entry L b) L)
  unfolding entry
  labelled-merge false a b = x
  labelled-merge true a b = go (leb (get_or L a 0) (get_or L b 0)) refl
    where
      go : (u : Bool) → leb (get_or L a 0) (get_or L b 0) ≡ u → Labelled n (merge u (get_or L a 0) (get_or L b 0) L)
      go true e =
          labelled-renamed n (get_or L a 0) (get_or L b 0) L x (leb-true (get_or L a 0) (get_or L b 0) e) (own-label a)
      go false e =
          let l = leb-false (get_or L a 0) (get_or L b 0) e in
          labelled-renamed n (get_or L b 0) (get_or L a 0) L x (omega arith) (own-label b)

-- at first each cell is its own label
pub labelled-range : (n : ℕ) → Labelled n (range n)
labelled-range n =
    record {
      size = length-range 0 n;
      least = λ i h. omega (arith, range_at n i h);
      twice = λ i h. ap (λ (j : ℕ). get_or (range n) j 0) (range_at n i h);
    }

module _ (G : Page) (link : ℕ → Bool) where
  merge-append : (L xs ys : List ℕ) → merge_all G link L (xs ++ ys) ≡ merge_all G link (merge_all G link L xs) ys
  merge-append L [] ys = refl
  merge-append L (b ∷ xs) ys =
      merge-append (merge_if (link b) (entry L (G.first b)) (entry L (G.second b)) L) xs ys

  pub after_none : labels_after G link 0 ≡ range G.cells
  unfolding labels_after
  after_none = refl

  -- one more border
  pub after_more : (k : ℕ) → labels_after G link (k + 1)
      ≡ merge_if (link k) (entry (labels_after G link k) (G.first k)) (entry (labels_after G link k) (G.second k))
      (labels_after G link k)
  unfolding labels_after
  after_more k =
      rw (add-one k, range-more k) (merge-append (range G.cells) (range k) (k ∷ []))

  pub after-all : labels G link ≡ labels_after G link G.borders
  unfolding labels labels_after
  after-all = refl

  module _ (some : 1 ≤ G.cells) where
    pub labelled-after : (k : ℕ) → Labelled G.cells (labels_after G link k)
    labelled-after zero = rw after_none (labelled-range G.cells)
    labelled-after (suc k) =
        let e : suc k ≡ k + 1 = omega arith in
        rw (e, after_more k)
        (labelled-merge G.cells some (labels_after G link k) (labelled-after k) (link k) (G.first k) (G.second k))

    pub labelled : Labelled G.cells (labels G link)
    labelled = rw after-all (labelled-after G.borders)

-- the labels N are M with hi renamed to lo, which are the labels of the cells u and v
record Renames (n : ℕ) (M N : List ℕ) (u v : ℕ) : Type 0 where
  lo : ℕ
  hi : ℕ
  is : (x : ℕ) → x < n → get_or N x 0 ≡ rename lo hi (get_or M x 0)
  ends : ((get_or M u 0 ≡ lo) × (get_or M v 0 ≡ hi)) ⊎ ((get_or M u 0 ≡ hi) × (get_or M v 0 ≡ lo))

rename-low : (lo hi : ℕ) → rename lo hi lo ≡ lo
rename-low lo hi = go (ℕ_discrete lo hi)
  where
    go : Dec (lo ≡ hi) → rename lo hi lo ≡ lo
    go (yes e) = rename-hit lo hi lo e
    go (no e) = rename-miss lo hi lo e

module _ (n : ℕ) (M : List ℕ) (lab : Labelled n M) (u v : ℕ) (hu : u < n) (hv : v < n) where
  renames : Renames n M (merge_if true (entry M u) (entry M v) M) u v
  renames = go (dec_lt (get_or M v 0) (get_or M u 0))
    where
      go : Dec (get_or M v 0 < get_or M u 0) → Renames n M (merge_if true (entry M u) (entry M v) M) u v
      go (yes h) =
          rw (merge-later M u v h)
          (record {
            lo = get_or M v 0;
            hi = get_or M u 0;
            is = renamed n (get_or M v 0) (get_or M u 0) M lab (omega arith) (lab.twice v hv);
            ends = inr (refl, refl);
          })
      go (no h) =
          rw (merge-earlier M u v (omega arith))
          (record {
            lo = get_or M u 0;
            hi = get_or M v 0;
            is = renamed n (get_or M u 0) (get_or M v 0) M lab (omega arith) (lab.twice u hu);
            ends = inl (refl, refl);
          })

  -- equal labels stay equal
  pub merge_keeps : (a b : ℕ) → a < n → b < n → get_or M a 0 ≡ get_or M b 0
      → get_or (merge_if true (entry M u) (entry M v) M) a 0 ≡ get_or (merge_if true (entry M u) (entry M v) M) b 0
  merge_keeps a b ha hb e =
      renames.is a ha ∙ ap (rename renames.lo renames.hi) e ∙ sym (renames.is b hb)

  -- the two cells' labels become equal
  pub merge-meets :
      get_or (merge_if true (entry M u) (entry M v) M) u 0 ≡ get_or (merge_if true (entry M u) (entry M v) M) v 0
  merge-meets = renames.is u hu ∙ go renames.lo renames.hi renames.ends ∙ sym (renames.is v hv)
    where
      go : (lo hi : ℕ) → ((get_or M u 0 ≡ lo) × (get_or M v 0 ≡ hi)) ⊎ ((get_or M u 0 ≡ hi) × (get_or M v 0 ≡ lo))
          → rename lo hi (get_or M u 0) ≡ rename lo hi (get_or M v 0)
      go lo hi (inl e) = rw (e.0, e.1) (rename-low lo hi ∙ sym (rename-hit lo hi hi refl))
      go lo hi (inr e) = rw (e.0, e.1) (rename-hit lo hi hi refl ∙ sym (rename-low lo hi))

  -- no others: what relates each cell to its label, and the two cells, relates each cell to its new label
  pub merge-within : (R : ℕ → ℕ → Type 0) → ((x y : ℕ) → x < n → R x y → R y x)
      → ((x y z : ℕ) → R x y → R y z → R x z) → R u v → ((x : ℕ) → x < n → R (get_or M x 0) x)
      → (x : ℕ) → x < n → R (get_or (merge_if true (entry M u) (entry M v) M) x 0) x
  merge-within R turn join e s x h =
      subst (λ (i : ℕ). R i x) (sym (renames.is x h))
      (go renames.lo renames.hi renames.ends (ℕ_discrete (get_or M x 0) renames.hi))
    where
      up : (y : ℕ) → y < n → R y (get_or M y 0)
      up y k = turn (get_or M y 0) y (omega (arith, lab.least y k)) (s y k)

      both : (lo hi : ℕ)
          → ((get_or M u 0 ≡ lo) × (get_or M v 0 ≡ hi)) ⊎ ((get_or M u 0 ≡ hi) × (get_or M v 0 ≡ lo)) → R lo hi
      both lo hi (inl q) = rw (← q.0, ← q.1) (join _ u _ (s u hu) (join u v _ e (up v hv)))
      both lo hi (inr q) = rw (← q.0, ← q.1) (join _ v _ (s v hv) (join v u _ (turn u v hu e) (up u hu)))

      go : (lo hi : ℕ) → ((get_or M u 0 ≡ lo) × (get_or M v 0 ≡ hi)) ⊎ ((get_or M u 0 ≡ hi) × (get_or M v 0 ≡ lo))
          → Dec (get_or M x 0 ≡ hi) → R (rename lo hi (get_or M x 0)) x
      go lo hi q (yes d) =
          subst (λ (i : ℕ). R i x) (sym (rename-hit lo hi (get_or M x 0) d))
          (join lo hi x (both lo hi q) (subst (λ (i : ℕ). R i x) d (s x h)))
      go lo hi q (no d) = subst (λ (i : ℕ). R i x) (sym (rename-miss lo hi (get_or M x 0) d)) (s x h)

  -- labels that are the same for each cell and its label stay so
  pub merge-sound : (K : List ℕ) → get_or K u 0 ≡ get_or K v 0
      → ((x : ℕ) → x < n → get_or K (get_or M x 0) 0 ≡ get_or K x 0)
      → (x : ℕ) → x < n → get_or K (get_or (merge_if true (entry M u) (entry M v) M) x 0) 0 ≡ get_or K x 0
  merge-sound K =
      merge-within (λ x y. get_or K x 0 ≡ get_or K y 0) (λ x y h e. sym e) (λ x y z d e. d ∙ e)

-- labels of the same groups are the same labels
pub labels-one : (n : ℕ) (M L : List ℕ) → Labelled n M → Labelled n L
    → ((x : ℕ) → x < n → get_or L (get_or M x 0) 0 ≡ get_or L x 0)
    → ((x : ℕ) → x < n → get_or M (get_or L x 0) 0 ≡ get_or M x 0)
    → M ≡ L
labels-one n M L m l f g =
    ext_get_or 0 M L (m.size ∙ sym l.size)
    (λ x h.
    let k : x < n = omega (arith, m.size) in
    omega (
      arith,
      f x k,
      g x k,
      m.least x k,
      l.least x k,
      m.least (get_or L x 0) (omega (arith, l.least x k)),
      l.least (get_or M x 0) (omega (arith, m.least x k)),
    ))

-- the labels, border by border
module _ (G : Page) (link : ℕ → Bool) (some : 1 ≤ G.cells)
    (inside : (b : ℕ) → b < G.borders → (G.first b < G.cells) × (G.second b < G.cells)) where
  -- a border that joins has one label on both sides from then on
  pub after-meets : (k : ℕ) → k ≤ G.borders → (b : ℕ) → b < k → link b ≡ true
      → get_or (labels_after G link k) (G.first b) 0 ≡ get_or (labels_after G link k) (G.second b) 0
  after-meets zero h b l e = absurd (omega arith)
  after-meets (suc k) h b l e =
      let q : suc k ≡ k + 1 = omega arith in
      rw (q, after_more G link k)
      (go (link k) refl (λ (m : b < k). after-meets k (omega arith) b m e) (ℕ_discrete b k))
    where
      L : List ℕ
      L = labels_after G link k

      different : true ≡ false → ⊥
      different z = let w : ◌≡◌ {A = ℕ} 0 1 = cc in omega arith

      go : (t : Bool) → link k ≡ t → (b < k → get_or L (G.first b) 0 ≡ get_or L (G.second b) 0) → Dec (b ≡ k)
          → get_or (merge_if t (entry L (G.first k)) (entry L (G.second k)) L) (G.first b) 0
          ≡ get_or (merge_if t (entry L (G.first k)) (entry L (G.second k)) L) (G.second b) 0
      go true f r (yes d) =
          rw d (merge-meets G.cells L (labelled-after G link some k) (G.first k) (G.second k)
          (inside k h).0 (inside k h).1)
      go true f r (no d) =
          let i = inside b (omega arith) in
          merge_keeps G.cells L (labelled-after G link some k) (G.first k) (G.second k) (inside k h).0
          (inside k h).1 (G.first b) (G.second b) i.0 i.1 (r (omega arith))
      go false f r (yes d) = let z : true ≡ false = sym (rw d at e) ∙ f in absurd (different z)
      go false f r (no d) = r (omega arith)

  -- what relates the cells of each border that joins relates each cell to its label
  pub after-within : (R : ℕ → ℕ → Type 0) → ((x : ℕ) → R x x) → ((x y : ℕ) → x < G.cells → R x y → R y x)
      → ((x y z : ℕ) → R x y → R y z → R x z) → (k : ℕ) → k ≤ G.borders
      → ((b : ℕ) → b < k → link b ≡ true → R (G.first b) (G.second b))
      → (x : ℕ) → x < G.cells → R (get_or (labels_after G link k) x 0) x
  after-within R self turn join zero h f x l =
      subst (λ (i : ℕ). R i x) (sym (rw (after_none G link) (range_at G.cells x l))) (self x)
  after-within R self turn join (suc k) h f x l =
      let q : suc k ≡ k + 1 = omega arith in
      rw (q, after_more G link k)
      (go (link k) refl (after-within R self turn join k (omega arith) (λ b j. f b (omega arith))))
    where
      L : List ℕ
      L = labels_after G link k

      go : (t : Bool) → link k ≡ t → ((y : ℕ) → y < G.cells → R (get_or L y 0) y)
          → R (get_or (merge_if t (entry L (G.first k)) (entry L (G.second k)) L) x 0) x
      go true e before =
          merge-within G.cells L (labelled-after G link some k) (G.first k) (G.second k)
          (inside k h).0 (inside k h).1 R turn join (f k (omega arith) e) before x l
      go false e before = before x l

  -- labels that part no joined cells part no cell from its label
  pub after-sound : (M : List ℕ) → (k : ℕ) → k ≤ G.borders
      → ((b : ℕ) → b < k → link b ≡ true → get_or M (G.first b) 0 ≡ get_or M (G.second b) 0)
      → (x : ℕ) → x < G.cells → get_or M (get_or (labels_after G link k) x 0) 0 ≡ get_or M x 0
  after-sound M =
      after-within (λ x y. get_or M x 0 ≡ get_or M y 0) (λ x. refl) (λ x y h e. sym e) (λ x y z d e. d ∙ e)

-- on a page with borders as they should be, labels are equal exactly where cells are joined
module _ (G : Page) (K : Bordered G) (link : ℕ → Bool) where
  ends : (b : ℕ) → b < G.borders → (G.first b < G.cells) × (G.second b < G.cells)
  ends b h = (K.first-in b h, second-in G K b h)

  -- the label of a cell is the first cell of its group
  pub label-le : (x : ℕ) → x < G.cells → entry (labels G link) x ≤ x
  unfolding entry
  label-le x h = (labelled G link (omega arith)).least x h

  pub label-idem : (x : ℕ) → x < G.cells → entry (labels G link) (entry (labels G link) x) ≡ entry (labels G link) x
  unfolding entry
  label-idem x h = (labelled G link (omega arith)).twice x h

  -- a cell is joined to its label
  own-joined : (x : ℕ) → x < G.cells → Joined G link x (get_or (labels G link) x 0)
  own-joined x h =
      rw (after-all G link)
      (after-within G link (omega arith) ends (λ x y. Joined G link y x) (λ x. stay refl)
      (λ x y k j. join-sym G K link k j) (λ x y z i j. join-trans G link i j) G.borders (omega arith)
      (λ b k e. border-join G K link b k (rw e tt)) x h)

  pub label-joined : (x y : ℕ) → x < G.cells → y < G.cells → entry (labels G link) x ≡ entry (labels G link) y
      → Joined G link y x
  unfolding entry
  label-joined x y h k e =
      let l = (labelled G link (omega arith)).least x h in
      join-trans G link (join-sym G K link (omega arith) (own-joined x h)) (rw (← e) at (own-joined y k))

  border-label : (b : ℕ) → b < G.borders → T (link b)
      → entry (labels G link) (G.first b) ≡ entry (labels G link) (G.second b)
  unfolding entry
  border-label b h t =
      rw (after-all G link)
      (after-meets G link (omega (arith, K.first-in b h)) ends G.borders (omega arith) b h (T_true (link b) t))

  pub hop-label : (x : ℕ) (h : Hop) → x < G.cells → h ∈ G.around x → T (link h.border)
      → entry (labels G link) x ≡ entry (labels G link) h.to
  hop-label x h hx m t = go (K.hop-ends x h hx m) (border-label h.border (K.hop-border x h hx m) t)
    where
      go : ((G.first h.border ≡ x) × (G.second h.border ≡ h.to)) ⊎
          ((G.first h.border ≡ h.to) × (G.second h.border ≡ x)) →
          entry (labels G link) (G.first h.border) ≡ entry (labels G link) (G.second h.border)
          → entry (labels G link) x ≡ entry (labels G link) h.to
      go (inl e) q = cc (e.0, e.1, q)
      go (inr e) q = cc (e.0, e.1, q)

  pub joined-label : {c x : ℕ} → x < G.cells → Joined G link c x → entry (labels G link) x ≡ entry (labels G link) c
  joined-label h (stay e) = ap (entry (labels G link)) e
  joined-label {x} h (step k m t r) = hop-label x k h m t ∙ joined-label (K.hop-in x k h m) r
