-- Path(a, b): the search finds every cell that is joined to a, and a setting that contains the path joins its ends.
--
--   PathReached a f x   x is the start, or is among the found cells f
--   reached-new, reached-old  a cell that is found is reached, and stays so
--   Chain, FoundLinked  each found cell was found once, from a cell reached before it, over an open border
--   Shut f y            every neighbour of y over an open border is reached
--   Searched f          the found cells f are a chain, and every reached cell is shut
--   found_all           what the search finds is so
--   path-joins          a setting that contains Path(a, b) has a and b in one block
use Rattle.std.specs.Prelude.{◌≡◌, ◌⊎◌, Bool, ◌&&◌, cond, ◌||◌, length}
use Rattle.std.proofs.Common.{◌∙◌, ap, subst, length-append}
use Rattle.std.proofs.Math.Path.{refl, sym}
use Rattle.std.proofs.Math.Logic.{inl, inr}
use Rattle.std.proofs.Math.Bool.{true, false, not, or-true, or-false}
use mathlib.Core.List.Memᴰ
use mathlib.Core.List.{List, [], ◌∷◌, ◌++◌}
use Prim.Native.Nat.{ℕ, zero, suc, ◌+◌, ◌≤◌, ◌<◌}
use native.Mathlib.Omega.{arith}
use Rattle.std.proofs.Math.Dec.{eqb, T, eqb→eq, eqb_refl}
use borrow.Author.Tests.{ne_eqb, lt-ltb}
use Rattle.lists.specs.Lists.{◌∈◌, any}
use Rattle.lists.specs.Count.{count_below}
use Rattle.lists.specs.Booleans.{T-and-l, T-and-r, T_and, T-or, T-or-l, T-or-r, T-dec, T_true}
use Rattle.lists.specs.CountLaws.{count-cong, count-lt, count-more}
use Rattle.rules.specs.Page.{Hop, Puzzle, State, Contains, is_open, open_at}
use Rattle.rules.specs.Rules.{Joined, stay, joins_block, SameBlock, step}
use Rattle.rules.specs.Reasons.{Found, Search, is_found, visit_if, trace, look, hunt, path}
use Rattle.laws.specs.PageLaws.{Bordered}
use Rattle.laws.specs.RuleLaws.{join-in}

module _ (Z : Puzzle) (K : Bordered Z.page) (s : ℕ → State) (a : ℕ) (ha : a < Z.page.cells) where
  abbrev pub PathReached : List Found → ℕ → Type 0
  PathReached f x = T (is_found a f x)

  reached-start : (f : List Found) → PathReached f a
  unfolding is_found
  reached-start f = T-or-l (eqb a a) _ (eqb_refl a)

  pub reached-new : (f : List Found) (e : Found) → PathReached (e ∷ f) e.cell
  unfolding is_found any
  reached-new f e = T-or-r (eqb e.cell a) _ (T-or-l (eqb e.cell e.cell) _ (eqb_refl e.cell))

  pub reached-old : (f : List Found) (e : Found) (x : ℕ) → PathReached f x → PathReached (e ∷ f) x
  unfolding is_found any
  reached-old f e x t = go (T-or (eqb x a) _ t)
    where
      go : T (eqb x a) ⊎ T (any (λ (d : Found). eqb x d.cell) f)
          → T (eqb x a || (eqb x e.cell || any (λ (d : Found). eqb x d.cell) f))
      go (inl u) = T-or-l (eqb x a) _ u
      go (inr u) = T-or-r (eqb x a) _ (T-or-r (eqb x e.cell) _ u)

  reached-cases : (f : List Found) (e : Found) (x : ℕ) → PathReached (e ∷ f) x → (x ≡ e.cell) ⊎ PathReached f x
  unfolding is_found any
  reached-cases f e x t = go (T-or (eqb x a) _ t)
    where
      next : T (eqb x e.cell) ⊎ T (any (λ (d : Found). eqb x d.cell) f)
          → (x ≡ e.cell) ⊎ T (eqb x a || any (λ (d : Found). eqb x d.cell) f)
      next (inl u) = inl (eqb→eq x e.cell u)
      next (inr u) = inr (T-or-r (eqb x a) _ u)

      go : T (eqb x a) ⊎ T (eqb x e.cell || any (λ (d : Found). eqb x d.cell) f)
          → (x ≡ e.cell) ⊎ T (eqb x a || any (λ (d : Found). eqb x d.cell) f)
      go (inl u) = inr (T-or-l (eqb x a) _ u)
      go (inr u) = next (T-or (eqb x e.cell) _ u)

  reached-nil : (x : ℕ) → PathReached [] x → x ≡ a
  unfolding is_found any
  reached-nil x t = go (T-or (eqb x a) false t)
    where
      go : T (eqb x a) ⊎ ⊥ → x ≡ a
      go (inl u) = eqb→eq x a u
      go (inr u) = absurd u

  pub record FoundLinked (e : Found) (f : List Found) : Type 0 where
    pub from_in : e.from < Z.page.cells
    pub hop : record { border = e.over; to = e.cell } ∈ Z.page.around e.from
    pub opens : T (is_open (s e.over))
    pub known : PathReached f e.from
    pub new : T (not (is_found a f e.cell))

  abbrev pub Chain : List Found → Type 0
  Chain [] = Unit {0}
  Chain (e ∷ f) = FoundLinked e f × Chain f

  abbrev pub Shut : List Found → ℕ → Type 0
  Shut f y = (h : Hop) → h ∈ Z.page.around y → T (is_open (s h.border)) → PathReached f h.to

  -- how many cells are still to be found
  unfound : List Found → ℕ
  unfound f = count_below Z.page.cells (λ x. not (is_found a f x))

  -- while the cell x is looked at
  record Inv (x n : ℕ) (t : Search) : Type 0 where
    chain : Chain t.found
    inq : (y : ℕ) → y ∈ t.queue → (y < Z.page.cells) × PathReached t.found y
    shut : (y : ℕ) → PathReached t.found y → (y ≡ x) ⊎ (y ∈ t.queue ⊎ Shut t.found y)
    count : length t.queue + unfound t.found ≤ n

  record FoundLooked (x n : ℕ) (hs : List Hop) (t u : Search) : Type 0 where
    inv : Inv x n u
    all : (h : Hop) → h ∈ hs → T (is_open (s h.border)) → PathReached u.found h.to
    more : (y : ℕ) → PathReached t.found y → PathReached u.found y

  -- one cell more is found
  one_found : (f : List Found) (e : Found) (x : ℕ) → T (not (is_found a f e.cell))
      → not (is_found a f x) ≡ not (is_found a (e ∷ f) x) || eqb e.cell x
  unfolding is_found any
  one_found f e x t = go (eqb e.cell x) refl
    where
      go : (b : Bool) → eqb e.cell x ≡ b → not (is_found a f x) ≡ not (is_found a (e ∷ f) x) || b
      go true q =
          let p : e.cell ≡ x = eqb→eq e.cell x (rw q tt) in
          T_true (not (is_found a f x)) (rw p at t) ∙ sym (or-true (not (is_found a (e ∷ f) x)))
      go false q =
          let r : eqb x e.cell ≡ false =
          ne_eqb x e.cell (λ p. let u : T (eqb e.cell x) = rw p (eqb_refl e.cell) in rw q at u) in
          rw r (sym (or-false (not (is_found a f x))))

  unfound-lt : (f : List Found) (e : Found) → e.cell < Z.page.cells → T (not (is_found a f e.cell))
      → unfound (e ∷ f) < unfound f
  unfolding unfound
  unfound-lt f e h t =
      let c = count-cong Z.page.cells (λ x. not (is_found a f x))
      (λ x. not (is_found a (e ∷ f) x) || eqb e.cell x) (λ x k. one_found f e x t) in
      let m = count-more Z.page.cells (λ x. not (is_found a (e ∷ f) x)) e.cell h
      (ap not (T_true (is_found a (e ∷ f) e.cell) (reached-new f e))) in
      omega arith

  visit : (x n : ℕ) (h : Hop) (t : Search) → x < Z.page.cells → PathReached t.found x → h ∈ Z.page.around x
      → Inv x n t → (b : Bool) → is_open (s h.border) && not (is_found a t.found h.to) ≡ b →
      Inv x n (visit_if b x h t)
  visit x n h t hx fx m i false e = i
  visit x n h t hx fx m i true e = record {
    chain = (
      record {
        from_in = hx;
        hop = m;
        opens =
            T-and-l (is_open (s h.border)) (not (is_found a t.found h.to)) (rw e tt);
        known = fx;
        new = T-and-r (is_open (s h.border)) (not (is_found a t.found h.to)) (rw e tt);
      },
      i.chain,
    );
    inq = λ y k. into y (Memᴰ.append_cases t.queue k);
    shut = λ y k. cases y (reached-cases t.found d y k);
    count = let u = unfound-lt t.found d (K.hop-in x h hx m)
        (T-and-r (is_open (s h.border)) (not (is_found a t.found h.to)) (rw e tt)) in let v = i.count in
        let w = length-append t.queue (h.to ∷ []) in omega arith;
  }
    where
      d : Found
      d = record { cell = h.to; over = h.border; from = x }

      into : (y : ℕ) → y ∈ t.queue ⊎ y ∈ (h.to ∷ []) → (y < Z.page.cells) × PathReached (d ∷ t.found) y
      into y (inl k) = let r = i.inq y k in (r.0, reached-old t.found d y r.1)
      into y (inr k) = let q = Memᴰ.eq_of_singleton k in rw q (K.hop-in x h hx m, reached-new t.found d)

      old : (y : ℕ) → (y ≡ x) ⊎ (y ∈ t.queue ⊎ Shut t.found y)
          → (y ≡ x) ⊎ (y ∈ (t.queue ++ (h.to ∷ [])) ⊎ Shut (d ∷ t.found) y)
      old y (inl q) = inl q
      old y (inr (inl k)) = inr (inl (Memᴰ.append_left (h.to ∷ []) k))
      old y (inr (inr f)) = inr (inr (λ j k u. reached-old t.found d j.to (f j k u)))

      cases : (y : ℕ) → (y ≡ h.to) ⊎ PathReached t.found y
          → (y ≡ x) ⊎ (y ∈ (t.queue ++ (h.to ∷ [])) ⊎ Shut (d ∷ t.found) y)
      cases y (inl q) = inr (inl (Memᴰ.append_right t.queue (Memᴰ.head q)))
      cases y (inr k) = old y (i.shut y k)

  visit-more : (x : ℕ) (h : Hop) (t : Search) (b : Bool) (y : ℕ) → PathReached t.found y
      → PathReached (visit_if b x h t).found y
  visit-more x h t true y k = reached-old t.found (record { cell = h.to; over = h.border; from = x }) y k
  visit-more x h t false y k = k

  visit-all : (x : ℕ) (h : Hop) (t : Search) (b : Bool)
      → is_open (s h.border) && not (is_found a t.found h.to) ≡ b → T (is_open (s h.border))
      → PathReached (visit_if b x h t).found h.to
  visit-all x h t true e o = reached-new t.found (record { cell = h.to; over = h.border; from = x })
  visit-all x h t false e o = go (T-dec (is_found a t.found h.to))
    where
      go : PathReached t.found h.to ⊎ T (not (is_found a t.found h.to)) → PathReached t.found h.to
      go (inl u) = u
      go (inr u) = absurd (rw e at (T_and (is_open (s h.border)) (not (is_found a t.found h.to)) o u))

  looked : (x n : ℕ) (hs : List Hop) (t : Search) → x < Z.page.cells → PathReached t.found x
      → ((h : Hop) → h ∈ hs → h ∈ Z.page.around x) → Inv x n t → FoundLooked x n hs t (look Z.page s a x hs t)
  unfolding look
  looked x n [] t hx fx m i = record { inv = i; all = λ h k. absurd (Memᴰ.not-nil k); more = λ y k. k }
  looked x n (h ∷ hs) t hx fx m i = go (is_open (s h.border) && not (is_found a t.found h.to)) refl
      (λ u fu iu. looked x n hs u hx fu (λ j k. m j (Memᴰ.tail k)) iu)
    where
      go : (b : Bool) → is_open (s h.border) && not (is_found a t.found h.to) ≡ b →
          ((u : Search) → PathReached u.found x → Inv x n u → FoundLooked x n hs u (look Z.page s a x hs u))
          → FoundLooked x n (h ∷ hs) t (look Z.page s a x hs (visit_if b x h t))
      go b e ih = let r = ih (visit_if b x h t) (visit-more x h t b x fx)
          (visit x n h t hx fx (m h (Memᴰ.head refl)) i b e) in record {
            inv = r.inv;
            all = λ j k o. every r j o (Memᴰ.cases_cons k);
            more = λ y k. r.more y (visit-more x h t b y k);
          }
        where
          every : FoundLooked x n hs (visit_if b x h t) (look Z.page s a x hs (visit_if b x h t)) → (j : Hop)
              → T (is_open (s j.border)) → (j ≡ h) ⊎ j ∈ hs
              → PathReached (look Z.page s a x hs (visit_if b x h t)).found j.to
          every r j o (inl q) = r.more j.to (rw q (visit-all x h t b e (rw q at o)))
          every r j o (inr k) = r.all j k o

  pub record Searched (f : List Found) : Type 0 where
    pub chain : Chain f
    pub shut : (y : ℕ) → PathReached f y → Shut f y

  hunt-empty : (f : List Found) → Chain f → ((y : ℕ) → PathReached f y → y ∈ [] ⊎ Shut f y) → Searched f
  hunt-empty f c u = record { chain = c; shut = λ y k. go y (u y k) }
    where
      go : (y : ℕ) → y ∈ [] ⊎ Shut f y → Shut f y
      go y (inl m) = absurd (Memᴰ.not-nil m)
      go y (inr g) = g

  hunt-done : (n : ℕ) (q : List ℕ) (f : List Found) → Chain f
      → ((y : ℕ) → y ∈ q → (y < Z.page.cells) × PathReached f y)
      → ((y : ℕ) → PathReached f y → y ∈ q ⊎ Shut f y) → length q + unfound f ≤ n → Searched (hunt Z.page s n a q f)
  unfolding hunt
  hunt-done zero [] f c i u l = hunt-empty f c u
  hunt-done zero (x ∷ q) f c i u l = absurd (omega arith)
  hunt-done (suc n) [] f c i u l = hunt-empty f c u
  hunt-done (suc n) (x ∷ q) f c i u l =
      hunt-done n _ _ r.inv.chain r.inv.inq (λ y k. last y (r.inv.shut y k)) r.inv.count
    where
      t : Search
      t = record { queue = q; found = f }

      first : (y : ℕ) → y ∈ (x ∷ q) ⊎ Shut f y → (y ≡ x) ⊎ (y ∈ q ⊎ Shut f y)
      first y (inr g) = inr (inr g)
      first y (inl m) = split (Memᴰ.cases_cons m)
        where
          split : (y ≡ x) ⊎ y ∈ q → (y ≡ x) ⊎ (y ∈ q ⊎ Shut f y)
          split (inl e) = inl e
          split (inr k) = inr (inl k)

      r : FoundLooked x n (Z.page.around x) t (look Z.page s a x (Z.page.around x) t)
      r = looked x n (Z.page.around x) t (i x (Memᴰ.head refl)).0 (i x (Memᴰ.head refl)).1 (λ h k. k)
          (record {
            chain = c;
            inq = λ y k. i y (Memᴰ.tail k);
            shut = λ y k. first y (u y k);
            count = omega arith;
          })

      last : (y : ℕ) → (y ≡ x) ⊎ (y ∈ (look Z.page s a x (Z.page.around x) t).queue ⊎ Shut
          (look Z.page s a x (Z.page.around x) t).found y)
          → y ∈ (look Z.page s a x (Z.page.around x) t).queue ⊎ Shut
          (look Z.page s a x (Z.page.around x) t).found y
      last y (inl e) = inr (subst (λ (z : ℕ). Shut (look Z.page s a x (Z.page.around x) t).found z) (sym e)
          r.all)
      last y (inr g) = g

  pub found_all : Searched (hunt Z.page s Z.page.cells a (a ∷ []) [])
  unfolding unfound
  found_all = hunt-done Z.page.cells (a ∷ []) [] tt
      (λ y m. let q = Memᴰ.eq_of_singleton m in rw q (ha, reached-start []))
      (λ y k. inl (Memᴰ.head (reached-nil y k))) (let u = few in omega arith)
    where
      few : unfound [] < Z.page.cells
      few = count-lt Z.page.cells (λ x. not (is_found a [] x)) a ha
          (ap not (T_true (is_found a [] a) (reached-start [])))

  -- every joined cell is found
  joined-found : {y x : ℕ} → PathReached (hunt Z.page s Z.page.cells a (a ∷ []) []) x
      → Joined Z.page (joins_block Z s) y x → PathReached (hunt Z.page s Z.page.cells a (a ∷ []) []) y
  unfolding joins_block
  joined-found k (stay e) = rw (← e) k
  joined-found {x} k (step h m t r) = joined-found (found_all.shut x k h m t) r

  -- a setting that contains the path joins its ends
  traced : (σ : ℕ → State) (f : List Found) (x : ℕ) → Chain f → PathReached f x → Contains σ (trace f x)
      → SameBlock Z σ x a
  unfolding trace Contains joins_block
  traced σ [] x c k q = stay (reached-nil x k)
  traced σ (e ∷ f) x c k q = go (eqb x e.cell) refl q (reached-cases f e x k) (λ k' q'. traced σ f x c.1 k' q')
      (λ q'. traced σ f e.from c.1 c.0.known q')
    where
      go : (b : Bool) → eqb x e.cell ≡ b → Contains σ (cond b (open_at e.over ∷ trace f e.from) (trace f x))
          → (x ≡ e.cell) ⊎ PathReached f x →
          (PathReached f x → Contains σ (trace f x) → SameBlock Z σ x a)
          → (Contains σ (trace f e.from) → SameBlock Z σ e.from a) → SameBlock Z σ x a
      go true d q' w i j = step {x = x} (record { border = e.over; to = e.from })
          (subst (λ (y : ℕ). record { border = e.over; to = e.from } ∈ Z.page.around y)
          (sym (eqb→eq x e.cell (rw d tt)))
          (K.hop-back e.from (record { border = e.over; to = e.cell }) c.0.from_in c.0.hop))
          (rw (q' (open_at e.over) (Memᴰ.head refl)) tt) (j (λ l m. q' l (Memᴰ.tail m)))
      go false d q' (inl w) i j = absurd (rw d at (subst (λ (y : ℕ). T (eqb x y)) w (eqb_refl x)))
      go false d q' (inr w) i j = i w q'

  -- on the page, the path is what is traced back
  pub path-traced : (b : ℕ) → b < Z.page.cells
      → path Z.page s a b ≡ trace (hunt Z.page s Z.page.cells a (a ∷ []) []) b
  unfolding path
  path-traced b hb = rw (lt-ltb a Z.page.cells ha, lt-ltb b Z.page.cells hb)

  pub path-joins : (σ : ℕ → State) (b : ℕ) → SameBlock Z s a b → Contains σ (path Z.page s a b) → SameBlock Z σ b a
  path-joins σ b j c =
      traced σ _ b found_all.chain (joined-found (reached-start _) j)
      (subst (Contains σ) (path-traced b (join-in Z.page K _ ha j)) c)
