-- Laws of the pass that gives each cell a parent: one more cell, by what it is joined to.
use Rattle.std.specs.Prelude.{◌≡◌, refl, Bool, true, false, not, ◌&&◌, cond, List, ℕ, ◌+◌, ◌-◌, ◌<◌, ◌≤◌, eqb, length}
use Rattle.std.specs.Prelude.{get_or, set}
use Rattle.std.proofs.Common.{sym, ap, ◌∙◌, add-zero, arith, eq-eqb, ne_eqb, get_or-set_same, get_or-set_other}
use Rattle.std.proofs.Math.Decide.{ℕ_discrete}
use Rattle.lists.specs.Count.{bit}
use Rattle.lists.specs.Booleans.{false-true}
use Rattle.groups.specs.Forests.{Forest}
use Rattle.groups.specs.Ties.{Tied, Scanned}

module _ (w : ℕ) (left above : ℕ → Bool) where
  tied-less : (c : ℕ) (L : List ℕ) → Tied (c + 1) w left above L → Tied c w left above L
  tied-less c L t =
      record { beside = λ x h. t.beside x (omega arith); over = λ x h. t.over x (omega arith) }

  tied-more : (c : ℕ) (L : List ℕ) → Tied c w left above L → (left c ≡ true → get_or L (c - 1) 0 ≡ get_or L c 0)
      → (w ≤ c → above c ≡ true → get_or L (c - w) 0 ≡ get_or L c 0) → Tied (c + 1) w left above L
  tied-more c L t l a =
      record {
        beside = λ x h e. beside x h e (ℕ_discrete x c);
        over = λ x h k e. over x h k e (ℕ_discrete x c);
      }
    where
      beside : (x : ℕ) → x < c + 1 → left x ≡ true → Dec (x ≡ c) → get_or L (x - 1) 0 ≡ get_or L x 0
      beside x h e (yes q) = rw q (l (rw q at e))
      beside x h e (no q) = t.beside x (omega arith) e

      over : (x : ℕ) → x < c + 1 → w ≤ x → above x ≡ true → Dec (x ≡ c) → get_or L (x - w) 0 ≡ get_or L x 0
      over x h k e (yes q) = rw q (a (omega arith) (rw q at e))
      over x h k e (no q) = t.over x (omega arith) k e

  -- cell c gets the parent v, and the list of cells becomes ds
  module _ (c : ℕ) (p cs : List ℕ) (k : ℕ) (f : Forest p) (room : c < 1024) (s : Scanned c w left above p cs k)
      (v : ℕ) (low : v ≤ c) where
    same : get_or (set p c v) c 0 ≡ v
    same = get_or-set_same p c v 0 (omega (arith, f.long))

    other : (x : ℕ) → x < c → get_or (set p c v) x 0 ≡ get_or p x 0
    other x h = get_or-set_other p c x v 0 (λ e. omega arith)

    scan-set : (v < c → get_or p v 0 ≡ v)
        → ((L : List ℕ) → Tied (c + 1) w left above L → get_or L v 0 ≡ get_or L c 0)
        → (ds : List ℕ) (m : ℕ) → ((i : ℕ) → i < m → (1 ≤ get_or ds i 0) × (get_or ds i 0 < c + 1))
        → ((i : ℕ) → i < m → left (get_or ds i 0) ≡ true)
        → ((L : List ℕ) → ((x : ℕ) → x < c → get_or L (get_or p x 0) 0 ≡ get_or L x 0) → get_or L v 0 ≡ get_or L c 0
        → ((i : ℕ) → i < m → get_or L (get_or ds i 0 - 1) 0 ≡ get_or L (get_or ds i 0) 0) → Tied (c + 1) w left above L)
        → Scanned (c + 1) w left above (set p c v) ds m
    scan-set root ties ds m few joins whole =
        record {
          twice = λ x h. twice x h (ℕ_discrete x c);
          sound = λ L t x h. sound L t x h (ℕ_discrete x c);
          few = few;
          joins = joins;
          whole =
              λ L g d.
              whole L (λ x h. ap (λ (i : ℕ). get_or L i 0) (sym (other x h)) ∙ g x (omega arith))
              (ap (λ (i : ℕ). get_or L i 0) (sym same) ∙ g c (omega arith)) d;
        }
      where
        own : Dec (v ≡ c) → get_or (set p c v) v 0 ≡ v
        own (yes e) = ap (λ (i : ℕ). get_or (set p c v) i 0) e ∙ same
        own (no e) = other v (omega arith) ∙ root (omega arith)

        twice : (x : ℕ) → x < c + 1 → Dec (x ≡ c) → get_or (set p c v) (get_or (set p c v) x 0) 0
            ≡ get_or (set p c v) x 0
        twice x h (yes e) = rw (e, same) (own (ℕ_discrete v c))
        twice x h (no e) =
            rw (other x (omega arith))
            (other (get_or p x 0) (omega (arith, f.down x)) ∙ s.twice x (omega arith))

        sound : (L : List ℕ) → Tied (c + 1) w left above L → (x : ℕ) → x < c + 1 → Dec (x ≡ c)
            → get_or L (get_or (set p c v) x 0) 0 ≡ get_or L x 0
        sound L t x h (yes e) = rw (e, same) (ties L t)
        sound L t x h (no e) = rw (other x (omega arith)) (s.sound L (tied-less c L t) x (omega arith))

  -- no cell yet
  pub scan-none : (p cs : List ℕ) → Scanned 0 w left above p cs 0
  scan-none p cs =
      record {
        twice = λ x h. absurd (omega arith);
        sound = λ L t x h. absurd (omega arith);
        few = λ i h. absurd (omega arith);
        joins = λ i h. absurd (omega arith);
        whole = λ L g d. record { beside = λ x h. absurd (omega arith); over = λ x h. absurd (omega arith) };
      }

  module _ (c : ℕ) (p cs : List ℕ) (k : ℕ) (f : Forest p) (room : c < 1024) (s : Scanned c w left above p cs k) where
    earlier : (i : ℕ) → i < k → (1 ≤ get_or cs i 0) × (get_or cs i 0 < c + 1)
    earlier i h = let q = s.few i h in (omega arith, omega arith)

    -- a cell that is joined to no earlier one; the first cell, whatever its flags
    pub scan-own : (left c ≡ true → c ≡ 0) → (w ≤ c → above c ≡ false) → Scanned (c + 1) w left above (set p c c) cs k
    scan-own l a =
        scan-set c p cs k f room s c (omega arith) (λ h. absurd (omega arith)) (λ L t. refl) cs k earlier s.joins
        (λ L g q d. tied-more c L (s.whole L g d)
        (λ e. let z : c ≡ 0 = l e in rw z) (λ h e. false-true (a h) e))

    -- a cell that is joined to the one left of it
    pub scan-left : 1 ≤ c → left c ≡ true → (w ≤ c → above c ≡ false)
        → Scanned (c + 1) w left above (set p c (get_or p (c - 1) 0)) cs k
    scan-left h l a =
        scan-set c p cs k f room s (get_or p (c - 1) 0) (omega (arith, f.down (c - 1)))
        (λ z. s.twice (c - 1) (omega arith))
        (λ L t. s.sound L (tied-less c L t) (c - 1) (omega arith) ∙ t.beside c (omega arith) l) cs k earlier
        s.joins
        (λ L g q d. tied-more c L (s.whole L g d) (λ e. sym (g (c - 1) (omega arith)) ∙ q)
        (λ i e. false-true (a i) e))

    module _ (some : 1 ≤ w) (later : w ≤ c) (a : above c ≡ true) where
      low : get_or p (c - w) 0 ≤ c
      low = omega (arith, f.down (c - w))

      up : (L : List ℕ) → Tied (c + 1) w left above L → get_or L (get_or p (c - w) 0) 0 ≡ get_or L c 0
      up L t = s.sound L (tied-less c L t) (c - w) (omega arith) ∙ t.over c (omega arith) later a

      -- a cell that is joined to the one above it; if also to the one left of it, the two have one parent
      pub scan-above : (left c ≡ true → get_or p (c - 1) 0 ≡ get_or p (c - w) 0)
          → Scanned (c + 1) w left above (set p c (get_or p (c - w) 0)) cs k
      scan-above l =
          scan-set c p cs k f room s (get_or p (c - w) 0) low (λ z. s.twice (c - w) (omega arith)) up cs k earlier
          s.joins
          (λ L g q d. tied-more c L (s.whole L g d)
          (λ e. sym (g (c - 1) (omega arith)) ∙ ap (λ (i : ℕ). get_or L i 0) (l e) ∙ q)
          (λ i e. sym (g (c - w) (omega arith)) ∙ q))

      -- a cell that is joined to both, which are not known to be of one group: it goes to the list
      pub scan-both : left c ≡ true → k < length cs
          → Scanned (c + 1) w left above (set p c (get_or p (c - w) 0)) (set cs k c) (k + 1)
      scan-both l h =
          scan-set c p cs k f room s (get_or p (c - w) 0) low (λ z. s.twice (c - w) (omega arith)) up (set cs k c)
          (k + 1) (λ i m. few i m (ℕ_discrete i k)) (λ i m. joins i m (ℕ_discrete i k))
          (λ L g q d. tied-more c L
          (s.whole L g (λ i m. ap (λ (j : ℕ). get_or L (j - 1) 0) (sym (past i m)) ∙ d i (omega arith)
          ∙ ap (λ (j : ℕ). get_or L j 0) (past i m)))
          (λ e. ap (λ (j : ℕ). get_or L (j - 1) 0) (sym new) ∙ d k (omega arith) ∙ ap (λ (j : ℕ). get_or L j 0) new)
          (λ i e. sym (g (c - w) (omega arith)) ∙ q))
        where
          new : get_or (set cs k c) k 0 ≡ c
          new = get_or-set_same cs k c 0 h

          past : (i : ℕ) → i < k → get_or (set cs k c) i 0 ≡ get_or cs i 0
          past i m = get_or-set_other cs k i c 0 (λ e. omega arith)

          few : (i : ℕ) → i < k + 1 → Dec (i ≡ k) → (1 ≤ get_or (set cs k c) i 0) × (get_or (set cs k c) i 0 < c + 1)
          few i m (yes e) = rw (e, new) (omega arith, omega arith)
          few i m (no e) = rw (past i (omega arith)) (earlier i (omega arith))

          joins : (i : ℕ) → i < k + 1 → Dec (i ≡ k) → left (get_or (set cs k c) i 0) ≡ true
          joins i m (yes e) = rw (e, new) l
          joins i m (no e) = rw (past i (omega arith)) (s.joins i (omega arith))

  -- what stands in the list from k on does not matter
  pub scan-spare : (c : ℕ) (p cs : List ℕ) (k v : ℕ) → Scanned c w left above p cs k
      → Scanned c w left above p (set cs k v) k
  scan-spare c p cs k v s =
      record {
        twice = s.twice;
        sound = s.sound;
        few = λ i h. rw (past i h) (s.few i h);
        joins = λ i h. rw (past i h) (s.joins i h);
        whole =
            λ L g d.
            s.whole L g
            (λ i h. ap (λ (j : ℕ). get_or L (j - 1) 0) (sym (past i h)) ∙ d i h
            ∙ ap (λ (j : ℕ). get_or L j 0) (past i h));
      }
    where
      past : (i : ℕ) → i < k → get_or (set cs k v) i 0 ≡ get_or cs i 0
      past i h = get_or-set_other cs k i v 0 (λ e. omega arith)

  -- the code's step for a cell of the first row
  pub scan-first : (c : ℕ) (p cs : List ℕ) (k : ℕ) → Forest p → c < 1024 → Scanned c w left above p cs k → 1 ≤ c → c < w
      → (l : Bool) → left c ≡ l → Scanned (c + 1) w left above (set p c (cond l (get_or p (c - 1) 0) c)) cs k
  scan-first c p cs k f room s h n true e = scan-left c p cs k f room s h e (λ z. absurd (omega arith))
  scan-first c p cs k f room s h n false e =
      scan-own c p cs k f room s (λ z. false-true e z) (λ z. absurd (omega arith))

  -- the code's step for a later cell: its parent, and the list with its length
  module _ (c : ℕ) (p cs : List ℕ) (k : ℕ) (f : Forest p) (room : c < 1024) (s : Scanned c w left above p cs k)
      (some : 1 ≤ w) (later : w ≤ c) (long : k < length cs) where
    pub scan-next : (l u : Bool) → left c ≡ l → above c ≡ u
        → Scanned (c + 1) w left above (set p c (cond u (get_or p (c - w) 0) (cond l (get_or p (c - 1) 0) c)))
        (set cs k c) (k + bit ((l && u) && not (eqb (get_or p (c - 1) 0) (get_or p (c - w) 0))))
    scan-next true true el eu = go (ℕ_discrete (get_or p (c - 1) 0) (get_or p (c - w) 0))
      where
        go : Dec (get_or p (c - 1) 0 ≡ get_or p (c - w) 0)
            → Scanned (c + 1) w left above (set p c (get_or p (c - w) 0)) (set cs k c)
            (k + bit (not (eqb (get_or p (c - 1) 0) (get_or p (c - w) 0))))
        go (yes e) =
            rw (eq-eqb _ _ e, add-zero k)
            (scan-above c p (set cs k c) k f room (scan-spare c p cs k c s) some later eu (λ z. e))
        go (no e) = rw (ne_eqb _ _ e) (scan-both c p cs k f room s some later eu el long)
    scan-next false true el eu =
        rw (add-zero k)
        (scan-above c p (set cs k c) k f room (scan-spare c p cs k c s) some later eu (λ z. false-true el z))
    scan-next true false el eu =
        rw (add-zero k)
        (scan-left c p (set cs k c) k f room (scan-spare c p cs k c s) (omega arith) el (λ z. eu))
    scan-next false false el eu =
        rw (add-zero k)
        (scan-own c p (set cs k c) k f room (scan-spare c p cs k c s) (λ z. false-true el z) (λ z. eu))

-- flags that are equal on the page serve as well
module _ (n w : ℕ) (left above beside over : ℕ → Bool) (l : (c : ℕ) → c < n → left c ≡ beside c)
    (a : (c : ℕ) → c < n → above c ≡ over c) where
  tied-flags : (L : List ℕ) → Tied n w left above L → Tied n w beside over L
  tied-flags L t =
      record { beside = λ c h e. t.beside c h (l c h ∙ e); over = λ c h k e. t.over c h k (a c h ∙ e) }

  tied_back : (L : List ℕ) → Tied n w beside over L → Tied n w left above L
  tied_back L t =
      record { beside = λ c h e. t.beside c h (sym (l c h) ∙ e); over = λ c h k e. t.over c h k (sym (a c h) ∙ e) }

  pub scan-flags : {p cs : List ℕ} {k : ℕ} → Scanned n w left above p cs k → Scanned n w beside over p cs k
  scan-flags s =
      record {
        twice = s.twice;
        sound = λ L t. s.sound L (tied_back L t);
        few = s.few;
        joins = λ i h. sym (l _ (s.few i h).1) ∙ s.joins i h;
        whole = λ L g d. tied-flags L (s.whole L g d);
      }

-- such a parent is no later
pub pick_low : (l u : Bool) (c a b : ℕ) → a ≤ c → b ≤ c → cond u a (cond l b c) ≤ c
pick_low l true c a b ha hb = ha
pick_low true false c a b ha hb = hb
pick_low false false c a b ha hb = omega arith
