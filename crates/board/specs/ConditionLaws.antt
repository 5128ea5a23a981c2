-- Laws of the conditions: a page's size and its counts, and what a run over the stack finds.
use Rattle.std.specs.Prelude.{◌≡◌, refl, Bool, true, false, cond, not, ◌&&◌, ◌||◌, List, ℕ, ◌+◌, ◌*◌, ◌<◌, ◌≤◌, leb}
use Rattle.std.specs.Prelude.{ltb, eqb, length, get_or, set}
use Rattle.std.proofs.Common.{ap, sym, ◌∙◌, arith, leb-true, le-leb, ltb-true, eq-eqb, ne_eqb, get_or-set_same}
use Rattle.std.proofs.Common.{get_or-set_other}
use Rattle.std.proofs.Math.Bool.{or-true, or-false}
use Rattle.std.proofs.Math.Decide.{ℕ_discrete}
use Rattle.std.proofs.lemmas.Bool.{lt-leb}
use Rattle.lists.specs.Booleans.{and_left, and_right}
use Rattle.lists.specs.TestLaws.{any_none, any-more, all-at}
use Rattle.rules.specs.Flat.{Sized, border_count}
use Rattle.laws.specs.FlatLaws.{counts, borders-le}
use Rattle.board.specs.Alien.{size_right, cells_of, borders_of, stacked, entries_right, border_right}

pub sized : {h w : ℕ} → size_right h w ≡ true → Sized h w
unfolding size_right
sized {h} {w} e =
    let a = and_left (leb 1 h && leb h 32 && leb 1 w) (leb w 32) e in
    let b = and_left (leb 1 h && leb h 32) (leb 1 w) a in
    record {
      rows = leb-true 1 h (and_left (leb 1 h) (leb h 32) b);
      columns = leb-true 1 w (and_right (leb 1 h && leb h 32) (leb 1 w) a);
      tall = leb-true h 32 (and_right (leb 1 h) (leb h 32) b);
      broad = leb-true w 32 (and_right (leb 1 h && leb h 32 && leb 1 w) (leb w 32) e);
    }

pub size_is : {h w : ℕ} → Sized h w → size_right h w ≡ true
unfolding size_right
size_is {h} {w} s = rw (le-leb 1 h s.rows, le-leb h 32 s.tall, le-leb 1 w s.columns, le-leb w 32 s.broad)

pub cells-of : {h w : ℕ} → Sized h w → cells_of h w ≡ h * w
unfolding cells_of
cells-of s = rw (size_is s)

pub borders-of : {h w : ℕ} → Sized h w → borders_of h w ≡ border_count h w
unfolding borders_of
borders-of s = rw (size_is s)

pub cells-of-le : (h w : ℕ) → cells_of h w ≤ 1024
unfolding cells_of
cells-of-le h w = go (size_right h w) refl
  where
    go : (b : Bool) → size_right h w ≡ b → cond b (h * w) 0 ≤ 1024
    go true e = (counts (sized e)).cells
    go false e = omega arith

pub borders-of-le : (h w : ℕ) → borders_of h w ≤ 1984
unfolding borders_of
borders-of-le h w = go (size_right h w) refl
  where
    go : (b : Bool) → size_right h w ≡ b → cond b (border_count h w) 0 ≤ 1984
    go true e = borders-le (sized e)
    go false e = omega arith

-- ---- the stack
pub stacked-none : (s : List ℕ) (x : ℕ) → stacked s 0 x ≡ false
unfolding stacked
stacked-none s x = any_none (λ j. eqb (get_or s j 0) x)

pub stacked-more : (s : List ℕ) (k x : ℕ) → stacked s (k + 1) x ≡ stacked s k x || eqb (get_or s k 0) x
unfolding stacked
stacked-more s k x = any-more k (λ j. eqb (get_or s j 0) x)

-- one more entry is flagged
pub flags-more : (s : List ℕ) (vs : List Bool) (i e : ℕ) → e ≡ get_or s i 0 → e < 1984 → length vs ≡ 1984
    → ((x : ℕ) → x < 1984 → get_or vs x false ≡ stacked s i x)
    → (x : ℕ) → x < 1984 → get_or (set vs e true) x false ≡ stacked s (i + 1) x
flags-more s vs i e p k l v x h = go (ℕ_discrete x e) ∙ sym (stacked-more s i x)
  where
    go : Dec (x ≡ e) → get_or (set vs e true) x false ≡ stacked s i x || eqb (get_or s i 0) x
    go (yes d) =
        ap (λ t. get_or (set vs e true) t false) d
        ∙ get_or-set_same vs e true false (omega arith)
        ∙ sym (ap (λ (t : Bool). stacked s i x || t) (eq-eqb (get_or s i 0) x (sym (d ∙ p))) ∙ or-true (stacked s i x))
    go (no d) =
        get_or-set_other vs e x true false d
        ∙ v x h
        ∙ sym
        (ap (λ (t : Bool). stacked s i x || t) (ne_eqb (get_or s i 0) x (λ z. d (sym (p ∙ z))))
        ∙ or-false (stacked s i x))

-- entries that are right are places of the flags
pub entries-low : (s : List ℕ) (m n : ℕ) → entries_right s m n ≡ true → m ≤ 1984 → (i : ℕ) → i < n → get_or s i 0 < 1984
unfolding entries_right
entries-low s m n e h i l = omega (arith, ltb-true (get_or s i 0) m (all-at n (λ j. ltb (get_or s j 0) m) i e l))

-- ---- a border place
pub border-undecided : (v : ℕ) (on : Bool) → v ≡ 0 → not on ≡ border_right v on
border-undecided v true p = rw p
border-undecided v false p = rw p

pub border-decided : (v : ℕ) (on : Bool) → (v ≡ 0 → ⊥) → v ≤ 2 → on ≡ border_right v on
border-decided v true p q = rw (ne_eqb v 0 p, le-leb v 2 q)
border-decided v false p q = rw (ne_eqb v 0 p, le-leb v 2 q)

pub border-far : (v : ℕ) (on : Bool) → 2 < v → false ≡ border_right v on
border-far v on p = rw (lt-leb v 2 p)
