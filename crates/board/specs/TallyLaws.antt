-- Laws of tallies: when two are the same, the counts of borders of which one is stored anew, and what a decide and an
-- undo make of them; the tally of the book's sequence.
--
--   same-is, is_same       two tallies are the same exactly if they are equal
--   tally-set              the tally of borders of which an undecided one is decided
--   less-more              taking a border back undoes deciding it
--   tally-left             deciding a border leaves one undecided border less, on either side
--   codes-three            each border is undecided, wall or open
--   codes-some             a code that a border has is counted
--   tally-fresh            the tally of borders that are all undecided
--   tally-none, tally-last  the tally of the empty sequence, and of one with a literal put last
use Rattle.std.specs.Prelude.{◌≡◌, Bool, true, not, ◌&&◌, List, [], ◌∷◌, ℕ, zero, suc, ◌+◌, ◌-◌, ◌<◌, ◌≤◌, eqb, get_or}
use Rattle.std.specs.Prelude.{set, replicate}
use Rattle.std.proofs.Math.Path.{refl, ap}
use Rattle.std.proofs.Common.{sym, ◌∙◌, eq-eqb, eqb-true, get_or-set_same, get_or-set_other}
use Rattle.std.proofs.Math.Decide.{ℕ_discrete}
use native.Mathlib.Omega.{arith}
use Rattle.std.proofs.Math.ListN.{length, length-append}
use Rattle.lists.specs.Lists.{filter}
use Rattle.lists.specs.Appends.{filter-append}
use Rattle.lists.specs.Booleans.{and_left, and_right}
use Rattle.lists.specs.Count.{bit, count_below}
use Rattle.lists.specs.CountLaws.{count-cong, count-all, count_none, count-lt, count-not}
use Rattle.lists.specs.PaddedLaws.{zeros}
use Rattle.rules.specs.declared.Side.{Side}
use Rattle.rules.specs.declared.Side.TheVariants.{Wall, Open}
use Rattle.rules.specs.declared.Literal.{Literal}
use Rattle.rules.specs.declared.Tally.{Tally}
use Rattle.rules.specs.Page.{Puzzle, decided, is_wall, is_open}
use Rattle.rules.specs.Codes.{side_in}
use Rattle.rules.specs.Book.{with_last, tally_of, same_tally, tally_at}
use Rattle.board.specs.Alien.{code_count, tally_in}
use Rattle.board.specs.Board.{tally_more, tally_less}

pub same-is : (t u : Tally) → same_tally t u ≡ true → t ≡ u
same-is t u e =
    let a : Bool = eqb t.undecided u.undecided in
    let b : Bool = eqb t.walls u.walls in
    let c : Bool = eqb t.opens u.opens in
    let f = and_left (a && b) c e in
    let p = eqb-true t.undecided u.undecided (and_left a b f) in
    let q = eqb-true t.walls u.walls (and_right a b f) in
    let r = eqb-true t.opens u.opens (and_right (a && b) c e) in
    λ i. tally_of (p i) (q i) (r i)

pub is_same : (t u : Tally) → t ≡ u → same_tally t u ≡ true
is_same t u e =
    rw (
      e,
      eq-eqb u.undecided u.undecided refl,
      eq-eqb u.walls u.walls refl,
      eq-eqb u.opens u.opens refl,
    )

-- ---- the counts of borders
codes-set : (bs : List ℕ) (n v c : ℕ) → n < length bs → (m : ℕ) → n < m
    → code_count (set bs n v) m c + bit (eqb (get_or bs n 0) c) ≡ code_count bs m c + bit (eqb v c)
unfolding code_count count_below
codes-set bs n v c h zero k = absurd (omega arith)
codes-set bs n v c h (suc m) k = go (codes-set bs n v c h m) (ℕ_discrete m n)
  where
    f : ℕ → Bool
    f i = eqb (get_or (set bs n v) i 0) c

    g : ℕ → Bool
    g i = eqb (get_or bs i 0) c

    other : (i : ℕ) → (i ≡ n → ⊥) → f i ≡ g i
    other i d = ap (λ x. eqb x c) (get_or-set_other bs n i v 0 d)

    go : (n < m → count_below m f + bit (eqb (get_or bs n 0) c) ≡ count_below m g + bit (eqb v c)) → Dec (m ≡ n)
        → count_below m f + bit (f m) + bit (eqb (get_or bs n 0) c) ≡ count_below m g + bit (g m) + bit (eqb v c)
    go ih (yes d) =
        let a = count-cong m f g (λ i l. other i (λ z. let q : i ≡ n = z in omega arith)) in
        let b : bit (f m) ≡ bit (eqb v c) =
        ap (λ x. bit (eqb (get_or (set bs n v) x 0) c)) d ∙ ap (λ x. bit (eqb x c)) (get_or-set_same bs n v 0 h) in
        let e : bit (g m) ≡ bit (eqb (get_or bs n 0) c) = ap (λ x. bit (eqb (get_or bs x 0) c)) d in
        omega arith
    go ih (no d) =
        let a = ih (omega arith) in
        let b : bit (f m) ≡ bit (g m) = ap bit (other m d) in
        omega arith

pub tally-set : (bs : List ℕ) (m n v : ℕ) → n < m → n < length bs → get_or bs n 0 ≡ 0 → 1 ≤ v → v ≤ 2
    → tally_in (set bs n v) m ≡ tally_more (tally_in bs m) (side_in v)
tally-set bs m n v k h p w z = go (ℕ_discrete v 1)
  where
    counts : (c : ℕ) → code_count (set bs n v) m c + bit (eqb 0 c) ≡ code_count bs m c + bit (eqb v c)
    counts c = rw p at (codes-set bs n v c h m k)

    go : Dec (v ≡ 1) → tally_in (set bs n v) m ≡ tally_more (tally_in bs m) (side_in v)
    go (yes e) =
        let a : code_count (set bs n v) m 0 ≡ code_count bs m 0 - 1 = let q =
        rw e at (counts 0) in rw e (omega arith) in
        let b : code_count (set bs n v) m 1 ≡ code_count bs m 1 + 1 = let q =
        rw e at (counts 1) in rw e (omega arith) in
        let c : code_count (set bs n v) m 2 ≡ code_count bs m 2 = let q = rw e at (counts 2) in rw e (omega arith) in
        (λ i. tally_of (a i) (b i) (c i)) ∙ sym (ap (λ x. tally_more (tally_in bs m) (side_in x)) e)
    go (no d) =
        let e : v ≡ 2 = omega arith in
        let a : code_count (set bs n v) m 0 ≡ code_count bs m 0 - 1 = let q =
        rw e at (counts 0) in rw e (omega arith) in
        let b : code_count (set bs n v) m 1 ≡ code_count bs m 1 = let q = rw e at (counts 1) in rw e (omega arith) in
        let c : code_count (set bs n v) m 2 ≡ code_count bs m 2 + 1 = let q =
        rw e at (counts 2) in rw e (omega arith) in
        (λ i. tally_of (a i) (b i) (c i)) ∙ sym (ap (λ x. tally_more (tally_in bs m) (side_in x)) e)

pub less-more : (t : Tally) (d : Side) → 0 < t.undecided → tally_less (tally_more t d) d ≡ t
less-more t Wall h =
    let a : t.undecided - 1 + 1 ≡ t.undecided = omega arith in
    let b : t.walls + 1 - 1 ≡ t.walls = omega arith in
    λ i. tally_of (a i) (b i) t.opens
less-more t Open h =
    let a : t.undecided - 1 + 1 ≡ t.undecided = omega arith in
    let b : t.opens + 1 - 1 ≡ t.opens = omega arith in
    λ i. tally_of (a i) t.walls (b i)

pub tally-left : (t : Tally) (d : Side) → (tally_more t d).undecided ≡ t.undecided - 1
tally-left t Wall = refl
tally-left t Open = refl

pub codes-three : (bs : List ℕ) (m : ℕ) → ((x : ℕ) → x < m → get_or bs x 0 ≤ 2)
    → code_count bs m 0 + code_count bs m 1 + code_count bs m 2 ≡ m
unfolding code_count count_below
codes-three bs zero f = refl
codes-three bs (suc m) f =
    let a : code_count bs m 0 + code_count bs m 1 + code_count bs m 2 ≡ m =
    codes-three bs m (λ x h. f x (omega arith)) in
    let b = one (get_or bs m 0) (f m (omega arith)) in
    omega arith
  where
    one : (v : ℕ) → v ≤ 2 → bit (eqb v 0) + bit (eqb v 1) + bit (eqb v 2) ≡ 1
    one zero h = refl
    one (suc zero) h = refl
    one (suc (suc zero)) h = refl
    one (suc (suc (suc v))) h = absurd (let z : suc (suc (suc v)) ≤ 2 = h in omega arith)

pub codes-some : (bs : List ℕ) (m n v : ℕ) → n < m → get_or bs n 0 ≡ v → 0 < code_count bs m v
unfolding code_count
codes-some bs m n v k p =
    let f : ℕ → Bool = λ i. eqb (get_or bs i 0) v in
    let a = count-not m f in
    let b = count-lt m (λ i. not (f i)) n k (ap not (eq-eqb (get_or bs n 0) v p)) in
    omega arith

pub tally-fresh : (n m : ℕ) → tally_in (replicate n 0) m ≡ tally_of m 0 0
unfolding code_count
tally-fresh n m =
    let at : (v i : ℕ) → eqb (get_or (replicate n 0) i 0) v ≡ eqb 0 v = λ v i. ap (λ x. eqb x v) (zeros n i) in
    let a = count-all m (λ i. eqb (get_or (replicate n 0) i 0) 0) (λ i h. at 0 i) in
    let b = count_none m (λ i. eqb (get_or (replicate n 0) i 0) 1) (λ i h. at 1 i) in
    let c = count_none m (λ i. eqb (get_or (replicate n 0) i 0) 2) (λ i h. at 2 i) in
    λ i. tally_of (a i) (b i) (c i)

-- ---- the book's sequence
module _ (Z : Puzzle) where
  pub tally-none : tally_at Z [] ≡ tally_of Z.page.borders 0 0
  unfolding tally_at filter
  tally-none = let e : Z.page.borders - 0 ≡ Z.page.borders = omega arith in λ i. tally_of (e i) 0 0

  pub tally-last : (ls : List Literal) (l : Literal)
      → tally_at Z (with_last ls l) ≡ tally_more (tally_at Z ls) l.side
  unfolding tally_at filter
  tally-last ls l = go l.side refl
    where
      some : (f : Literal → Bool)
          → length (filter f (with_last ls l)) ≡ length (filter f ls) + length (filter f (l ∷ []))
      some f = ap length (filter-append f ls (l ∷ [])) ∙ length-append (filter f ls) (filter f (l ∷ []))

      wall : Literal → Bool
      wall k = is_wall (decided k.side)

      unwalled : Literal → Bool
      unwalled k = is_open (decided k.side)

      left : Z.page.borders - length (with_last ls l) ≡ Z.page.borders - length ls - 1
      left = let e = length-append ls (l ∷ []) in omega arith

      go : (d : Side) → l.side ≡ d → tally_at Z (with_last ls l) ≡ tally_more (tally_at Z ls) d
      go Wall e =
          let a : length (filter wall (with_last ls l)) ≡ length (filter wall ls) + 1 = some wall ∙ rw e in
          let b : length (filter unwalled (with_last ls l)) ≡ length (filter unwalled ls) =
          some unwalled ∙ rw e (omega arith) in
          λ i. tally_of (left i) (a i) (b i)
      go Open e =
          let a : length (filter wall (with_last ls l)) ≡ length (filter wall ls) = some wall ∙ rw e (omega arith) in
          let b : length (filter unwalled (with_last ls l)) ≡ length (filter unwalled ls) + 1 = some unwalled ∙ rw e in
          λ i. tally_of (left i) (a i) (b i)
