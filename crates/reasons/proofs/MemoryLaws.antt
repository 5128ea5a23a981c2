-- Laws of Wrote: nothing written, one literal, one list after another, and loops. From working memory that is 0, a
-- reason's literals come out each once; memory without places for the borders has them all.
--
--   named_some, named_none, named-out, naming-out  whether a border is named, as the code asks it; where there is no
--                       place for that, it is not, and cannot be
--   length-naming       naming keeps the length
--   spare-zeros, spare-front  working memory that is 0 has room, and so have the first 1,984 places of lent memory
--   naming-none, naming-full, naming-old, naming-new, naming-more  no literal; one for which no place is left; one
--                       whose border is named; one whose border is not; two lists, one after another
--   front_length, front_fits  how many literals stand before the next place, and that they fit lent memory
--   turns-none, turns_more, turns-end, write-none, write-more  loops
--   once-handed         where a reason holds on a board, what is handed out of working memory is its literals, each
--                       once
--   plain-handed        where it names no border twice, it may be written into the front of lent memory straight away
use Rattle.std.specs.Prelude.{◌≡◌, refl, Bool, true, false, ◌||◌, cond, List, [], ◌∷◌, ◌++◌, map, ℕ, suc, ◌+◌, ◌<◌, ◌≤◌}
use Rattle.std.specs.Prelude.{eqb, leb, length, get_or, set, take, drop, replicate}
use Rattle.std.proofs.Math.Path.{ap}
use Rattle.std.proofs.Common.{ap₂, sym, ◌∙◌, append_assoc, append-nil, add-one, take-append-drop, get_or-set_same}
use Rattle.std.proofs.Common.{get_or-set_other, take-suc-set, length-take-le}
use Rattle.std.proofs.Math.Bool.{not, or-true, or-false}
use mathlib.Core.List.Memᴰ
use native.Mathlib.Omega.{arith}
use borrow.Author.Tests.{eqb-true, eqb-false, eq-eqb, ne_eqb, le-leb, lt-leb}
use Rattle.std.proofs.Math.ListN.{length-set, get_or-eq_default}
use Rattle.std.proofs.lemmas.List.{length-map, length-replicate, get_or-replicate, take-set-le}
use Rattle.std.proofs.lemmas.List.Edits.{sets}
use Rattle.std.proofs.Math.Seq.{set_out}
use Rattle.lists.specs.Lists.{◌∈◌, flat_map, Distinct}
use Rattle.lists.specs.Parts.{part}
use Rattle.lists.specs.UpTo.{up_to}
use Rattle.lists.specs.Filters.{filter-all}
use Rattle.lists.specs.Flats.{flat-last}
use Rattle.lists.specs.Stores.{sets-front}
use Rattle.lists.specs.PartLaws.{part_none, part-more}
use Rattle.lists.specs.UpToLaws.{up_none, up_more}
use Rattle.rules.specs.declared.Literal.{Literal}
use Rattle.rules.specs.Page.{Contains}
use Rattle.rules.specs.Codes.{states_in, literal_code}
use Rattle.rules.specs.Check.{borders_named, once}
use Rattle.laws.specs.StateLaws.{has}
use Rattle.laws.specs.CodeLaws.{decided-below}
use Rattle.laws.specs.OnceLaws.{once-mem, once-borders, once-same, named-few, once_by, by-border}
use Rattle.reasons.specs.Memory.{Work, work_at, named_in, naming, named_by, named_all, Spare, Wrote}
use Rattle.reasons.specs.Memory.{WordsWritten}

all_append : (p : Work) (a b : List Literal) → named_all p (a ++ b) ≡ named_all (named_all p a) b
unfolding named_all
all_append p [] b = refl
all_append p (l ∷ a) b = all_append (named_by p l) a b

-- ---- what is named
-- memory with the border b named, and the number v at the place i
abbrev named : List ℕ → ℕ → ℕ → ℕ → List ℕ
named m i b v = set (naming m b) i v

named-at : (m : List ℕ) (i b v x : ℕ) → length m ≡ 3968 → i < 1984 → b < 1984
    → named_in (named m i b v) x ≡ (named_in m x || eqb b x)
unfolding named_in naming
named-at m i b v x e hi h =
    ap (λ k. not (eqb k 0)) (get_or-set_other (set m (1984 + b) 1) i (1984 + x) v 0 (λ (z : 1984 + x ≡ i). omega arith))
    ∙ go (eqb b x) refl
  where
    go : (y : Bool) → eqb b x ≡ y
        → not (eqb (get_or (set m (1984 + b) 1) (1984 + x) 0) 0) ≡ (not (eqb (get_or m (1984 + x) 0) 0) || eqb b x)
    go true p =
        let z : b ≡ x = eqb-true b x p in
        ap (λ k. not (eqb (get_or (set m (1984 + b) 1) (1984 + k) 0) 0)) (sym z)
        ∙ ap (λ k. not (eqb k 0)) (get_or-set_same m (1984 + b) 1 0 (omega arith))
        ∙ sym (rw (p, or-true (not (eqb (get_or m (1984 + x) 0) 0))))
    go false p =
        let n = eqb-false b x p in
        ap (λ k. not (eqb k 0))
        (get_or-set_other m (1984 + b) (1984 + x) 1 0 (λ (z : 1984 + x ≡ 1984 + b). n (omega arith)))
        ∙ sym (rw (p, or-false (not (eqb (get_or m (1984 + x) 0) 0))))

-- the place of a border, as the code asks it
pub named_some : (m : List ℕ) (b : ℕ) → (get_or m (1984 + b) 0 ≡ 0 → ⊥) → named_in m b ≡ true
unfolding named_in
named_some m b q = ap not (ne_eqb (get_or m (1984 + b) 0) 0 q)

pub named_none : (m : List ℕ) (b : ℕ) → get_or m (1984 + b) 0 ≡ 0 → named_in m b ≡ false
unfolding named_in
named_none m b q = ap not (eq-eqb (get_or m (1984 + b) 0) 0 q)

pub named-out : (m : List ℕ) (b : ℕ) → length m ≤ 1984 + b → named_in m b ≡ false
named-out m b h = named_none m b (get_or-eq_default m 0 h)

pub naming-out : (m : List ℕ) (b : ℕ) → length m ≤ 1984 + b → naming m b ≡ m
unfolding naming
naming-out m b h = set_out m (1984 + b) 1 h

pub length-naming : (m : List ℕ) (b : ℕ) → length (naming m b) ≡ length m
unfolding naming
length-naming m b = length-set m (1984 + b) 1

-- a name does not change what stands before the places for names
take-naming : (m : List ℕ) (i b : ℕ) → i ≤ 1984 → take i (naming m b) ≡ take i m
unfolding naming
take-naming m i b h = take-set-le i m (1984 + b) 1 (omega arith)

pub spare-zeros : Spare (replicate 3968 0) 0
spare-zeros = record { long = omega (arith, length-replicate {A = ℕ} 3968 0); room = omega arith }

pub spare-front : (m : List ℕ) → 1984 ≤ length m → Spare (take 1984 m) 0
spare-front m h = record { long = omega (arith, length-take-le 1984 m h); room = omega arith }

-- ---- Wrote
pub naming-none : {m : List ℕ} {i : ℕ} → Spare m i → Wrote m i [] m i
unfolding named_all
naming-none S = record { is = refl; long = refl; spare = S }

module _ (m : List ℕ) (i : ℕ) (l : Literal) (S : Spare m i) where
  pub naming-full : 1984 ≤ i → Wrote m i (l ∷ []) m i
  unfolding named_all named_by
  naming-full h =
      record { is = rw (le-leb 1984 i h, or-true (named_in m l.border)); long = refl; spare = S }

  pub naming-old : named_in m l.border ≡ true → Wrote m i (l ∷ []) m i
  unfolding named_all named_by
  naming-old q = record { is = rw q; long = refl; spare = S }

  pub naming-new : i < 1984 → named_in m l.border ≡ false
      → Wrote m i (l ∷ []) (named m i l.border (literal_code l)) (i + 1)
  unfolding named_all named_by
  naming-new h q =
      let k = length-set (naming m l.border) i (literal_code l) ∙ length-naming m l.border in
      record {
        is = rw (q, lt-leb 1984 i h);
        long = k;
        spare = record { long = omega (arith, k, S.long); room = omega arith };
      }

module _ {m : List ℕ} {i : ℕ} {ls : List Literal} {m' : List ℕ} {j : ℕ} (a : Wrote m i ls m' j) where
  pub naming-more : {ls' : List Literal} {m'' : List ℕ} {k : ℕ} → Wrote m' j ls' m'' k → Wrote m i (ls ++ ls') m'' k
  naming-more {ls'} b =
      record {
        is = b.is ∙ ap (λ p. named_all p ls') a.is ∙ sym (all_append (work_at m i) ls ls');
        long = b.long ∙ a.long;
        spare = b.spare;
      }

  -- what stands before the next place
  pub front_length : j ≡ length (take j m')
  front_length = sym (length-take-le j m' (omega (arith, a.spare.long, a.spare.room)))

  pub front_fits : (k : ℕ) → 1984 ≤ k → length (take j m') ≤ k
  front_fits k l = omega (arith, front_length, a.spare.room)

-- a loop that writes the lists f 0, f 1, ..
module _ (f : ℕ → List Literal) {m : List ℕ} {i : ℕ} where
  pub turns-none : Spare m i → Wrote m i (up_to f 0) m i
  turns-none S = rw (up_none f) (naming-none S)

  module _ (k : ℕ) {m' : List ℕ} {j : ℕ} (a : Wrote m i (up_to f k) m' j) where
    pub turns_more : {m'' : List ℕ} {l : ℕ} → Wrote m' j (f k) m'' l → Wrote m i (up_to f (k + 1)) m'' l
    turns_more b = rw (up_more f k) (naming-more a b)

    pub turns-end : (n : ℕ) → k ≤ n → n ≤ k → Wrote m i (up_to f n) m' j
    turns-end n p q = let e : k ≡ n = omega arith in rw e at a

-- a loop over a part of a list, that writes what each element gives
module _ (f : ℕ → List Literal) (l : List ℕ) {m : List ℕ} {a : ℕ} where
  pub write-none : (from : ℕ) → Spare m a → Wrote m a (flat_map f (part l from from)) m a
  unfolding flat_map
  write-none from S = rw (part_none l from from (omega arith)) (naming-none S)

  pub write-more : (from i : ℕ) → from ≤ i → {m' : List ℕ} {b : ℕ} → Wrote m a (flat_map f (part l from i)) m' b
      → i < length l → {m'' : List ℕ} {c : ℕ} → Wrote m' b (f (get_or l i 0)) m'' c
      → Wrote m a (flat_map f (part l from (i + 1))) m'' c
  write-more from i h w q v = rw (part-more l from i h q, flat-last f (part l from i) (get_or l i 0)) (naming-more w v)

-- ---- each literal once
-- what stands before the next place
unfoldable front : Work → List ℕ
front p = take p.next p.memory

written_once : (m : List ℕ) (i : ℕ) (ls : List Literal) → length m ≡ 3968
    → ((l : Literal) → l ∈ ls → l.border < 1984) → i + length (once_by (named_in m) ls) ≤ 1984
    → front (named_all (work_at m i) ls) ≡ take i m ++ map literal_code (once_by (named_in m) ls)
unfolding named_all named_by once_by front
written_once m i [] long below room = sym (append-nil (take i m))
written_once m i (l ∷ ls) long below room =
    go (below l (Memᴰ.head refl)) (named_in m l.border) refl room
    (written_once m i ls long (λ k n. below k (Memᴰ.tail n)))
    (λ e. written_once m1 (i + 1) ls e (λ k n. below k (Memᴰ.tail n)))
  where
    m1 : List ℕ
    m1 = named m i l.border (literal_code l)

    go : l.border < 1984 → (x : Bool) → named_in m l.border ≡ x
        → i + length (cond x (once_by (named_in m) ls) (l ∷ once_by (λ y. named_in m y || eqb l.border y) ls)) ≤ 1984
        → (i + length (once_by (named_in m) ls) ≤ 1984
        → front (named_all (work_at m i) ls) ≡ take i m ++ map literal_code (once_by (named_in m) ls))
        → (length m1 ≡ 3968 → (i + 1) + length (once_by (named_in m1) ls) ≤ 1984
        → front (named_all (work_at m1 (i + 1)) ls) ≡ take (i + 1) m1 ++ map literal_code (once_by (named_in m1) ls))
        → front (named_all (cond (x || leb 1984 i) (work_at m i) (work_at m1 (i + 1))) ls)
        ≡ take i m ++ map literal_code (cond x (once_by (named_in m) ls)
        (l ∷ once_by (λ y. named_in m y || eqb l.border y) ls))
    go h true q r old new = old r
    go h false q r old new =
        let hi : i < 1984 = omega arith in
        let n = length-naming m l.border in
        let t : take (i + 1) m1 ≡ take i m ++ (literal_code l ∷ []) =
        ap (λ k. take k m1) (add-one i)
        ∙ take-suc-set (naming m l.border) i (literal_code l) (omega (arith, n, long))
        ∙ ap (λ k. k ++ (literal_code l ∷ [])) (take-naming m i l.border (omega arith)) in
        let f : named_in m1 ≡ (λ y. named_in m y || eqb l.border y) =
        λ j y. named-at m i l.border (literal_code l) y long hi h j in
        rw (lt-leb 1984 i hi)
        (new (length-set (naming m l.border) i (literal_code l) ∙ n ∙ long) (rw f (omega arith))
        ∙ ap₂ (λ (a : List ℕ) (g : ℕ → Bool). a ++ map literal_code (once_by g ls)) t f
        ∙ append_assoc (take i m) (literal_code l ∷ []) _)

-- memory without places for the borders has every literal
written_all : (m : List ℕ) (i : ℕ) (ls : List Literal) → length m ≡ 1984 → i + length ls ≤ 1984
    → named_all (work_at m i) ls ≡ work_at (sets m i (map literal_code ls)) (i + length ls)
unfolding named_all named_by
written_all m i [] long room = let e : i ≡ i + 0 = omega arith in ap (work_at m) e
written_all m i (l ∷ ls) long room =
    let e : i + 1 ≡ suc i = add-one i in
    let k : suc i + length ls ≡ i + suc (length ls) = omega arith in
    rw (named-out m l.border (omega arith), lt-leb 1984 i (omega arith), naming-out m l.border (omega arith), e)
    (written_all (set m i (literal_code l)) (suc i) ls (length-set m i (literal_code l) ∙ long) (omega arith)
    ∙ ap (work_at _) k)

-- a reason that holds on the board whose borders bs spells
module _ (bs : List ℕ) (long : length bs ≡ 1984) (ls : List Literal) (c : Contains (states_in bs) ls) where
  below : (l : Literal) → l ∈ ls → l.border < 1984
  below l m =
      let h = decided-below bs l.border l.side (has (states_in bs) ls c l m) in omega (arith, long)

  -- from working memory that is 0
  module _ {after : List ℕ} {n : ℕ} (W : Wrote (replicate 3968 0) 0 ls after n) where
    by-literal : once_by (named_in (replicate 3968 0)) ls ≡ once ls
    unfolding named_in
    by-literal =
        by-border (states_in bs) (named_in (replicate 3968 0)) ls c
        ∙ filter-all _ (once ls)
        (λ k m.
        ap (λ (v : ℕ). not (not (eqb v 0)))
        (get_or-replicate {A = ℕ} 3968 (1984 + k.border) 0 0 (omega (arith, below k (once-mem ls m)))))

    once-written : take n after ≡ map literal_code (once ls)
    unfolding front
    once-written =
        let few = named-few 1984 (once ls) (once-borders (states_in bs) ls c) (λ l m. below l (once-mem ls m)) in
        ap front W.is
        ∙ written_once (replicate 3968 0) 0 ls (length-replicate {A = ℕ} 3968 0) below (rw by-literal (omega arith))
        ∙ ap (map literal_code) by-literal

    pub once-handed : {m out : List ℕ} {k : ℕ} → WordsWritten m (take n after) out k
        → WordsWritten m (map literal_code (once ls)) out k
    once-handed w = rw (← once-written) w

  -- into the first 1,984 places of lent memory, where no border is named twice
  pub plain-handed : {m after : List ℕ} {n : ℕ} → 1984 ≤ length m → Distinct (borders_named ls)
      → Wrote (take 1984 m) 0 ls after n → WordsWritten m (map literal_code (once ls)) (after ++ drop 1984 m) n
  plain-handed {m} {after} h d W =
      let k = length-take-le 1984 m h in
      let few = named-few 1984 ls d below in
      let e = W.is ∙ written_all (take 1984 m) 0 ls k (omega arith) in
      let fits : length (map literal_code ls) ≤ length (take 1984 m) = omega (arith, length-map ls literal_code) in
      rw (once-same ls d) (record {
        memory = ap (λ (p : Work). p.memory ++ drop 1984 m) e
            ∙ sym (sets-front (take 1984 m) (drop 1984 m) (map literal_code ls) fits)
            ∙ ap (λ (l : List ℕ). sets l 0 (map literal_code ls)) (take-append-drop 1984 m);
        count = ap (λ (p : Work). p.next) e ∙ omega (arith, length-map ls literal_code);
      })
