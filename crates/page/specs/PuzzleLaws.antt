-- What an accepted page makes: lists of as many colours and clues as there are cells, which stand at the front of the
-- arrays; its calls, one after the other.
--
--   Makes p             the page p makes a board
use Rattle.std.specs.Prelude.{◌≡◌, Bool, true, not, ◌&&◌, ◌||◌, ltb, ℤ, negsuc, length, set, take, drop, replicate}
use Rattle.std.proofs.Math.Path.{refl, ap, ap₂}
use Rattle.std.proofs.Common.{sym, ◌∙◌, div-add-mod', mul_comm, arith, eqb→eq, length-set, take_at, get_or-take}
use Rattle.std.proofs.Common.{length-take-le}
use Rattle.std.proofs.Math.Bool.{false, cond}
use mathlib.Core.List.{List, [], ◌∷◌, ◌++◌}
use Prim.Native.Nat.{ℕ, ◌+◌, ◌*◌, ◌/◌, ◌%◌, ◌<◌, ◌≤◌}
use Rattle.std.proofs.Math.Decide.{ℕ_discrete}
use borrow.Author.Tests.{eq-eqb, ne_eqb, eqb-true, ltb-true, le-leb}
use Rattle.std.proofs.Math.Arith.{digits_div, digits_mod}
use Rattle.std.proofs.Math.Dec.{eqb}
use Rattle.std.proofs.Math.IntN.{pos}
use Rattle.std.proofs.Math.ListN.{get_or}
use Rattle.std.proofs.lemmas.List.{length-replicate, get_or-replicate}
use Rattle.std.proofs.lemmas.List.Edits.{sets, sets-eq}
use Rattle.std.proofs.Math.Seq.{get_or-set_same, get_or-set_other}
use Rattle.lists.specs.Lists.{all, any, flat_map}
use Rattle.lists.specs.TableLaws.{length-table, table_is}
use Rattle.lists.specs.Booleans.{and_left, and_right}
use Rattle.lists.specs.Flats.{length-flat}
use Rattle.lists.specs.ListLaws.{all-mem}
use Rattle.lists.specs.Appends.{all_append}
use Rattle.rules.specs.Flat.{Sized}
use Rattle.board.specs.Alien.{size_right}
use Rattle.board.specs.ConditionLaws.{sized}
use Rattle.page.specs.declared.Clue.{Clue}
use Rattle.page.specs.Grammar.{Sheet, on_page, same_cell, clues_fit}
use Rattle.page.specs.Judge.{Judgement, rejected, accepted, rows_fit, low, two_colours}
use Rattle.page.specs.Judge.{judge_sheet, colours_of, clue_on, clues_of, colour_array, placed, clue_array}

pub record Makes (p : Sheet) : Type 0 where
  pub size : Sized p.height p.width
  pub rows : rows_fit p.height p.width p.rows ≡ true
  pub colours : two_colours p.rows ≡ true

-- colours
pub colours-length : (p : Sheet) → rows_fit p.height p.width p.rows ≡ true
    → length (colours_of p) ≡ p.height * p.width
unfolding rows_fit colours_of
colours-length p e =
    let f : List ℕ → Bool = λ ds. eqb (length ds) p.width in
    let a : p.height ≡ length p.rows =
    eqb-true p.height (length p.rows) (and_right (all f p.rows) _ e) in
    let t : all f p.rows ≡ true = and_left (all f p.rows) (eqb p.height (length p.rows)) e in
    length-flat (λ ds. ds) p.width p.rows
    (λ ds m. eqb→eq (length ds) p.width (all-mem f p.rows (rw t tt) m))
    ∙ mul_comm p.width (length p.rows)
    ∙ ap (λ (n : ℕ). n * p.width) (sym a)

abbrev blank : List ℕ
blank = replicate 1024 0

pub colours-front : (p : Sheet) (n : ℕ) → length (colours_of p) ≡ n → n ≤ 1024
    → take n (colour_array p.rows) ≡ colours_of p
unfolding colours_of colour_array
colours-front p n e h =
    let ds : List ℕ = flat_map (λ ds. ds) p.rows in
    let k : length blank ≡ 1024 = length-replicate {A = ℕ} 1024 0 in
    let q : sets blank 0 ds ≡ ds ++ drop (0 + length ds) blank = sets-eq ds blank 0 (omega arith) in
    rw q (take_at ds (drop (0 + length ds) blank) n e)

-- every colour is 0 or 1
pub colours-low : (rows : List (List ℕ)) → two_colours rows ≡ true → all low (flat_map (λ ds. ds) rows) ≡ true
unfolding two_colours all flat_map
colours-low [] e = refl
colours-low (ds ∷ rows) e =
    all_append low ds (flat_map (λ ds. ds) rows)
    ∙ rw (and_left (all low ds) _ e, colours-low rows (and_right (all low ds) _ e))

-- clues: a cell that no clue names keeps what it has
absent : (z : ℤ) (c : Clue) (cs : List Clue) → any (same_cell c) cs ≡ false → clue_on z cs c.y c.x ≡ z
unfolding any clue_on same_cell
absent z c [] e = refl
absent z c (d ∷ ds) e = go (eqb c.y d.y && eqb c.x d.x) (any (same_cell c) ds) e (absent z c ds)
  where
    go : (a b : Bool) → a || b ≡ false → (b ≡ false → clue_on z ds c.y c.x ≡ z)
        → cond a (pos d.n) (clue_on z ds c.y c.x) ≡ z
    go true b q ih = let k : ◌≡◌ {A = ℕ} 0 1 = cc in absurd (omega arith)
    go false b q ih = ih q

-- the clues' test, part by part
record ClueFits (h w : ℕ) (c : Clue) (cs : List Clue) : Type 0 where
  inside : c.x < w
  once : any (same_cell c) cs ≡ false
  others : clues_fit h w cs ≡ true

fits : (h w : ℕ) (c : Clue) (cs : List Clue) → clues_fit h w (c ∷ cs) ≡ true → ClueFits h w c cs
unfolding clues_fit on_page
fits h w c cs e =
    let a : ltb c.y h && ltb c.x w ≡ true = and_left _ (not (any (same_cell c) cs) && clues_fit h w cs) e in
    let b : not (any (same_cell c) cs) && clues_fit h w cs ≡ true = and_right (ltb c.y h && ltb c.x w) _ e in
    record {
      inside = ltb-true c.x w (and_right (ltb c.y h) _ a);
      once = not-true (any (same_cell c) cs) (and_left _ (clues_fit h w cs) b);
      others = and_right (not (any (same_cell c) cs)) _ b;
    }
  where
    not-true : (b : Bool) → not b ≡ true → b ≡ false
    not-true true q = sym q
    not-true false q = refl

-- another cell
other : (a b y x : ℕ) → (a ≡ y → b ≡ x → ⊥) → eqb a y && eqb b x ≡ false
other a b y x n = go (ℕ_discrete a y) (ℕ_discrete b x)
  where
    go : Dec (a ≡ y) → Dec (b ≡ x) → eqb a y && eqb b x ≡ false
    go (no p) d = rw (ne_eqb a y p)
    go (yes p) (no q) = rw (eq-eqb a y p, ne_eqb b x q)
    go (yes p) (yes q) = absurd (n p q)

module _ (h w : ℕ) where
  placed_at : (cs : List Clue) (m : List ℤ) (i : ℕ) → clues_fit h w cs ≡ true → i < length m
      → get_or (placed w m cs) i (pos 0) ≡ clue_on (get_or m i (pos 0)) cs (i / w) (i % w)
  unfolding placed clue_on
  placed_at [] m i e l = refl
  placed_at (c ∷ cs) m i e l =
      let f : ClueFits h w c cs = fits h w c cs e in
      let k : ℕ = c.y * w + c.x in
      go f (ℕ_discrete i k)
      (placed_at cs (set m k (pos c.n)) i f.others (rw (length-set m k (pos c.n)) l))
    where
      go : ClueFits h w c cs → Dec (i ≡ c.y * w + c.x)
          → get_or (placed w (set m (c.y * w + c.x) (pos c.n)) cs) i (pos 0)
          ≡ clue_on (get_or (set m (c.y * w + c.x) (pos c.n)) i (pos 0)) cs (i / w) (i % w)
          → get_or (placed w (set m (c.y * w + c.x) (pos c.n)) cs) i (pos 0)
          ≡ cond (eqb (i / w) c.y && eqb (i % w) c.x) (pos c.n)
          (clue_on (get_or m i (pos 0)) cs (i / w) (i % w))
      go f (yes q) ih =
          let a : i / w ≡ c.y = ap (λ (n : ℕ). n / w) q ∙ digits_div c.y f.inside in
          let b : i % w ≡ c.x = ap (λ (n : ℕ). n % w) q ∙ digits_mod c.y f.inside in
          let s : get_or (set m (c.y * w + c.x) (pos c.n)) i (pos 0) ≡ pos c.n =
          ap (λ (j : ℕ). get_or (set m (c.y * w + c.x) (pos c.n)) j (pos 0)) q ∙
          get_or-set_same m (c.y * w + c.x) (pos c.n) (pos 0) (omega arith) in
          ih ∙ rw (s, a, b, eq-eqb c.y c.y refl, eq-eqb c.x c.x refl) (absent (pos c.n) c cs f.once)
      go f (no q) ih =
          let n : eqb (i / w) c.y && eqb (i % w) c.x ≡ false =
          other (i / w) (i % w) c.y c.x
          (λ a b. q (sym (div-add-mod' i w) ∙ ap₂ (λ (s t : ℕ). s * w + t) a b)) in
          ih ∙ rw (n, get_or-set_other m (c.y * w + c.x) i (pos c.n) (pos 0) q)

length-placed : (w : ℕ) (cs : List Clue) (m : List ℤ) → length (placed w m cs) ≡ length m
unfolding placed
length-placed w [] m = refl
length-placed w (c ∷ cs) m =
    length-placed w cs (set m (c.y * w + c.x) (pos c.n)) ∙ length-set m (c.y * w + c.x) (pos c.n)

abbrev bare : List ℤ
bare = replicate 1024 (negsuc 0)

pub clues-length : (p : Sheet) → length (clues_of p) ≡ p.height * p.width
unfolding clues_of
clues-length p = length-table (p.height * p.width) _

pub clues-front : (p : Sheet) → clues_fit p.height p.width p.clues ≡ true → p.width ≤ 32
    → p.height * p.width ≤ 1024
    → take (p.height * p.width) (clue_array p.width p.clues) ≡ clues_of p
unfolding clue_array clues_of
clues-front p e l s =
    let n : ℕ = p.height * p.width in
    let k : length bare ≡ 1024 = length-replicate 1024 (negsuc 0) in
    let j : length (placed p.width bare p.clues) ≡ length bare = length-placed p.width p.clues bare in
    rw (le-leb p.width 32 l)
    (table_is n (λ i. clue_on (negsuc 0) p.clues (i / p.width) (i % p.width)) (pos 0) _
    (length-take-le n (placed p.width bare p.clues) (omega arith))
    (λ i m.
    get_or-take n (placed p.width bare p.clues) i (pos 0) m ∙
    placed_at p.height p.width p.clues bare i e (omega arith) ∙
    ap (λ (z : ℤ). clue_on z p.clues (i / p.width) (i % p.width))
    (get_or-replicate 1024 i (negsuc 0) (pos 0) (omega arith))))

-- an accepted page makes a board
cond-accepted : (b : Bool) (v : Judgement) (n : ℕ) (p : Sheet) → cond b v (rejected n) ≡ accepted p
    → (b ≡ true) × (v ≡ accepted p)
cond-accepted true v n p e = (refl, e)
cond-accepted false v n p e = let z : ◌≡◌ {A = ℕ} 0 1 = cc in absurd (omega arith)

pub makes : (p q : Sheet) → judge_sheet p ≡ accepted q → (p ≡ q) × Makes p
unfolding judge_sheet
makes p q e =
    let a = cond-accepted (size_right p.height p.width) _ 1 q e in
    let b = cond-accepted (rows_fit p.height p.width p.rows) _ 2 q a.1 in
    let c = cond-accepted (two_colours p.rows) _ 3 q b.1 in
    let k : accepted p ≡ accepted q = c.1 in
    (cc, record { size = sized a.0; rows = b.0; colours = c.0 })
