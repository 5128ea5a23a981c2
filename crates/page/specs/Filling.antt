-- Filling a page's arrays: digits laid one after the other, clues stored at their cells.
--
--   Lays a ds b           what is laid after b stands as if it were laid after ds, after a
--   Laying a ds out rest  of the digits ds, laid after a, all but those of `rest` are laid in `out`
--   Stores w c            the bounds of a clue that was read, on a page of w columns, at most 32
use Rattle.std.specs.Prelude.{◌≡◌, refl, List, [], ◌∷◌, ◌++◌, ℕ, zero, suc, ◌+◌, ◌-◌, ◌*◌, ◌<◌, ◌≤◌, ℤ, pos, length}
use Rattle.std.specs.Prelude.{set, get_or}
use Rattle.std.proofs.Common.{sym, ap, ◌∙◌, mul-le-mul_left, add-one, arith}
use Rattle.std.proofs.Math.Option.{some}
use Rattle.std.proofs.lemmas.List.Edits.{sets}
use Rattle.std.proofs.Math.Seq.{set_out}
use Rattle.lists.specs.Lists.{flat_map}
use Rattle.lists.specs.Table.{table}
use Rattle.lists.specs.TableLaws.{length-table, get_d-table, table_is}
use Rattle.lists.specs.Stores.{sets-out}
use Rattle.page.specs.declared.filling.Laid.{Laid}
use Rattle.page.specs.declared.Clue.{Clue}
use Rattle.page.specs.Grammar.{clue}
use Rattle.page.specs.Places.{digit_at, digits_in}
use Rattle.page.specs.PageText.{ClueFit, clue-prints}
use Rattle.page.specs.Judge.{placed}

pub record Lays (a : Laid) (ds : List ℕ) (b : Laid) : Type 0 where
  pub on : (more : List ℕ) → sets b.cells b.count more ≡ sets a.cells a.count (ds ++ more)

pub digits-cons : (s : List ℕ) (a e : ℕ) → a < e → digits_in s a e ≡ digit_at s a ∷ digits_in s (a + 1) e
unfolding digits_in
digits-cons s a e h =
    sym (table_is (e - a) (λ i. digit_at s (a + i)) 0 (digit_at s a ∷ table (e - (a + 1)) (λ i. digit_at s (a + 1 + i)))
    (let k = length-table (e - (a + 1)) (λ i. digit_at s (a + 1 + i)) in omega arith) each)
  where
    each : (i : ℕ) → i < e - a
        → get_or (digit_at s a ∷ table (e - (a + 1)) (λ i. digit_at s (a + 1 + i))) i 0 ≡ digit_at s (a + i)
    each zero l = let k : a + 0 ≡ a = omega arith in rw k
    each (suc i) l =
        let k : a + 1 + i ≡ a + suc i = omega arith in
        get_d-table (e - (a + 1)) (λ i. digit_at s (a + 1 + i)) i 0 (omega arith) ∙ ap (digit_at s) k

pub filled-past : (s : List ℕ) (a e : ℕ) → e ≤ a → digits_in s a e ≡ []
unfolding digits_in table
filled-past s a e h = let k : e - a ≡ 0 = omega arith in rw k

-- the digits ds are laid after a as `out` has them, but for those of `rest`
pub record Laying (a : Laid) (ds : List ℕ) (out : Laid) (rest : List ℕ) : Type 0 where
  pub on : (more : List ℕ) → sets out.cells out.count (rest ++ more) ≡ sets a.cells a.count (ds ++ more)

pub laying-none : (a : Laid) (ds : List ℕ) → Laying a ds a ds
laying-none a ds = record { on = λ more. refl }

module _ {a : Laid} {ds : List ℕ} {out : Laid} (s : List ℕ) (p e : ℕ) (l : Laying a ds out (digits_in s p e)) where
  pub laying-full : length out.cells ≤ out.count → Lays a ds out
  laying-full h =
      record {
        on = λ more.
            sets-out out.cells out.count more h ∙
            sym (sets-out out.cells out.count (digits_in s p e ++ more) h) ∙ l.on more;
      }

  pub laying-more : p < e
      → Laying a ds (record { cells = set out.cells out.count (digit_at s p); count = out.count + 1 })
      (digits_in s (p + 1) e)
  laying-more h = record { on = λ more. rw (add-one out.count) (rw (digits-cons s p e h) at (l.on more)) }

  pub laying-end : e ≤ p → Lays a ds out
  laying-end h = record { on = λ more. rw (filled-past s p e h) at (l.on more) }

-- rows, one after the other
module _ {rows : List (List ℕ)} (m : List ℕ) (n : ℕ) where
  pub rows_end : rows ≡ [] → sets m n (flat_map (λ ds. ds) rows) ≡ m
  unfolding flat_map
  rows_end e = rw e

pub rows_on : {rows : List (List ℕ)} {ds : List ℕ} {more : List (List ℕ)} {a b : Laid} → rows ≡ ds ∷ more
    → Lays a ds b
    → sets a.cells a.count (flat_map (λ ds. ds) rows) ≡ sets b.cells b.count (flat_map (λ ds. ds) more)
unfolding flat_map
rows_on {more = more} e l = rw e (sym (l.on (flat_map (λ ds. ds) more)))

-- clues
module _ (w : ℕ) (m : List ℤ) {cs : List Clue} where
  pub placed-none : cs ≡ [] → placed w m cs ≡ m
  unfolding placed
  placed-none e = rw e

  module _ {c : Clue} {ds : List Clue} (e : cs ≡ c ∷ ds) where
    pub placed-more : placed w m cs ≡ placed w (set m (c.y * w + c.x) (pos c.n)) ds
    unfolding placed
    placed-more = rw e

    pub placed_off : length m ≤ c.y * w + c.x → placed w m cs ≡ placed w m ds
    placed_off h = placed-more ∙ rw (set_out m (c.y * w + c.x) (pos c.n) h)

-- the numbers of a clue that was read, on a page of at most 32 columns
pub record Stores (w : ℕ) (c : Clue) : Type 0 where
  pub product : c.y * w ≤ 68719476704
  pub column : c.x ≤ 2147483647
  pub number : c.n ≤ 2147483647

pub stores : (w : ℕ) (s : List ℕ) (c : Clue) (t : List ℕ) → w ≤ 32 → clue s ≡ some (c, t) → Stores w c
stores w s c t h e =
    let f : ClueFit c = (clue-prints.sound s c t e).1 in
    record {
      product = omega (arith, mul-le-mul_left c.y h, f.0);
      column = f.1.0;
      number = f.1.1;
    }
