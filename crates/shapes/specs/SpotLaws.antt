-- The places that the code reads: one more of them, the first, their bounds, and the first image in order.
use Rattle.std.specs.Prelude.{◌≡◌, refl, Bool, true, false, cond, List, [], ◌∷◌, ◌++◌, map, ℕ, zero, suc, ◌+◌, ◌<◌, ◌≤◌}
use Rattle.std.specs.Prelude.{pos, neg_ℤ, ◌+ℤ◌, length, get_or}
use Rattle.std.proofs.Common.{sym, ap, ap₂, ◌∙◌, subst, add-one, arith}
use mathlib.Core.List.Memᴰ
use Rattle.std.proofs.lemmas.List.{map-append}
use Rattle.lists.specs.Lists.{◌∈◌, all}
use Rattle.lists.specs.ListLaws.{map-find}
use Rattle.lists.specs.Table.{table}
use Rattle.lists.specs.Tests.{all_below}
use Rattle.lists.specs.TableLaws.{length-table, table-find}
use Rattle.lists.specs.AnyAll.{all-table}
use Rattle.rules.specs.Page.{Point, ◌⊕◌, opposite}
use Rattle.rules.specs.Turns.{apply}
use Rattle.rules.specs.Shapes.{before}
use Rattle.shapes.specs.PairLaws.{read_small, mag-neg, mag_sum}
use Rattle.shapes.specs.declared.Pair.{Pair}
use Rattle.shapes.specs.Pairs.{point_of, SmallPair}
use Rattle.shapes.specs.Outlines.{rows_in, columns_in, cell_count}
use Rattle.shapes.specs.Rows.{turn_at}
use Rattle.shapes.specs.Spots.{place_at, spot_at, spots, cell_spots, least_image, first_of, NearSpot, SpotIn, Spotted}
use Rattle.shapes.specs.Order.{least}

pub spots-more : (R C : List ℕ) (i : ℕ) → spots R C (i + 1) ≡ spots R C i ++ (spot_at R C i ∷ [])
unfolding spots table
spots-more R C i = rw (add-one i)

pub length-spots : (R C : List ℕ) (n : ℕ) → length (spots R C n) ≡ n
unfolding spots
length-spots R C n = length-table n (spot_at R C)

pub spots-cong : (R C S D : List ℕ) (n : ℕ) → ((i : ℕ) → i < n → spot_at R C i ≡ spot_at S D i)
    → spots R C n ≡ spots S D n
unfolding spots table
spots-cong R C S D zero e = refl
spots-cong R C S D (suc n) e =
    ap₂ (λ l p. l ++ (p ∷ [])) (spots-cong R C S D n (λ i l. e i (omega arith))) (e n (omega arith))

-- the first
first_more : (ps : List Point) (q : Point) → 1 ≤ length ps → first_of (ps ++ (q ∷ [])) ≡ first_of ps
first_more [] q h = absurd (omega arith)
first_more (p ∷ ps) q h = refl

pub first-spot : (R C : List ℕ) (n : ℕ) → 1 ≤ n → first_of (spots R C n) ≡ spot_at R C 0
unfolding spots table
first-spot R C zero h = absurd (omega arith)
first-spot R C (suc zero) h = refl
first-spot R C (suc (suc n)) h =
    first_more (spots R C (suc n)) (spot_at R C (suc n)) (rw (length-spots R C (suc n)) (omega arith))
    ∙ first-spot R C (suc n) (omega arith)

-- a test of every place
pub all-spots : (f : Point → Bool) (R C : List ℕ) (n : ℕ) → all f (spots R C n) ≡ all_below n (λ i. f (spot_at R C i))
unfolding spots
all-spots f R C n = all-table f n (spot_at R C)

-- the first image in order, one place more
least-append : (p : Point) (ps : List Point) (q : Point)
    → least p (ps ++ (q ∷ [])) ≡ cond (before q (least p ps)) q (least p ps)
unfolding least
least-append p [] q = refl
least-append p (r ∷ ps) q = least-append (cond (before r p) r p) ps q

pub least-one : (r : ℕ) (R C : List ℕ) → least_image r (spots R C 1) ≡ apply (turn_at r) (spot_at R C 0)
unfolding least_image spots table least
least-one r R C = refl

pub least_more : (r : ℕ) (R C : List ℕ) (i : ℕ) → 1 ≤ i → let q : Point = apply (turn_at r) (spot_at R C i) in
    least_image r (spots R C (i + 1))
    ≡ cond (before q (least_image r (spots R C i))) q (least_image r (spots R C i))
unfolding least_image
least_more r R C i h =
    ap (least_image r) (spots-more R C i)
    ∙ go (spots R C i) (rw (length-spots R C i) h)
  where
    go : (ps : List Point) → 1 ≤ length ps → let q : Point = apply (turn_at r) (spot_at R C i) in
        least_image r (ps ++ (spot_at R C i ∷ [])) ≡ cond (before q (least_image r ps)) q (least_image r ps)
    go [] l = absurd (omega arith)
    go (p ∷ ps) l =
        ap (least (apply (turn_at r) p)) (map-append (apply (turn_at r)) ps (spot_at R C i ∷ []))
        ∙ least-append (apply (turn_at r) p) (map (apply (turn_at r)) ps) (apply (turn_at r) (spot_at R C i))

-- what holds of every image holds of the first
least-has : (Q : Point → Type 0) (p : Point) (ps : List Point) → Q p → ((q : Point) → q ∈ ps → Q q) → Q (least p ps)
unfolding least
least-has Q p [] a f = a
least-has Q p (q ∷ ps) a f =
    least-has Q (cond (before q p) q p) ps (go (before q p)) (λ z m. f z (Memᴰ.tail m))
  where
    go : (b : Bool) → Q (cond b q p)
    go true = f q (Memᴰ.head refl)
    go false = a

pub near-image : (r y x : ℕ) → y < 32 → x < 32 → NearSpot (apply (turn_at r) (place_at y x))
unfolding apply
near-image r y x a b =
    let t = turn_at r in
    record {
      layer = read_small t.layers (place_at y x) 32 (omega arith) a b;
      row = read_small t.rows (place_at y x) 32 (omega arith) a b;
      column = read_small t.columns (place_at y x) 32 (omega arith) a b;
    }

near-spots : (r : ℕ) (R C : List ℕ) (n : ℕ) → 1 ≤ n → ((i : ℕ) → i < n → get_or R i 0 < 32)
    → ((i : ℕ) → i < n → get_or C i 0 < 32) → NearSpot (least_image r (spots R C n))
unfolding least_image spots
near-spots r R C n some down across = go (spots R C n) (λ p m. m) (rw (length-spots R C n) some)
  where
    near : (p : Point) → p ∈ spots R C n → NearSpot (apply (turn_at r) p)
    near p m =
        let e = table-find n (spot_at R C) m in
        subst (λ (q : Point). NearSpot (apply (turn_at r) q)) (sym e.2)
        (near-image r (get_or R e.0 0) (get_or C e.0 0) (down e.0 e.1) (across e.0 e.1))

    go : (ps : List Point) → ((p : Point) → p ∈ ps → p ∈ spots R C n) → 1 ≤ length ps → NearSpot (least_image r ps)
    go [] f l = absurd (omega arith)
    go (p ∷ ps) f l =
        least-has NearSpot (apply (turn_at r) p) (map (apply (turn_at r)) ps) (near p (f p (Memᴰ.head refl)))
        (λ q m. let e = map-find (apply (turn_at r)) ps m in
        subst NearSpot (sym e.2) (near e.0 (f e.0 (Memᴰ.tail e.1))))

pub near-least : (r : ℕ) (o : List ℕ) → Spotted o → NearSpot (least_image r (cell_spots o))
near-least r o s = near-spots r (rows_in o) (columns_in o) (cell_count o) s.some s.down s.across

pub spot_in : {o : List ℕ} {i : ℕ} → Spotted o → i < cell_count o → SpotIn o i
spot_in {o} {i} s l = record { inside = omega (arith, s.most); down = s.down i l; across = s.across i l }

-- one image more is compared
pub earlier_more : (r : ℕ) (R C : List ℕ) (i : ℕ) (p q e : Pair) → 1 ≤ i
    → point_of p ≡ apply (turn_at r) (spot_at R C i) → point_of q ≡ least_image r (spots R C i)
    → e ≡ cond (before (point_of p) (point_of q)) p q → point_of e ≡ least_image r (spots R C (i + 1))
earlier_more r R C i p q e h a b c =
    ap point_of c
    ∙ (go (before (point_of p) (point_of q))
    ∙ (ap₂ (λ x y. cond (before x y) x y) a b ∙ sym (least_more r R C i h)))
  where
    go : (t : Bool) → point_of (cond t p q) ≡ cond t (point_of p) (point_of q)
    go true = refl
    go false = refl

-- a place of the code that is near has small coordinates
pub near-small : (p : Pair) {q : Point} → point_of p ≡ q → NearSpot q → SmallPair p
near-small p e n =
    let k = subst NearSpot (sym e) n in
    record { down = omega (arith, k.row); across = omega (arith, k.column) }

pub shift_small : (v m : Pair) {q : Point} (y x : ℕ) → point_of v ≡ opposite (point_of m) ⊕ place_at y x
    → point_of m ≡ q
    → NearSpot q → y < 32 → x < 32 → SmallPair v
unfolding ◌⊕◌ opposite
shift_small v m y x e d n a b =
    let k = subst NearSpot (sym d) n in
    let f : v.y ≡ neg_ℤ m.y +ℤ pos y = ap (λ p. p.row) e in
    let g : v.x ≡ neg_ℤ m.x +ℤ pos x = ap (λ p. p.column) e in
    record {
      down = rw f (omega (arith, k.row, mag-neg m.y, mag_sum (neg_ℤ m.y) (pos y)));
      across = rw g (omega (arith, k.column, mag-neg m.x, mag_sum (neg_ℤ m.x) (pos x)));
    }
