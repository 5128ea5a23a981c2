-- A row of the table and a raised shift make a unit's image, and all its connections can be raised.
use Rattle.std.specs.Prelude.{◌≡◌, Bool, true, false, cond, List, [], ◌∷◌, map, ℕ, zero, suc, ◌+◌, ◌-◌, ◌*◌, ◌%◌, ◌<◌}
use Rattle.std.specs.Prelude.{◌≤◌, ℤ, pos, negsuc, neg_ℤ, ◌+ℤ◌, ◌-ℤ◌, length, get_or}
use Rattle.std.proofs.Math.Path.{refl, sym, ap}
use Rattle.std.proofs.Common.{ap₂, ◌∙◌, subst, arith, le-ltb, to_z, of_z}
use mathlib.Core.List.Memᴰ
use Rattle.std.proofs.Math.IntN.{+ℤ_comm, +ℤ-neg_ℤ_cancel}
use Rattle.std.specs.Int.Signed.{mag, lt_z}
use Rattle.std.specs.Int.{w8}
use Rattle.lists.specs.Lists.{◌∈◌}
use Rattle.lists.specs.ListLaws.{map-find}
use Rattle.lists.specs.TableLaws.{table-find}
use Rattle.lists.specs.Maps.{map-map}
use Rattle.lists.specs.Booleans.{false-true}
use Rattle.rules.specs.Page.{Point, ◌⊕◌, opposite}
use Rattle.rules.specs.Turns.{signed, apply}
use Rattle.rules.specs.Shapes.{shift_by, shape_of}
use Rattle.rules.specs.Flat.{flat}
use Rattle.rules.specs.Groups.{entry}
use Rattle.laws.specs.PointLaws.{point-eq}
use Rattle.laws.specs.SortLaws.{sort-mem}
use Rattle.groups.specs.declared.Grouping.{Grouping}
use Rattle.groups.specs.Grouping.{numbers_in}
use Rattle.shapes.specs.declared.Pair.{Pair}
use Rattle.shapes.specs.declared.Signs.{Signs}
use Rattle.shapes.specs.Pairs.{point_at, point_of, sign_of, signs_of}
use Rattle.shapes.specs.Rows.{turn_at, image}
use Rattle.shapes.specs.Spots.{place_at, spot_at, spots, cell_spots, joint_spots, least_image, NearSpot, Spotted}
use Rattle.shapes.specs.Spots.{UnitAt}
use Rattle.shapes.specs.SpotLaws.{length-spots, near-least}
use Rattle.shapes.specs.FixLaws.{least-image}
use Rattle.shapes.specs.UnitLaws.{image-joints}
use Rattle.shapes.specs.Joints.{OutlineJoined}
use Rattle.shapes.specs.JointLaws.{joint-in}
use Rattle.shapes.specs.Raising.{lowered, raised, turn_of, moved_by, Lifts, Turnable}
use Rattle.shapes.specs.Images.{raise_of, image_joints, Jointed}
use Rattle.shapes.specs.Outlines.{rows_in, columns_in, down_in, across_in, cell_count, joint_count}

-- the raised shift
pub raise-sum : (v : ℤ) → mag v < 33 → pos 64 +ℤ (neg_ℤ v +ℤ neg_ℤ v) ≡ pos (raise_of v)
raise-sum (pos zero) h = refl
raise-sum (pos (suc a)) h =
    rw (le-ltb 64 (suc (suc (a + a))) (omega arith))
    (let e : 64 - suc (suc (a + a)) ≡ 64 - 2 * suc a = omega arith in ap pos e)
raise-sum (negsuc a) h = let e : 64 + (suc a + suc a) ≡ 66 + 2 * a = omega arith in ap pos e

pub raise-small : (v : ℤ) → mag v < 33 → raise_of v < 256
raise-small (pos a) h = omega arith
raise-small (negsuc a) h = omega arith

pub lower-raise : (v : ℤ) → mag v < 33 → lowered (raise_of v) ≡ neg_ℤ v +ℤ neg_ℤ v
lower-raise v h =
    ap (λ (z : ℤ). z -ℤ pos 64) (sym (raise-sum v h) ∙ +ℤ_comm (pos 64) (neg_ℤ v +ℤ neg_ℤ v))
    ∙ +ℤ-neg_ℤ_cancel (neg_ℤ v +ℤ neg_ℤ v) (pos 64)

raise-lifts : (minus : Bool) (a d : ℕ) → a < 32 → d < 64 → Lifts minus (raise_of (signed minus (pos a))) d
raise-lifts true zero d h k =
    record { small = omega arith; down = λ e. omega arith; up = λ e. false-true e refl }
raise-lifts true (suc a) d h k =
    record { small = omega arith; down = λ e. omega arith; up = λ e. false-true e refl }
raise-lifts false a d h k =
    record { small = omega arith; down = λ e. false-true refl e; up = λ e. omega arith }

raise-low : (minus : Bool) (a : ℕ) → a < 32 → raise_of (signed minus (pos a)) < 128
raise-low true zero h = omega arith
raise-low true (suc a) h = omega arith
raise-low false a h = omega arith

raise-even : (minus : Bool) (a : ℕ) → a < 32 → raise_of (signed minus (pos a)) % 2 ≡ 0
raise-even true zero h = refl
raise-even true (suc a) h = omega arith
raise-even false a h = omega arith

-- the table
row-turn : (r : ℕ) → turn_at r
    ≡ turn_of (signs_of (turn_at r)).swap (turn_at r).rows.minus (turn_at r).columns.minus
row-turn zero = refl
row-turn (suc zero) = refl
row-turn (suc (suc zero)) = refl
row-turn (suc (suc (suc zero))) = refl
row-turn (suc (suc (suc (suc zero)))) = refl
row-turn (suc (suc (suc (suc (suc zero))))) = refl
row-turn (suc (suc (suc (suc (suc (suc zero)))))) = refl
row-turn (suc (suc (suc (suc (suc (suc (suc zero))))))) = refl
row-turn (suc (suc (suc (suc (suc (suc (suc (suc r)))))))) = refl

-- the sign of a coordinate changes where the code's sign is below 0
abbrev pub below : ℤ → Bool
below z = lt_z (to_z w8 (of_z w8 z)) (pos 0)

sign_below : (minus : Bool) → below (sign_of minus) ≡ minus
sign_below true = refl
sign_below false = refl

read-turn : (r : ℕ) (s : Signs) → s ≡ signs_of (turn_at r)
    → turn_at r ≡ turn_of s.swap (below s.down) (below s.across)
read-turn r s e =
    row-turn r
    ∙ (ap₂ (turn_of (signs_of (turn_at r)).swap) (sym (sign_below (turn_at r).rows.minus))
    (sym (sign_below (turn_at r).columns.minus))
    ∙ ap (λ q. turn_of q.swap (below q.down) (below q.across)) (sym e))

turn-place : (swap up left : Bool) (y x : ℕ)
    → apply (turn_of swap up left) (place_at y x)
    ≡ point_at (signed up (pos (cond swap x y))) (signed left (pos (cond swap y x)))
unfolding apply
turn-place true up left y x = refl
turn-place false up left y x = refl

-- the first image is the image of a cell
least-in : (r : ℕ) (ps : List Point) → 1 ≤ length ps → least_image r ps ∈ map (apply (turn_at r)) ps
least-in r [] h = absurd (omega arith)
least-in r (p ∷ ps) h =
    let q = least-image r p ps in
    sort-mem (map (apply (turn_at r)) (p ∷ ps))
    (subst (λ (l : List Point). least_image r (p ∷ ps) ∈ l) (sym q.1) (Memᴰ.head refl))

least-of : (r : ℕ) (R C : List ℕ) (n : ℕ) → 1 ≤ n
    → (i : ℕ) × (i < n) × (least_image r (spots R C n) ≡ apply (turn_at r) (spot_at R C i))
unfolding spots
least-of r R C n h =
    let m = map-find (apply (turn_at r)) (spots R C n) (least-in r (spots R C n) (rw (length-spots R C n) h)) in
    let t = table-find n (spot_at R C) m.1 in
    (t.0, t.1, m.2 ∙ ap (apply (turn_at r)) t.2)

either : (u : Bool) (D A : List ℕ) (i : ℕ) → get_or D i 0 < 64 → get_or A i 0 < 64 → get_or (cond u A D) i 0 < 64
either true D A i h k = k
either false D A i h k = h

one : (u : Bool) (y x : ℕ) → y < 32 → x < 32 → cond u x y < 32
one true y x h k = k
one false y x h k = h

module _ (r : ℕ) (o : List ℕ) (s : Spotted o) (p : Pair) (first : point_of p ≡ least_image r (cell_spots o)) where
  near : NearSpot (point_of p)
  near = subst NearSpot (sym first) (near-least r o s)

  pub down-near : mag p.y < 33
  down-near = near.row

  pub across-near : mag p.x < 33
  across-near = near.column

module _ (r : ℕ) (o : List ℕ) (s : Spotted o) (j : Jointed o) (p : Pair)
    (first : point_of p ≡ least_image r (cell_spots o)) (t : Signs) (e : t ≡ signs_of (turn_at r)) where
  abbrev R : List ℕ
  R = rows_in o

  abbrev C : List ℕ
  C = columns_in o

  abbrev n : ℕ
  n = cell_count o

  abbrev D : List ℕ
  D = down_in o

  abbrev A : List ℕ
  A = across_in o

  abbrev swap : Bool
  swap = t.swap

  abbrev up : Bool
  up = below t.down

  abbrev left : Bool
  left = below t.across

  abbrev cell : ℕ
  cell = (least-of r R C n s.some).0

  abbrev down : ℕ
  down = cond swap (get_or C cell 0) (get_or R cell 0)

  abbrev across : ℕ
  across = cond swap (get_or R cell 0) (get_or C cell 0)

  at : point_of p ≡ point_at (signed up (pos down)) (signed left (pos across))
  at =
      first ∙ ((least-of r R C n s.some).2
      ∙ (ap (λ q. apply q (spot_at R C cell)) (read-turn r t e)
      ∙ turn-place swap up left (get_or R cell 0) (get_or C cell 0)))

  down_is : p.y ≡ signed up (pos down)
  down_is = ap (λ q. q.row) at

  across-is : p.x ≡ signed left (pos across)
  across-is = ap (λ q. q.column) at

  down-low : down < 32
  down-low =
      let i = (least-of r R C n s.some).1 in
      one swap (get_or R cell 0) (get_or C cell 0) (s.down cell i) (s.across cell i)

  across-low : across < 32
  across-low =
      let i = (least-of r R C n s.some).1 in
      one swap (get_or C cell 0) (get_or R cell 0) (s.across cell i) (s.down cell i)

  pub turnable : Turnable swap up left (raise_of p.y) (raise_of p.x) (down_in o) (across_in o) (joint_count o)
  turnable =
      record {
        few = j.few;
        low = (
          subst (λ (v : ℤ). raise_of v < 128) (sym down_is) (raise-low up down down-low),
          subst (λ (v : ℤ). raise_of v < 128) (sym across-is) (raise-low left across across-low),
        );
        even = (
          subst (λ (v : ℤ). raise_of v % 2 ≡ 0) (sym down_is) (raise-even up down down-low),
          subst (λ (v : ℤ). raise_of v % 2 ≡ 0) (sym across-is) (raise-even left across across-low),
        );
        rows =
            λ i l.
            subst (λ (v : ℤ). Lifts up (raise_of v) (get_or (cond swap A D) i 0)) (sym down_is)
            (raise-lifts up down (get_or (cond swap A D) i 0) down-low
            (either swap D A i (j.each i l).down (j.each i l).across));
        columns =
            λ i l.
            subst (λ (v : ℤ). Lifts left (raise_of v) (get_or (cond swap D A) i 0)) (sym across-is)
            (raise-lifts left across (get_or (cond swap D A) i 0) across-low
            (either swap A D i (j.each i l).across (j.each i l).down));
        odd = λ i l. (j.each i l).odd;
      }

  raised-back : raised (raise_of p.y) (raise_of p.x)
      ≡ opposite (least_image r (cell_spots o)) ⊕ opposite (least_image r (cell_spots o))
  unfolding ◌⊕◌ opposite
  raised-back =
      point-eq {q = opposite (point_of p) ⊕ opposite (point_of p)} refl (lower-raise p.y (down-near r o s p first))
      (lower-raise p.x (across-near r o s p first))
      ∙ ap (λ q. opposite q ⊕ opposite q) first

  pub moved-image : moved_by (apply (turn_of swap up left)) (raised (raise_of p.y) (raise_of p.x)) (joint_spots o)
      ≡ image_joints r (cell_spots o) (joint_spots o)
  unfolding moved_by image_joints shift_by
  moved-image =
      let v = opposite (least_image r (cell_spots o)) ⊕ opposite (least_image r (cell_spots o)) in
      ap (λ q. moved_by (apply q) (raised (raise_of p.y) (raise_of p.x)) (joint_spots o)) (sym (read-turn r t e))
      ∙ (ap (λ q. moved_by (apply (turn_at r)) q (joint_spots o)) raised-back
      ∙ sym (map-map (λ q. q ⊕ v) (apply (turn_at r)) (joint_spots o)))

-- the connections of a unit's image
pub image-is : {h w g : ℕ} {units : Grouping} {o : List ℕ} → UnitAt h w units g o → OutlineJoined h w units g o
    → (r : ℕ) → (image r (shape_of (flat h w) (entry (numbers_in units)) g)).connections
    ≡ image_joints r (cell_spots o) (joint_spots o)
unfolding image_joints
image-is {h} {w} {g} {units} {o} u j r =
    let P = cell_spots o in
    image-joints h w (entry (numbers_in units)) g u.sized.columns P u.here
    (rw (length-spots (rows_in o) (columns_in o) (cell_count o)) u.spotted.some) r
    ∙ ap (λ js. shift_by (opposite (least_image r P) ⊕ opposite (least_image r P)) (map (apply (turn_at r)) js))
    (sym j.here)

pub jointed : {h w g : ℕ} {units : Grouping} {o : List ℕ} → UnitAt h w units g o → OutlineJoined h w units g o
    → Jointed o
jointed u j = record { few = j.few; each = λ i l. joint-in i u.sized j l }
