-- Connections written one after the other.
use Rattle.std.specs.Prelude.{◌≡◌, refl, Bool, true, false, ◌&&◌, List, [], ◌∷◌, ◌++◌, ◌⊎◌, ℕ, ◌+◌, ◌*◌, ◌<◌, ◌≤◌, ◌/◌}
use Rattle.std.specs.Prelude.{◌%◌, eqb, ltb, length, get_or, set, nat_abs, Option, Some, IfSome}
use Rattle.std.specs.Bool.{then_some}
use Rattle.std.proofs.Common.{sym, ap, ap₂, ◌∙◌, subst, append_assoc, append-nil, inl, inr, arith, mod-lt}
use Rattle.std.proofs.Common.{div-lt_iff_lt-mul, div-add-mod', length-set, length-append, get_or-set_same}
use Rattle.std.proofs.Common.{get_or-set_other}
use mathlib.Core.List.Memᴰ
use borrow.Author.Tests.{eq-eqb, ne_eqb, ltb-true}
use Rattle.lists.specs.ListLaws.{flat-find, filter-mem}
use Rattle.lists.specs.Lists.{flat_map, ◌∈◌, range}
use Rattle.lists.specs.Sections.{Only}
use Rattle.lists.specs.SectionLaws.{section-at, section-length, section-set, section-low, section-high, front_at}
use Rattle.lists.specs.SectionLaws.{only_none, only_set, only-before, only-past, only_then}
use Rattle.lists.specs.Table.{table}
use Rattle.lists.specs.Ranges.{range-lt}
use Rattle.lists.specs.TableLaws.{flat-table}
use Rattle.rules.specs.Turns.{apply, read}
use Rattle.rules.specs.Page.{Point}
use Rattle.rules.specs.Groups.{entry, members}
use Rattle.rules.specs.Flat.{Sized, flat}
use Rattle.rules.specs.Shapes.{connections_at}
use Rattle.laws.specs.FlatLaws.{counts, spot}
use Rattle.groups.specs.declared.Grouping.{Grouping}
use Rattle.groups.specs.Grouping.{numbers_in}
use Rattle.shapes.specs.declared.Pair.{Pair}
use Rattle.shapes.specs.PairLaws.{read_small}
use Rattle.shapes.specs.Pairs.{point_of, SmallPair}
use Rattle.shapes.specs.Rows.{turn_at}
use Rattle.shapes.specs.PartLaws.{mem-spots}
use Rattle.shapes.specs.Outlines.{rows_in, columns_in, down_in, across_in, cell_count, joint_count}
use Rattle.shapes.specs.Spots.{place_at, spots, joint_spot, joints, UnitAt}
use Rattle.shapes.specs.SpotLaws.{spots-more, spots-cong, length-spots}
use Rattle.shapes.specs.ConnectionLaws.{connections-at, unit_cells_lem}
use Rattle.shapes.specs.Joints.{joint_if, joined_to, JointRoom, Grown, Joining, OutlineJoined, JointIn}

pub grown-none : (o : List ℕ) (k : ℕ) → Grown o k [] o k
grown-none o k = record { only = only_none 2048 6144 o; here = sym (append-nil (spots (down_in o) (across_in o) k)) }

-- the outline with connection k stored
abbrev pub noted : List ℕ → ℕ → ℕ → ℕ → List ℕ
noted o k y x = set (set o (2048 + k) y) (4096 + k) x

module _ (o : List ℕ) (k y x : ℕ) (r : JointRoom o k) where
  abbrev D : List ℕ
  D = down_in o

  abbrev A : List ℕ
  A = across_in o

  downs : down_in (noted o k y x) ≡ set D k y
  downs =
      section-high 2048 2048 (set o (2048 + k) y) (4096 + k) x (omega arith)
      ∙ section-set 2048 2048 o k y r.space

  acrosses : across_in (noted o k y x) ≡ set A k x
  acrosses =
      section-set 4096 2048 (set o (2048 + k) y) k x r.space
      ∙ ap (λ (l : List ℕ). set l k x) (section-low 4096 2048 o (2048 + k) y (omega (arith, r.space)))

  pub grown-one : Grown o k (place_at y x ∷ []) (noted o k y x) (k + 1)
  grown-one =
      record {
        only =
            only_set (only_set (only_none 2048 6144 o) (2048 + k) y (omega arith) (omega (arith, r.space))) (4096 + k)
            x (omega arith) (omega (arith, r.space));
        here =
            rw (downs, acrosses)
            (spots-more (set D k y) (set A k x) k
            ∙ ap₂ (λ l p. l ++ (p ∷ []))
            (spots-cong (set D k y) (set A k x) D A k
            (λ i l. ap₂ place_at (get_or-set_other D k i y 0 (λ e. omega arith))
            (get_or-set_other A k i x 0 (λ e. omega arith))))
            (ap₂ place_at
            (get_or-set_same D k y 0 (omega (arith, r.space, section-length 2048 2048 o (omega (arith, r.long)))))
            (get_or-set_same A k x 0 (omega (arith, r.space, section-length 4096 2048 o (omega (arith, r.long)))))));
      }

pub grown-then : {o o' o'' : List ℕ} {k l r : ℕ} (js ks : List Point) → Grown o k js o' l
    → Grown o' l ks o'' r → Grown o k (js ++ ks) o'' r
grown-then {o} {k = k} js ks a b =
    record {
      only = only_then a.only b.only;
      here = b.here ∙ (ap (λ l. l ++ ks) a.here ∙ append_assoc (spots (down_in o) (across_in o) k) js ks);
    }

pub grown-count : {o o' : List ℕ} {k r : ℕ} {js : List Point} → Grown o k js o' r → r ≡ k + length js
grown-count {o} {o'} {k} {r} {js} a =
    let before = spots (down_in o) (across_in o) k in
    sym (length-spots (down_in o') (across_in o') r)
    ∙ (ap length a.here
    ∙ (length-append before js ∙ ap (λ n. n + length js) (length-spots (down_in o) (across_in o) k)))

pub joint-one : (b : Bool) (y x : ℕ) → length (joint_if b y x) ≤ 1
joint-one true y x = omega arith
joint-one false y x = omega arith

-- the tests of the code, one law for each answer
module _ (o : List ℕ) (k : ℕ) (ids : List ℕ) (g y x : ℕ) where
  pub join-yes : (c : ℕ) {m : ℕ} → JointRoom o k → m ≡ get_or ids c 0 → m ≡ g
      → Grown o k (joint_if (joined_to (entry ids) g (Some c)) y x) (noted o k y x) (k + 1)
  unfolding entry
  join-yes c {m} r a b = rw (eq-eqb (get_or ids c 0) g (sym a ∙ b)) (grown-one o k y x r)

  pub join-no : (c : ℕ) {m : ℕ} → m ≡ get_or ids c 0 → (m ≡ g → ⊥)
      → Grown o k (joint_if (joined_to (entry ids) g (Some c)) y x) o k
  unfolding entry
  join-no c {m} a b = rw (ne_eqb (get_or ids c 0) g (λ e. b (a ∙ e))) (grown-none o k)

-- a neighbour that a test gives
joined-then : (number : ℕ → ℕ) (g : ℕ) (t : Bool) (c : ℕ) → joined_to number g (then_some t c) ≡ (t && eqb (number c) g)
joined-then number g true c = refl
joined-then number g false c = refl

pub some-room : {to : Option ℕ} (t : Bool) (c : ℕ) → to ≡ then_some t c → (t ≡ true → c < 1024)
    → IfSome to (λ n. n < 1024)
some-room true c e h = rw e (h refl)
some-room false c e h = rw e tt

-- a cell and its neighbours below and right are among the 1,024 numbers
pub cell_room : {h w y x : ℕ} → Sized h w → y < h → x < w
    → (y * w + x < 1024) × (ltb (y + 1) h ≡ true → y * w + x + w < 1024) × (ltb (x + 1) w ≡ true → y * w + x + 1 < 1024)
cell_room {h} {w} {y} {x} s a b =
    let n = (counts s).cells in
    let p = spot h w y x a b in (
      omega (arith, p.cell),
      λ t. let l : y + 1 < h = ltb-true (y + 1) h t in omega (arith, p.lower l, p.next),
      λ t. let l : x + 1 < w = ltb-true (x + 1) w t in omega (arith, p.beside l),
    )

pub joints-are : {o o' o'' : List ℕ} {k l r : ℕ} {a b : Option ℕ} (h w : ℕ) (number : ℕ → ℕ) (g y x : ℕ) → x < w
    → a ≡ then_some (ltb (y + 1) h) (y * w + x + w) → b ≡ then_some (ltb (x + 1) w) (y * w + x + 1)
    → Grown o k (joint_if (joined_to number g a) (2 * y + 1) (2 * x)) o' l
    → Grown o' l (joint_if (joined_to number g b) (2 * y) (2 * x + 1)) o'' r
    → Grown o k (connections_at (flat h w) number g (y * w + x)) o'' r
joints-are {o} {o'' = o''} {k = k} {r = r} {a} {b} h w number g y x i d e p q =
    let below = ltb (y + 1) h in
    let right = ltb (x + 1) w in
    subst (λ (js : List Point). Grown o k js o'' r)
    (ap₂ (λ s t. joint_if s (2 * y + 1) (2 * x) ++ joint_if t (2 * y) (2 * x + 1))
    (ap (joined_to number g) d ∙ joined-then number g below (y * w + x + w))
    (ap (joined_to number g) e ∙ joined-then number g right (y * w + x + 1))
    ∙ sym (connections-at h w number g (y * w + x) y x refl i))
    (grown-then (joint_if (joined_to number g a) (2 * y + 1) (2 * x))
    (joint_if (joined_to number g b) (2 * y) (2 * x + 1)) p q)

-- the loop over the cells
pub joining-none : (h w : ℕ) (number : ℕ → ℕ) (g : ℕ) (o : List ℕ) → Joining h w number g o o 0 0
unfolding spots table flat_map
joining-none h w number g o = record { only = only_none 2048 6144 o; few = omega arith; here = refl }

few-joints : (h w : ℕ) (number : ℕ → ℕ) (g y x : ℕ) → x < w
    → length (connections_at (flat h w) number g (y * w + x)) ≤ 2
few-joints h w number g y x l =
    let a = ltb (y + 1) h && eqb (number (y * w + x + w)) g in
    let b = ltb (x + 1) w && eqb (number (y * w + x + 1)) g in
    rw (
      connections-at h w number g (y * w + x) y x refl l,
      length-append (joint_if a (2 * y + 1) (2 * x)) (joint_if b (2 * y) (2 * x + 1)),
    )
    (omega (arith, joint-one a (2 * y + 1) (2 * x), joint-one b (2 * y) (2 * x + 1)))

pub joining-more : {o₀ o o' : List ℕ} {k l : ℕ} (h w : ℕ) (number : ℕ → ℕ) (g i : ℕ) {y x : ℕ}
    → Joining h w number g o₀ o k i → y ≡ get_or (rows_in o₀) i 0 → x ≡ get_or (columns_in o₀) i 0 → x < w
    → Grown o k (connections_at (flat h w) number g (y * w + x)) o' l → Joining h w number g o₀ o' l (i + 1)
joining-more {o₀} {o} {o'} {k} {l} h w number g i {y} {x} j d e b n =
    let c : y * w + x ≡ get_or (rows_in o₀) i 0 * w + get_or (columns_in o₀) i 0 = ap₂ (λ s t. s * w + t) d e in
    record {
      only = only_then j.only n.only;
      few = omega (arith, grown-count n, few-joints h w number g y x b, j.few);
      here =
          n.here
          ∙ (ap₂ (λ ps m. ps ++ connections_at (flat h w) number g m) j.here c
          ∙ sym (flat-table (connections_at (flat h w) number g) i
          (λ j. get_or (rows_in o₀) j 0 * w + get_or (columns_in o₀) j 0)));
    }

-- a cell's row and column are read from the outline while its connections are written
module _ {o₀ o : List ℕ} (only : Only 2048 6144 o₀ o) (i : ℕ) (h : i < 1024) where
  pub row_read : get_or o i 0 ≡ get_or (rows_in o₀) i 0
  row_read = front_at 1024 o i h ∙ ap (λ (l : List ℕ). get_or l i 0) (only-before only 0 1024 (omega arith))

  pub column-read : get_or o (1024 + i) 0 ≡ get_or (columns_in o₀) i 0
  column-read =
      section-at 1024 1024 o i h ∙ ap (λ (l : List ℕ). get_or l i 0) (only-before only 1024 1024 (omega arith))

-- the unit's cells stay as they were while its connections are written, and their count
module _ {h w g : ℕ} {units : Grouping} {o₀ o : List ℕ} (u : UnitAt h w units g o₀) (only : Only 2048 6144 o₀ o)
    (k : ℕ) where
  abbrev ended : List ℕ
  ended = set o 6145 k

  rows_stay : rows_in ended ≡ rows_in o₀
  rows_stay = section-high 0 1024 o 6145 k (omega arith) ∙ only-before only 0 1024 (omega arith)

  columns-stay : columns_in ended ≡ columns_in o₀
  columns-stay = section-high 1024 1024 o 6145 k (omega arith) ∙ only-before only 1024 1024 (omega arith)

  count-stays : cell_count ended ≡ cell_count o₀
  count-stays = get_or-set_other o 6145 6144 k 0 (λ e. omega arith) ∙ only-past only 6144 (omega arith)

  pub unit-stays : UnitAt h w units g (set o 6145 k)
  unit-stays =
      record {
        sized = u.sized;
        long = u.long;
        spotted =
            record {
              long = length-set o 6145 k ∙ (only.long ∙ u.spotted.long);
              some = rw count-stays u.spotted.some;
              most = rw count-stays u.spotted.most;
              down = rw (rows_stay, count-stays) u.spotted.down;
              across = rw (columns-stay, count-stays) u.spotted.across;
            };
        here = rw (rows_stay, columns-stay, count-stays) u.here;
      }

pub joining-all : {units : Grouping} {o₀ o : List ℕ} {h w g k i : ℕ} → UnitAt h w units g o₀ → i ≤ cell_count o₀
    → cell_count o₀ ≤ i
    → Joining h w (entry (numbers_in units)) g o₀ o k i → OutlineJoined h w units g (set o 6145 k)
unfolding joints
joining-all {units} {o₀} {o} {h} {w} {g} {k} {i} u a b j =
    let e : i ≡ cell_count o₀ = omega arith in
    let n : joint_count (set o 6145 k) ≡ k =
    get_or-set_same o 6145 k 0 (omega (arith, j.only.long, u.spotted.long)) in
    let number = entry (numbers_in units) in
    record {
      few = rw n (omega (arith, j.few, u.spotted.most));
      here =
          rw (n, section-high 2048 2048 o 6145 k (omega arith), section-high 4096 2048 o 6145 k (omega arith))
          (j.here
          ∙ (ap (λ m. flat_map (connections_at (flat h w) number g)
          (table m (λ j. get_or (rows_in o₀) j 0 * w + get_or (columns_in o₀) j 0))) e
          ∙ ap (flat_map (connections_at (flat h w) number g)) (sym (unit_cells_lem u))));
    }

-- the image of a doubled place is small
pub turned-small : (r : ℕ) (p : Pair) (y x : ℕ) → point_of p ≡ apply (turn_at r) (place_at y x) → y < 64 → x < 64
    → SmallPair p
unfolding apply
turned-small r p y x e a b =
    let t = turn_at r in
    let c : p.y ≡ read t.rows (place_at y x) = ap (λ q. q.row) e in
    let d : p.x ≡ read t.columns (place_at y x) = ap (λ q. q.column) e in
    record {
      down = rw c (omega (arith, read_small t.rows (place_at y x) 64 (omega arith) a b));
      across = rw d (omega (arith, read_small t.columns (place_at y x) 64 (omega arith) a b));
    }

-- a connection adds up two places of the page
joint-mem : (b : Bool) (Y X y x : ℕ) → place_at y x ∈ joint_if b Y X → (y ≡ Y) × (x ≡ X)
joint-mem true Y X y x m =
    let e = Memᴰ.eq_of_singleton m in (ap (λ q. nat_abs q.row) e, ap (λ q. nat_abs q.column) e)
joint-mem false Y X y x m = absurd (Memᴰ.not-nil m)

near-joint : (h w : ℕ) (number : ℕ → ℕ) (g y x Y X : ℕ) → y < 32 → x < w → w ≤ 32
    → place_at Y X ∈ connections_at (flat h w) number g (y * w + x) → (Y < 64) × (X < 64) × (Y % 2 + X % 2 ≡ 1)
near-joint h w number g y x Y X a b c m =
    go (Memᴰ.append_cases (joint_if p (2 * y + 1) (2 * x))
    (subst (λ (ps : List Point). place_at Y X ∈ ps) (connections-at h w number g (y * w + x) y x refl b) m))
  where
    p : Bool
    p = ltb (y + 1) h && eqb (number (y * w + x + w)) g

    q : Bool
    q = ltb (x + 1) w && eqb (number (y * w + x + 1)) g

    go : place_at Y X ∈ joint_if p (2 * y + 1) (2 * x) ⊎ place_at Y X ∈ joint_if q (2 * y) (2 * x + 1)
        → (Y < 64) × (X < 64) × (Y % 2 + X % 2 ≡ 1)
    go (inl n) = let e = joint-mem p (2 * y + 1) (2 * x) Y X n in
        (omega (arith, e.0), omega (arith, e.1), omega (arith, e.0, e.1))
    go (inr n) = let e = joint-mem q (2 * y) (2 * x + 1) Y X n in
        (omega (arith, e.0), omega (arith, e.1), omega (arith, e.0, e.1))

pub joint-in : {h w g : ℕ} {units : Grouping} {o : List ℕ} (j : ℕ) → Sized h w → OutlineJoined h w units g o
    → j < joint_count o
    → JointIn o j
unfolding joints members flat
joint-in {h} {w} {g} {units} {o} j s n l =
    let number = entry (numbers_in units) in
    let e = flat-find (connections_at (flat h w) number g) (members (flat h w) number g)
    (subst (λ (ps : List Point). joint_spot o j ∈ ps) n.here
    (mem-spots (down_in o) (across_in o) (joint_count o) j l)) in
    let c = e.0 in
    let i : c < h * w = range-lt (h * w) (filter-mem (λ x. eqb (number x) g) (range (h * w)) e.1) in
    let y : c / w < h = (div-lt_iff_lt-mul {k = w} (omega (arith, s.columns))).1 i in
    let b = near-joint h w number g (c / w) (c % w) (get_or (down_in o) j 0) (get_or (across_in o) j 0)
    (omega (arith, s.tall)) (mod-lt c (omega (arith, s.columns))) s.broad (rw (div-add-mod' c w) e.2) in
    record { inside = omega (arith, n.few); down = b.0; across = b.1; odd = b.2 }
