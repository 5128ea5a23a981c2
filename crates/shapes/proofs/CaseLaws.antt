-- More laws of the definitions, by cases; no answer cites them.
use Rattle.std.specs.Prelude.{◌≡◌, refl, Bool, true, false, cond, ℕ, ◌<◌, ℤ, pos, negsuc, neg_ℤ, ◌+ℤ◌, ◌-ℤ◌, T}
use Rattle.std.specs.Prelude.{List, ◌&&◌, eqb, length, set, get_or, ◌-◌, ◌+◌, ◌/◌, ◌%◌}
use Rattle.std.proofs.Common.{sym, ap, ap₂, ◌∙◌, arith, SFits, to_z, of_z, to_z-of_z}
use Rattle.std.proofs.Math.IntN.{neg_ℤ-+ℤ}
use Rattle.std.specs.Int.Signed.{mag, lt_z, non_neg}
use Rattle.std.specs.Int.{w32}
use Rattle.lists.specs.Booleans.{false-true}
use Rattle.rules.specs.Groups.{entry}
use Rattle.rules.specs.Page.{Shape}
use Rattle.rules.specs.Shapes.{before, lessℤ}
use Rattle.shapes.specs.declared.Pair.{Pair}
use Rattle.shapes.specs.Pairs.{point_at, point_of, Small}
use Rattle.shapes.specs.PairLaws.{less-test, mag-neg, mag_sum, small-back, difference-small}
use Rattle.shapes.specs.Rows.{fixes, flip_listed}
use Rattle.shapes.specs.RowLaws.{flip-some}
use Rattle.shapes.specs.Joints.{joint_if, Grown}
use Rattle.shapes.specs.JointLaws.{grown-none}
use Rattle.groups.specs.declared.Grouping.{Grouping}
use Rattle.groups.specs.Grouping.{start_in, group_cells}
use Rattle.shapes.specs.Outlines.{cell_count, rows_in, columns_in}
use Rattle.shapes.specs.Parts.{UnitPart}
use Rattle.shapes.specs.PartLaws.{part-count, placed-count}

-- PairLaws: a test of the code, on numbers read back from their bits
pub less-known : {y b : ℤ} {t : Bool} → SFits w32 y → SFits w32 b
    → lt_z (to_z w32 (of_z w32 y)) (to_z w32 (of_z w32 b)) ≡ t → lessℤ y b ≡ t
less-known {y} {b} {t} f g e =
    sym (less-test y b)
    ∙ (sym (ap₂ lt_z (to_z-of_z {w = w32} {z = y} f) (to_z-of_z {w = w32} {z = b} g)) ∙ e)

pub before-known : (p q : Pair) {t : Bool} → SFits w32 p.y → SFits w32 p.x → SFits w32 q.y → SFits w32 q.x
    → before (point_at (to_z w32 (of_z w32 p.y)) (to_z w32 (of_z w32 p.x)))
    (point_at (to_z w32 (of_z w32 q.y)) (to_z w32 (of_z w32 q.x))) ≡ t
    → before (point_of p) (point_of q) ≡ t
before-known p q {t} a b c d e =
    sym (ap₂ before (ap₂ point_at (to_z-of_z {w = w32} {z = p.y} a) (to_z-of_z {w = w32} {z = p.x} b))
    (ap₂ point_at (to_z-of_z {w = w32} {z = q.y} c) (to_z-of_z {w = w32} {z = q.x} d)))
    ∙ e

pub cond_yes : {A : Type 0} {t : Bool} (a b : A) → t ≡ true → a ≡ cond t a b
cond_yes a b e = rw e

pub cond_no : {A : Type 0} {t : Bool} (a b : A) → t ≡ false → b ≡ cond t a b
cond_no a b e = rw e

-- sums and differences of small numbers
pub sum-small : (a b : ℤ) → Small a → Small b → mag (a +ℤ b) < 8192
sum-small a b h k = omega (arith, mag_sum a b)

pub sum_fits : (a b : ℤ) → Small a → Small b → SFits w32 (to_z w32 (of_z w32 a) +ℤ to_z w32 (of_z w32 b))
sum_fits a b h k =
    rw (small-back a h, small-back b k) (record { sfits = omega (arith, sum-small a b h k) })

pub sum_back : (a b : ℤ) → Small a → Small b
    → to_z w32 (of_z w32 (to_z w32 (of_z w32 a) +ℤ to_z w32 (of_z w32 b))) ≡ a +ℤ b
sum_back a b h k =
    to_z-of_z {w = w32} {z = to_z w32 (of_z w32 a) +ℤ to_z w32 (of_z w32 b)} (sum_fits a b h k)
    ∙ ap₂ (λ x y. x +ℤ y) (small-back a h) (small-back b k)

pub difference-fits : (a b : ℤ) → Small a → Small b → SFits w32 (to_z w32 (of_z w32 a) -ℤ to_z w32 (of_z w32 b))
difference-fits a b h k =
    rw (small-back a h, small-back b k) (record { sfits = omega (arith, difference-small a b h k) })

pub difference-back : (a b : ℤ) → Small a → Small b
    → to_z w32 (of_z w32 (to_z w32 (of_z w32 a) -ℤ to_z w32 (of_z w32 b))) ≡ a -ℤ b
difference-back a b h k =
    to_z-of_z {w = w32} {z = to_z w32 (of_z w32 a) -ℤ to_z w32 (of_z w32 b)} (difference-fits a b h k)
    ∙ ap₂ (λ x y. x -ℤ y) (small-back a h) (small-back b k)

-- a number less twice another
pub twice-fits : (a b : ℤ) → Small a → Small b
    → SFits w32 (to_z w32 (of_z w32 a) -ℤ to_z w32 (of_z w32 (to_z w32 (of_z w32 b) +ℤ to_z w32 (of_z w32 b))))
twice-fits a b h k =
    rw (small-back a h, sum_back b b k k)
    (record { sfits = omega (arith, mag_sum a (neg_ℤ (b +ℤ b)), mag-neg (b +ℤ b), sum-small b b k k) })

pub twice-back : (a b : ℤ) → Small a → Small b
    → to_z w32
    (of_z w32 (to_z w32 (of_z w32 a) -ℤ to_z w32 (of_z w32 (to_z w32 (of_z w32 b) +ℤ to_z w32 (of_z w32 b)))))
    ≡ a +ℤ (neg_ℤ b +ℤ neg_ℤ b)
twice-back a b h k =
    to_z-of_z {w = w32}
    {z = to_z w32 (of_z w32 a) -ℤ to_z w32 (of_z w32 (to_z w32 (of_z w32 b) +ℤ to_z w32 (of_z w32 b)))}
    (twice-fits a b h k)
    ∙ ap₂ (λ x y. x +ℤ y) (small-back a h) (ap neg_ℤ (sum_back b b k k) ∙ neg_ℤ-+ℤ b b)

-- RowLaws: the rows that list the flip, one after another
module _ (t : Shape) where
  pub flip-first : fixes t 4 ≡ true → true ≡ flip_listed t
  flip-first a = flip-some t 4 (omega arith) (omega arith) a

  pub flip-second : fixes t 4 ≡ false → fixes t 5 ≡ true → true ≡ flip_listed t
  flip-second a b = flip-some t 5 (omega arith) (omega arith) b

  pub flip-third : fixes t 4 ≡ false → fixes t 5 ≡ false → fixes t 6 ≡ true → true ≡ flip_listed t
  flip-third a b c = flip-some t 6 (omega arith) (omega arith) c

  pub flip-fourth : fixes t 4 ≡ false → fixes t 5 ≡ false → fixes t 6 ≡ false → fixes t 7 ≡ flip_listed t
  unfolding flip_listed
  flip-fourth a b c = rw (a, b, c)

-- JointLaws: no neighbour
pub join-off : (o : List ℕ) (k : ℕ) (on : Bool) (ids : List ℕ) (to g y x : ℕ) → on ≡ false
    → Grown o k (joint_if (on && eqb (entry ids to) g) y x) o k
join-off o k on ids to g y x a = rw a (grown-none o k)

-- UnitLaws
pub non-neg : (y : ℤ) → lessℤ y (pos 0) ≡ false → T (non_neg y)
non-neg (pos y) e = tt
non-neg (negsuc y) e = false-true e refl

-- PartLaws: the count of the cells that are placed, by the starts of the groups
pub placed-starts : (units : Grouping) (g w : ℕ) → UnitPart units g w → (L o : List ℕ) → L ≡ group_cells units g
    → length o ≡ 6146
    → ((j : ℕ) → j < length L → get_or (rows_in o) j 0 ≡ get_or L j 0 / w)
    → ((j : ℕ) → j < length L → get_or (columns_in o) j 0 ≡ get_or L j 0 % w)
    → cell_count (set o 6144 (length L)) ≡ start_in units (g + 1) - start_in units g
placed-starts units g w p L o e long f k = placed-count w L o long f k ∙ (ap length e ∙ part-count p)
