-- Signs times coordinates: what they are, and that they stay small.
use Rattle.std.specs.Prelude.{◌≡◌, refl, ◌⊎◌, Bool, true, false, not, cond, ℕ, zero, suc, ◌+◌, ◌*◌, ◌<◌, ◌≤◌, ℤ, pos}
use Rattle.std.specs.Prelude.{negsuc, neg_ℤ, ◌+ℤ◌, ◌-ℤ◌, ◌*ℤ◌, T, ltb}
use Rattle.std.proofs.Common.{sym, ap, ap₂, ◌∙◌, subst, inl, inr, arith, lt-ltb, le-ltb, ltb→lt, nltb→le, SFits, to_z}
use Rattle.std.proofs.Common.{of_z, to_z-of_z, Less, Equal, Greater}
use Rattle.std.proofs.Math.IntN.{sub_ℕ}
use Rattle.std.specs.Int.Signed.{mag, lt_z}
use Rattle.std.specs.Ordering.{is_lt, int_cmp, ordering_then}
use Rattle.std.specs.Int.{w8, w32}
use Rattle.lists.specs.Booleans.{same_test, T-dec}
use Rattle.rules.specs.Page.{Point, ◌⊕◌, opposite}
use Rattle.rules.specs.Turns.{Axis, layerward, rowward, columnward, Row, coordinate, signed, read, apply, flat_turn}
use Rattle.rules.specs.Shapes.{before, lessℤ, sameℤ}
use Rattle.laws.specs.PointLaws.{point-eq}
use Rattle.laws.specs.OrderLaws.{less-irrefl, less-total}
use Rattle.laws.specs.SameLaws.{sameℤ→eq, sameℤ-refl}
use Rattle.shapes.specs.declared.Pair.{Pair}
use Rattle.shapes.specs.declared.Signs.{Signs}
use Rattle.shapes.specs.Pairs.{point_at, point_of, Small, SmallPair, DifferenceFits, Sign, BothSigns, turn_by, sign_of}
use Rattle.shapes.specs.Pairs.{signs_of}
use Rattle.shapes.specs.Rows.{turn_at}

pub one-times : (z : ℤ) → pos 1 *ℤ z ≡ z
one-times (pos n) = ap pos (let e : 1 * n ≡ n = omega arith in e)
one-times (negsuc n) = ap (λ k. neg_ℤ (pos k)) (let e : 1 * suc n ≡ suc n = omega arith in e)

pub minus-times : (z : ℤ) → negsuc 0 *ℤ z ≡ neg_ℤ z
minus-times (pos n) = ap (λ k. neg_ℤ (pos k)) (let e : 1 * n ≡ n = omega arith in e)
minus-times (negsuc n) = ap pos (let e : 1 * suc n ≡ suc n = omega arith in e)

pub mag-neg : (z : ℤ) → mag (neg_ℤ z) ≤ mag z + 1
mag-neg (pos zero) = omega arith
mag-neg (pos (suc n)) = omega arith
mag-neg (negsuc n) = omega arith

pub times-small : (s z : ℤ) → Sign s → Small z → mag (s *ℤ z) < 4097
times-small s z (inl e) h = rw (e, one-times z) (omega arith)
times-small s z (inr e) h = rw (e, minus-times z) (omega (arith, mag-neg z))

-- a turn makes no coordinate much larger
mag-signed : (b : Bool) (z : ℤ) → mag (signed b z) ≤ mag z + 1
mag-signed true z = mag-neg z
mag-signed false z = omega arith

pub read_small : (r : Row) (p : Point) (n : ℕ) → mag p.layer < n → mag p.row < n → mag p.column < n
    → mag (read r p) < n + 1
read_small r p n a b c =
    let e = mag-signed r.minus (coordinate r.axis p) in
    let f = go r.axis in
    omega arith
  where
    go : (x : Axis) → mag (coordinate x p) < n
    go layerward = a
    go rowward = b
    go columnward = c

-- a small number read back from its 32 bits, and a sign times one
pub small-back : (z : ℤ) → Small z → to_z w32 (of_z w32 z) ≡ z
small-back z h = to_z-of_z {w = w32} {z = z} (record { sfits = omega arith })

-- a sign read back from its 8 bits
pub sign-back : {s d : ℤ} → Sign s → d ≡ to_z w8 (of_z w8 s) → d ≡ s
sign-back (inl e) f = f ∙ rw e
sign-back (inr e) f = f ∙ rw e

sign_small : (s : ℤ) → Sign s → Small s
sign_small s (inl e) = rw e (omega arith)
sign_small s (inr e) = rw e (omega arith)

pub times-fits : (s z : ℤ) → Sign s → Small z → SFits w32 (to_z w32 (of_z w32 s) *ℤ to_z w32 (of_z w32 z))
times-fits s z e h =
    rw (small-back s (sign_small s e), small-back z h) (record { sfits = omega (arith, times-small s z e h) })

pub times-back : (s z : ℤ) → Sign s → Small z
    → to_z w32 (of_z w32 (to_z w32 (of_z w32 s) *ℤ to_z w32 (of_z w32 z))) ≡ s *ℤ z
times-back s z e h =
    to_z-of_z {w = w32} {z = to_z w32 (of_z w32 s) *ℤ to_z w32 (of_z w32 z)} (times-fits s z e h)
    ∙ ap₂ (λ x y. x *ℤ y) (small-back s (sign_small s e)) (small-back z h)

-- a row of the table as the code has it
sign-is : (b : Bool) → Sign (sign_of b)
sign-is true = inr refl
sign-is false = inl refl

sign-times : (b : Bool) (z : ℤ) → sign_of b *ℤ z ≡ signed b z
sign-times true z = minus-times z
sign-times false z = one-times z

-- every row is a row of a flat page, which swaps or not
flat-turns : (swap down across : Bool) (y x : ℤ)
    → point_of (turn_by (record { swap = swap; down = sign_of down; across = sign_of across }) y x)
    ≡ apply (flat_turn (record { axis = cond swap columnward rowward; minus = down })
    (record { axis = cond swap rowward columnward; minus = across })) (point_at y x)
unfolding apply turn_by
flat-turns true d a y x = point-eq refl (sign-times d x) (sign-times a y)
flat-turns false d a y x = point-eq refl (sign-times d y) (sign-times a x)

row-turns : (r : ℕ) (y x : ℤ) → point_of (turn_by (signs_of (turn_at r)) y x) ≡ apply (turn_at r) (point_at y x)
row-turns zero y x = flat-turns false false false y x
row-turns (suc zero) y x = flat-turns false true true y x
row-turns (suc (suc zero)) y x = flat-turns true true false y x
row-turns (suc (suc (suc zero))) y x = flat-turns true false true y x
row-turns (suc (suc (suc (suc zero)))) y x = flat-turns false true false y x
row-turns (suc (suc (suc (suc (suc zero))))) y x = flat-turns false false true y x
row-turns (suc (suc (suc (suc (suc (suc zero)))))) y x = flat-turns true false false y x
row-turns (suc (suc (suc (suc (suc (suc (suc zero))))))) y x = flat-turns true true true y x
row-turns (suc (suc (suc (suc (suc (suc (suc (suc r)))))))) y x = flat-turns false false false y x

-- what the code read from a row: signs, and the turn of the definition
module _ (r : ℕ) {s : Signs} (e : s ≡ signs_of (turn_at r)) where
  pub signs-read : BothSigns s
  signs-read = rw e (record { down = sign-is (turn_at r).rows.minus; across = sign-is (turn_at r).columns.minus })

  pub turns-read : (y x : ℤ) → point_of (turn_by s y x) ≡ apply (turn_at r) (point_at y x)
  turns-read y x = ap (λ q. point_of (turn_by q y x)) e ∙ row-turns r y x

-- the order of two places, by the tests of the code
pub less-test : (a b : ℤ) → lt_z a b ≡ lessℤ a b
less-test (pos a) (pos b) = refl
less-test (pos a) (negsuc b) = refl
less-test (negsuc a) (pos b) = refl
less-test (negsuc a) (negsuc b) = refl

pub before-yes : (y x b a : ℤ) → lessℤ y b ≡ true → before (point_at y x) (point_at b a) ≡ true
before-yes y x b a e = rw e

pub before-no : (y x b a : ℤ) → lessℤ y b ≡ false → lessℤ b y ≡ true → before (point_at y x) (point_at b a) ≡ false
before-no y x b a e f = rw (e, different)
  where
    different : sameℤ y b ≡ false
    different = same_test (sameℤ y b) false
        (λ t. let c : T (lessℤ b b) = subst (λ (z : ℤ). T (lessℤ b z)) (sameℤ→eq y b t) (rw f tt) in
        rw (less-irrefl b) at c) (λ t. absurd t)

pub before-even : (y x b a : ℤ) → lessℤ y b ≡ false → lessℤ b y ≡ false
    → before (point_at y x) (point_at b a) ≡ lessℤ x a
before-even y x b a e f =
    let k : y ≡ b = less-total y b (rw e tt) (rw f tt) in
    rw (e, same)
  where
    same : sameℤ y b ≡ true
    same =
        let k : y ≡ b = less-total y b (rw e tt) (rw f tt) in
        same_test (sameℤ y b) true (λ t. tt) (λ t. rw k (sameℤ-refl b))

pub read_back : {z : ℤ} (n : ℕ) → z ≡ pos n → n < 4096 → to_z w32 (of_z w32 z) ≡ pos n
read_back {z} n e h = ap (λ k. to_z w32 (of_z w32 k)) e ∙ small-back (pos n) h

-- the derived order is the definition's, and the smaller of two is the one that stands first
first-less : (a b : ℤ) → is_lt (int_cmp a b) ≡ lessℤ a b
first-less a b = go (lt_z a b) (lt_z b a) ∙ less-test a b
  where
    go : (s t : Bool) → is_lt (cond s Less (cond t Greater Equal)) ≡ s
    go true t = refl
    go false true = refl
    go false false = refl

pub in-order : (p q : Pair)
    → is_lt (ordering_then (int_cmp p.y q.y) (int_cmp p.x q.x)) ≡ before (point_of p) (point_of q)
in-order p q = go (lt_z p.y q.y) (lt_z q.y p.y) refl refl
  where
    go : (s t : Bool) → lt_z p.y q.y ≡ s → lt_z q.y p.y ≡ t
        → is_lt (ordering_then (cond s Less (cond t Greater Equal)) (int_cmp p.x q.x))
        ≡ before (point_of p) (point_of q)
    go true t d e = sym (before-yes p.y p.x q.y q.x (sym (less-test p.y q.y) ∙ d))
    go false true d e =
        sym (before-no p.y p.x q.y q.x (sym (less-test p.y q.y) ∙ d) (sym (less-test q.y p.y) ∙ e))
    go false false d e =
        first-less p.x q.x
        ∙ sym (before-even p.y p.x q.y q.x (sym (less-test p.y q.y) ∙ d) (sym (less-test q.y p.y) ∙ e))

-- sums and differences of small numbers
mag-sub : (a b : ℕ) → mag (sub_ℕ a b) ≤ a + b
mag-sub a b = go (T-dec (ltb a b))
  where
    go : T (ltb a b) ⊎ T (not (ltb a b)) → mag (sub_ℕ a b) ≤ a + b
    go (inl t) = rw (lt-ltb a b (ltb→lt a b t)) (omega arith)
    go (inr t) = rw (le-ltb a b (nltb→le a b t)) (omega arith)

pub mag_sum : (a b : ℤ) → mag (a +ℤ b) ≤ mag a + mag b + 1
mag_sum (pos a) (pos b) = omega arith
mag_sum (pos a) (negsuc b) = omega (arith, mag-sub a (suc b))
mag_sum (negsuc a) (pos b) = omega (arith, mag-sub b (suc a))
mag_sum (negsuc a) (negsuc b) = omega arith

pub difference-small : (a b : ℤ) → Small a → Small b → mag (a -ℤ b) < 8193
difference-small a b h k = omega (arith, mag_sum a (neg_ℤ b), mag-neg b)

-- the differences of places whose coordinates are small
pub differences-fit : (p m : Pair) → SmallPair p → SmallPair m → DifferenceFits p m
differences-fit p m a b =
    record {
      down = record { sfits = omega (arith, difference-small p.y m.y a.down b.down) };
      across = record { sfits = omega (arith, difference-small p.x m.x a.across b.across) };
    }

less-again : (a b : ℤ) → Small a → Small b → SFits w32 ((a -ℤ b) -ℤ b)
less-again a b h k =
    record { sfits = omega (arith, mag_sum (a -ℤ b) (neg_ℤ b), mag-neg b, difference-small a b h k) }

pub again-fit : (p q m : Pair) → point_of q ≡ point_of p ⊕ opposite (point_of m) → SmallPair p → SmallPair m
    → DifferenceFits q m
unfolding ◌⊕◌ opposite
again-fit p q m e a b =
    let y : q.y ≡ p.y -ℤ m.y = ap (λ z. z.row) e in
    let x : q.x ≡ p.x -ℤ m.x = ap (λ z. z.column) e in
    record {
      down = rw y (less-again p.y m.y a.down b.down);
      across = rw x (less-again p.x m.x a.across b.across);
    }
