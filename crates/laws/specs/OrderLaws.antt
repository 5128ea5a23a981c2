-- `before` orders places strictly and wholly, and a shift of both keeps the order.
--
--   less-irrefl, less-trans, less-total         the order of coordinates
--   before-irrefl, before-trans, before-total   the order of places
--   before-cases                                of two places one stands before the other, or they are one
--   before-shift                                two places shifted alike are in the same order
use Rattle.std.specs.Prelude.{◌≡◌, refl, ◌⊎◌, Bool, true, false, not, ◌&&◌, ◌||◌, ℕ, zero, suc, ◌+◌, ◌-◌, ◌<◌, ◌≤◌, T}
use Rattle.std.specs.Prelude.{ltb, ℤ, pos, negsuc, neg_ℤ, ◌+ℤ◌}
use Rattle.std.proofs.Common.{sym, ap, ◌∙◌, inl, inr, arith, lt-ltb, le-ltb, ltb→lt, lt→ltb, nltb→le, T_not}
use Rattle.std.proofs.Math.Dec.{leb-suc-suc, not_T}
use Rattle.std.proofs.Math.IntN.{sub_ℕ, +ℤ_assoc, +ℤ_comm, +ℤ_invr, +ℤ_invl, +ℤ_idl, +ℤ_idr, neg_ℤ-+ℤ, neg_ℤ-neg_ℤ}
use Rattle.lists.specs.Booleans.{same_test, T_and, T-and-l, T-and-r, T-or, T-or-l, T-or-r, T-dec}
use Rattle.rules.specs.Page.{Point, ◌⊕◌}
use Rattle.rules.specs.Shapes.{lessℤ, sameℤ, before}
use Rattle.laws.specs.PointLaws.{point-eq}
use Rattle.laws.specs.SameLaws.{sameℤ→eq, sameℤ-refl}

-- a difference is above 0
abbrev above : ℤ → Bool
above (pos zero) = false
above (pos (suc n)) = true
above (negsuc n) = false

above-sub : (a b : ℕ) → above (sub_ℕ a b) ≡ ltb b a
above-sub a b = go (T-dec (ltb a b))
  where
    up : (n : ℕ) → n ≡ a - b → b ≤ a → above (pos n) ≡ ltb b a
    up zero e h = sym (le-ltb b a (omega arith))
    up (suc n) e h = sym (lt-ltb b a (omega arith))

    go : T (ltb a b) ⊎ T (not (ltb a b)) → above (sub_ℕ a b) ≡ ltb b a
    go (inl t) = let h : a < b = ltb→lt a b t in rw (lt-ltb a b h, le-ltb b a (omega arith))
    go (inr t) = let h : b ≤ a = nltb→le a b t in rw (le-ltb a b h) (up (a - b) refl h)

above-pos : (n : ℕ) → above (pos n) ≡ ltb 0 n
above-pos zero = refl
above-pos (suc n) = sym (lt-ltb 0 (suc n) (omega arith))

less-is : (a b : ℤ) → lessℤ a b ≡ above (b +ℤ neg_ℤ a)
less-is (pos zero) (pos b) = let e : b + 0 ≡ b = omega arith in rw e (sym (above-pos b))
less-is (pos zero) (negsuc b) =
    let e : ltb (suc b) 0 ≡ false = le-ltb (suc b) 0 (omega arith) in sym (above-sub 0 (suc b) ∙ e)
less-is (pos (suc a)) (pos b) = sym (above-sub b (suc a))
less-is (pos (suc a)) (negsuc b) = refl
less-is (negsuc a) (pos b) = let e : b + suc a ≡ suc (b + a) = omega arith in rw e
less-is (negsuc a) (negsuc b) = sym (leb-suc-suc (suc b) a) ∙ sym (above-sub (suc a) (suc b))

-- the tests of numbers
pub less-irrefl : (a : ℤ) → lessℤ a a ≡ false
less-irrefl a = less-is a a ∙ ap above (+ℤ_invr a)

pub less-trans : (a b c : ℤ) → T (lessℤ a b) → T (lessℤ b c) → T (lessℤ a c)
less-trans (pos a) (pos b) (pos c) s t =
    let x = ltb→lt a b s in let y = ltb→lt b c t in lt→ltb a c (omega arith)
less-trans (pos a) (pos b) (negsuc c) s t = absurd t
less-trans (pos a) (negsuc b) c s t = absurd s
less-trans (negsuc a) (pos b) (pos c) s t = tt
less-trans (negsuc a) (pos b) (negsuc c) s t = absurd t
less-trans (negsuc a) (negsuc b) (pos c) s t = tt
less-trans (negsuc a) (negsuc b) (negsuc c) s t =
    let x = ltb→lt b a s in let y = ltb→lt c b t in lt→ltb c a (omega arith)

pub less-total : (a b : ℤ) → T (not (lessℤ a b)) → T (not (lessℤ b a)) → a ≡ b
less-total a b s t = back (zero_one (b +ℤ neg_ℤ a) (rw (less-is a b) at s) (rw (less-is b a, ← turn) at t))
  where
    turn : neg_ℤ (b +ℤ neg_ℤ a) ≡ a +ℤ neg_ℤ b
    turn = neg_ℤ-+ℤ b (neg_ℤ a) ∙ (ap (λ x. neg_ℤ b +ℤ x) (neg_ℤ-neg_ℤ a) ∙ +ℤ_comm (neg_ℤ b) a)

    zero_one : (d : ℤ) → T (not (above d)) → T (not (above (neg_ℤ d))) → d ≡ pos 0
    zero_one (pos zero) u v = refl
    zero_one (pos (suc n)) u v = absurd u
    zero_one (negsuc n) u v = absurd v

    back : b +ℤ neg_ℤ a ≡ pos 0 → a ≡ b
    back e =
        sym (+ℤ_idl a)
        ∙ (ap (λ x. x +ℤ a) (sym e) ∙ (+ℤ_assoc b (neg_ℤ a) a ∙ (ap (λ x. b +ℤ x) (+ℤ_invl a) ∙ +ℤ_idr b)))

shifted : (a b v : ℤ) → (b +ℤ v) +ℤ neg_ℤ (a +ℤ v) ≡ b +ℤ neg_ℤ a
shifted a b v =
    ap (λ x. (b +ℤ v) +ℤ x) (neg_ℤ-+ℤ a v ∙ +ℤ_comm (neg_ℤ a) (neg_ℤ v))
    ∙ (+ℤ_assoc b v (neg_ℤ v +ℤ neg_ℤ a)
    ∙ ap (λ x. b +ℤ x) (sym (+ℤ_assoc v (neg_ℤ v) (neg_ℤ a)) ∙ (ap (λ x. x +ℤ neg_ℤ a) (+ℤ_invr v) ∙ +ℤ_idl (neg_ℤ a))))

less-shift : (a b v : ℤ) → lessℤ (a +ℤ v) (b +ℤ v) ≡ lessℤ a b
less-shift a b v = less-is (a +ℤ v) (b +ℤ v) ∙ (ap above (shifted a b v) ∙ sym (less-is a b))

same-shift : (a b v : ℤ) → sameℤ (a +ℤ v) (b +ℤ v) ≡ sameℤ a b
same-shift a b v =
    same_test (sameℤ (a +ℤ v) (b +ℤ v)) (sameℤ a b)
    (λ t. rw (undo (sameℤ→eq (a +ℤ v) (b +ℤ v) t)) (sameℤ-refl b))
    (λ t. rw (sameℤ→eq a b t) (sameℤ-refl (b +ℤ v)))
  where
    off : (x : ℤ) → (x +ℤ v) +ℤ neg_ℤ v ≡ x
    off x = +ℤ_assoc x v (neg_ℤ v) ∙ (ap (λ z. x +ℤ z) (+ℤ_invr v) ∙ +ℤ_idr x)

    undo : a +ℤ v ≡ b +ℤ v → a ≡ b
    undo e = sym (off a) ∙ (ap (λ x. x +ℤ neg_ℤ v) e ∙ off b)

-- by the first coordinate, and where it is the same by the others
abbrev lex : ℤ → ℤ → Bool → Bool
lex a b s = lessℤ a b || sameℤ a b && s

lex_irrefl : (a : ℤ) (s : Bool) → T (lex a a s) → T s
lex_irrefl a s t = T-and-r (sameℤ a a) s (rw (less-irrefl a) at t)

lex-trans : (a b c : ℤ) (s t u : Bool) → (T s → T t → T u) → T (lex a b s) → T (lex b c t) → T (lex a c u)
lex-trans a b c s t u f p q = go (T-or (lessℤ a b) _ p) (T-or (lessℤ b c) _ q)
  where
    go : T (lessℤ a b) ⊎ T (sameℤ a b && s) → T (lessℤ b c) ⊎ T (sameℤ b c && t) → T (lex a c u)
    go (inl x) (inl y) = T-or-l (lessℤ a c) _ (less-trans a b c x y)
    go (inl x) (inr y) = T-or-l (lessℤ a c) _ (rw (sameℤ→eq b c (T-and-l (sameℤ b c) t y)) at x)
    go (inr x) (inl y) = T-or-l (lessℤ a c) _ (rw (sameℤ→eq a b (T-and-l (sameℤ a b) s x)) y)
    go (inr x) (inr y) =
        T-or-r (lessℤ a c) _
        (T_and (sameℤ a c) u
        (rw (sameℤ→eq a b (T-and-l (sameℤ a b) s x)) (T-and-l (sameℤ b c) t y))
        (f (T-and-r (sameℤ a b) s x) (T-and-r (sameℤ b c) t y)))

-- neither stands first
lex-total : (a b : ℤ) (s t : Bool) → T (not (lex a b s)) → T (not (lex b a t))
    → (a ≡ b) × T (not s) × T (not t)
lex-total a b s t p q = (
  e,
  not_T s (λ u. T_not (lex a b s) p (T-or-r (lessℤ a b) _ (T_and (sameℤ a b) s (rw e (sameℤ-refl b)) u))),
  not_T t (λ u. T_not (lex b a t) q (T-or-r (lessℤ b a) _ (T_and (sameℤ b a) t (rw e (sameℤ-refl b)) u))),
)
  where
    e : a ≡ b
    e =
        less-total a b (not_T (lessℤ a b) (λ u. T_not (lex a b s) p (T-or-l (lessℤ a b) _ u)))
        (not_T (lessℤ b a) (λ u. T_not (lex b a t) q (T-or-l (lessℤ b a) _ u)))

-- the order of places
pub before-irrefl : (p : Point) → T (before p p) → ⊥
before-irrefl p t =
    let c : T (lessℤ p.column p.column) = lex_irrefl p.row _ (lex_irrefl p.layer _ t) in
    rw (less-irrefl p.column) at c

pub before-trans : (p q r : Point) → T (before p q) → T (before q r) → T (before p r)
before-trans p q r =
    lex-trans p.layer q.layer r.layer _ _ _
    (lex-trans p.row q.row r.row _ _ _ (less-trans p.column q.column r.column))

pub before-total : (p q : Point) → T (not (before p q)) → T (not (before q p)) → p ≡ q
before-total p q s t =
    let a = lex-total p.layer q.layer _ _ s t in
    let b = lex-total p.row q.row _ _ a.1 a.2 in
    point-eq a.0 b.0 (less-total p.column q.column b.1 b.2)

pub before-cases : (p q : Point) → T (before p q) ⊎ ((p ≡ q) ⊎ T (before q p))
before-cases p q = go (T-dec (before p q)) (T-dec (before q p))
  where
    go : T (before p q) ⊎ T (not (before p q)) → T (before q p) ⊎ T (not (before q p))
        → T (before p q) ⊎ ((p ≡ q) ⊎ T (before q p))
    go (inl s) t = inl s
    go (inr s) (inl t) = inr (inr t)
    go (inr s) (inr t) = inr (inl (before-total p q s t))

pub before-shift : (p q v : Point) → before (p ⊕ v) (q ⊕ v) ≡ before p q
unfolding ◌⊕◌
before-shift p q v =
    rw (
      less-shift p.layer q.layer v.layer,
      same-shift p.layer q.layer v.layer,
      less-shift p.row q.row v.row,
      same-shift p.row q.row v.row,
      less-shift p.column q.column v.column,
    )
