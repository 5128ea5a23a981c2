-- Points add up like numbers.
use Rattle.std.specs.Prelude.{◌≡◌, pos}
use Rattle.std.proofs.Common.{sym, ap, ◌∙◌}
use Rattle.std.proofs.Math.IntN.{+ℤ_assoc, +ℤ_comm, +ℤ_invr, +ℤ_idr, neg_ℤ-+ℤ}
use Rattle.rules.specs.Page.{Point, ◌⊕◌, opposite}

pub point-eq : {p q : Point} → p.layer ≡ q.layer → p.row ≡ q.row → p.column ≡ q.column → p ≡ q
point-eq a b c = λ i. record { layer = a i; row = b i; column = c i }

pub add_assoc : (p q r : Point) → (p ⊕ q) ⊕ r ≡ p ⊕ (q ⊕ r)
unfolding ◌⊕◌
add_assoc p q r = point-eq (+ℤ_assoc p.layer q.layer r.layer) (+ℤ_assoc p.row q.row r.row)
    (+ℤ_assoc p.column q.column r.column)

pub add_comm : (p q : Point) → p ⊕ q ≡ q ⊕ p
unfolding ◌⊕◌
add_comm p q = point-eq (+ℤ_comm p.layer q.layer) (+ℤ_comm p.row q.row) (+ℤ_comm p.column q.column)

abbrev pub origin : Point
origin = record { layer = pos 0; row = pos 0; column = pos 0 }

pub add-origin : (p : Point) → p ⊕ origin ≡ p
unfolding ◌⊕◌
add-origin p = point-eq (+ℤ_idr p.layer) (+ℤ_idr p.row) (+ℤ_idr p.column)

pub add-opposite : (p : Point) → p ⊕ opposite p ≡ origin
unfolding ◌⊕◌ opposite
add-opposite p = point-eq (+ℤ_invr p.layer) (+ℤ_invr p.row) (+ℤ_invr p.column)

pub add_back : (p v : Point) → (p ⊕ v) ⊕ opposite v ≡ p
add_back p v = add_assoc p v (opposite v) ∙ (ap (λ x. p ⊕ x) (add-opposite v) ∙ add-origin p)

pub cancel : (p q v : Point) → p ⊕ v ≡ q ⊕ v → p ≡ q
cancel p q v e = sym (add_back p v) ∙ (ap (λ x. x ⊕ opposite v) e ∙ add_back q v)

pub swap4 : (a b c d : Point) → (a ⊕ b) ⊕ (c ⊕ d) ≡ (a ⊕ c) ⊕ (b ⊕ d)
swap4 a b c d = add_assoc a b (c ⊕ d)
    ∙ (ap (λ x. a ⊕ x) (sym (add_assoc b c d) ∙ (ap (λ x. x ⊕ d) (add_comm b c) ∙ add_assoc c b d))
    ∙ sym (add_assoc a c (b ⊕ d)))

pub opposite-add : (p q : Point) → opposite (p ⊕ q) ≡ opposite p ⊕ opposite q
unfolding ◌⊕◌ opposite
opposite-add p q = point-eq (neg_ℤ-+ℤ p.layer q.layer) (neg_ℤ-+ℤ p.row q.row)
    (neg_ℤ-+ℤ p.column q.column)

-- a shift by n leaves a difference as it is
pub same-difference : (a b n : Point) → (a ⊕ n) ⊕ opposite (b ⊕ n) ≡ a ⊕ opposite b
same-difference a b n = ap (λ x. (a ⊕ n) ⊕ x) (opposite-add b n)
    ∙ (swap4 a n (opposite b) (opposite n)
    ∙ (ap (λ x. (a ⊕ opposite b) ⊕ x) (add-opposite n) ∙ add-origin (a ⊕ opposite b)))

-- twice a shift on a sum
pub twice-shift : (a b n : Point) → (a ⊕ b) ⊕ (n ⊕ n) ≡ (a ⊕ n) ⊕ (b ⊕ n)
twice-shift a b n = swap4 a b n n

pub lands : (a b v : Point) → (b ⊕ v) ⊕ (a ⊕ opposite b) ≡ a ⊕ v
lands a b v = ap (λ x. (b ⊕ v) ⊕ x) (add_comm a (opposite b))
    ∙ (swap4 b v (opposite b) a ∙ (ap (λ x. x ⊕ (v ⊕ a)) (add-opposite b)
    ∙ (add_comm origin (v ⊕ a) ∙ (add-origin (v ⊕ a) ∙ add_comm v a))))

pub opposite-unique : (a k : Point) → origin ≡ a ⊕ k → k ≡ opposite a
opposite-unique a k e = sym (add-origin k)
    ∙ (ap (λ x. k ⊕ x) (sym (add-opposite a))
    ∙ (sym (add_assoc k a (opposite a))
    ∙ (ap (λ x. x ⊕ opposite a) (add_comm k a ∙ sym e) ∙ (add_comm origin (opposite a) ∙ add-origin (opposite a)))))
