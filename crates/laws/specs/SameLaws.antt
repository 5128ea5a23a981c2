-- The tests for equal places and equal lists of places say so.
use Rattle.std.specs.Prelude.{◌≡◌, refl, ◌&&◌, List, [], ◌∷◌, T, ℤ, pos, negsuc}
use Rattle.std.proofs.Common.{ap, subst, eqb→eq}
use Rattle.std.proofs.Math.Dec.{eqb_refl}
use Rattle.lists.specs.Booleans.{T_and, T-and-l, T-and-r}
use Rattle.rules.specs.Page.{Point}
use Rattle.rules.specs.Shapes.{sameℤ, same_point, same_points}
use Rattle.laws.specs.PointLaws.{point-eq}

pub sameℤ→eq : (a b : ℤ) → T (sameℤ a b) → a ≡ b
sameℤ→eq (pos a) (pos b) t = ap pos (eqb→eq a b t)
sameℤ→eq (pos a) (negsuc b) t = absurd t
sameℤ→eq (negsuc a) (pos b) t = absurd t
sameℤ→eq (negsuc a) (negsuc b) t = ap negsuc (eqb→eq a b t)

pub sameℤ-refl : (a : ℤ) → T (sameℤ a a)
sameℤ-refl (pos a) = eqb_refl a
sameℤ-refl (negsuc a) = eqb_refl a

pub same_point→eq : (p q : Point) → T (same_point p q) → p ≡ q
same_point→eq p q t = let u = T-and-l (sameℤ p.layer q.layer && sameℤ p.row q.row) _ t in
    point-eq (sameℤ→eq _ _ (T-and-l (sameℤ p.layer q.layer) _ u))
    (sameℤ→eq _ _ (T-and-r (sameℤ p.layer q.layer) _ u))
    (sameℤ→eq _ _ (T-and-r (sameℤ p.layer q.layer && sameℤ p.row q.row) _ t))

pub same_point-refl : (p : Point) → T (same_point p p)
same_point-refl p = search (T_and, sameℤ-refl)

pub same_points→eq : (ps qs : List Point) → T (same_points ps qs) → ps ≡ qs
unfolding same_points
same_points→eq [] [] t = refl
same_points→eq [] (q ∷ qs) t = absurd t
same_points→eq (p ∷ ps) [] t = absurd t
same_points→eq (p ∷ ps) (q ∷ qs) t = let a = same_point→eq p q (T-and-l (same_point p q) _ t) in
    let b = same_points→eq ps qs (T-and-r (same_point p q) _ t) in λ i. a i ∷ b i

pub same_points-refl : (ps : List Point) → T (same_points ps ps)
unfolding same_points
same_points-refl [] = tt
same_points-refl (p ∷ ps) = T_and (same_point p p) _ (same_point-refl p) (same_points-refl ps)

pub same-when : (ps qs : List Point) → ps ≡ qs → T (same_points ps qs)
same-when ps qs e = subst (λ (l : List Point). T (same_points ps l)) e (same_points-refl ps)
