-- One pass finds the first place of a sort.
use Rattle.std.specs.Prelude.{◌≡◌, refl, ◌⊎◌, Bool, true, false, not, cond, List, [], ◌∷◌, T}
use Rattle.std.proofs.Common.{ap, ◌∙◌, subst, inl, inr, T_not}
use Rattle.std.proofs.Math.Dec.{not_T}
use Rattle.lists.specs.Booleans.{T-dec, T_false}
use Rattle.rules.specs.Page.{Point}
use Rattle.rules.specs.Shapes.{before, insert, sort}
use Rattle.laws.specs.OrderLaws.{before-irrefl, before-trans, before-total}
use Rattle.laws.specs.SortLaws.{never_both, insert_comm}
use Rattle.shapes.specs.Order.{least}

no-earlier : (x m l : Point) → T (not (before x m)) → T (not (before m l)) → T (not (before x l))
no-earlier x m l s t = not_T (before x l) (λ u. go u (T-dec (before m x)))
  where
    go : T (before x l) → T (before m x) ⊎ T (not (before m x)) → ⊥
    go u (inl k) = T_not (before m l) t (before-trans m x l k u)
    go u (inr k) = T_not (before m l) t (subst (λ (z : Point). T (before z l)) (before-total x m s k) u)

not-later : (q p : Point) → T (not (before p (cond (before q p) q p)))
not-later q p = go (before q p) refl
  where
    go : (b : Bool) → before q p ≡ b → T (not (before p (cond b q p)))
    go true e = not_T (before p q) (λ t. never_both p q t (rw e tt))
    go false e = not_T (before p p) (before-irrefl p)

least_first : (p : Point) (qs : List Point) → T (not (before p (least p qs)))
unfolding least
least_first p [] = not_T (before p p) (before-irrefl p)
least_first p (q ∷ qs) =
    let m : Point = cond (before q p) q p in no-earlier p m (least m qs) (not-later q p) (least_first m qs)

-- the one of two that is not taken
insert-both : (p q : Point) (rs : List Point)
    → (o : Point) × T (not (before o (cond (before q p) q p)))
    × (insert p (insert q rs) ≡ insert o (insert (cond (before q p) q p) rs))
insert-both p q rs = go (before q p) refl
  where
    go : (b : Bool) → before q p ≡ b
        → (o : Point) × T (not (before o (cond b q p))) × (insert p (insert q rs) ≡ insert o (insert (cond b q p) rs))
    go true e = (p, not_T (before p q) (λ t. never_both p q t (rw e tt)), refl)
    go false e = (q, rw e tt, insert_comm p q rs)

pub sort-least : (p : Point) (qs : List Point) → (rest : List Point) × (sort (p ∷ qs) ≡ least p qs ∷ rest)
unfolding sort least insert
sort-least p [] = ([], refl)
sort-least p (q ∷ qs) =
    let m : Point = cond (before q p) q p in
    let r = sort-least m qs in
    let o = insert-both p q (sort qs) in
    let f : before o.0 (least m qs) ≡ false =
    T_false _ (no-earlier o.0 m (least m qs) o.1 (least_first m qs)) in
    (insert o.0 r.0, o.2 ∙ (ap (insert o.0) r.1 ∙ rw f))
