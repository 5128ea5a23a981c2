-- `many` of a parser that takes a byte or more: a value before what the rest gives, or nothing; and its text.
--
--   show_all show xs    the texts of xs, one after the other
--   AllFit F xs         every value of xs fits
use Rattle.std.specs.Prelude.{◌≡◌}
use Rattle.std.proofs.Math.Path.{refl, ap}
use Rattle.std.proofs.Common.{◌∙◌, arith}
use mathlib.Core.List.{List, [], ◌∷◌, ◌++◌, append_assoc}
use Rattle.std.proofs.Math.Option.{Option, none, some}
use Prim.Native.Nat.{ℕ, zero, suc, ◌+◌, ◌-◌, ◌<◌, ◌≤◌}
use Rattle.std.proofs.Math.ListN.{length}
use Rattle.page.specs.Parsers.{Parser, rest, also, and_on, times, many, rep}
use Rattle.page.specs.ParserLaws.{length_rest}
use Rattle.page.specs.Printed.{Prints, Takes}

module _ {A : Type 0} {r : Parser A} (T : Takes 1 r) where
  empty-none : (s : List ℕ) → length s ≤ 0 → r s ≡ none
  empty-none s h = go (r s) refl
    where
      go : (o : Option (A × List ℕ)) → r s ≡ o → o ≡ none
      go none e = refl
      go (some p) e = absurd (omega (arith, T s p.0 p.1 e))

  times-enough : (k m : ℕ) (s : List ℕ) → length s ≤ k → length s ≤ m → times k r s ≡ times m r s
  unfolding times and_on
  times-enough zero zero s h l = refl
  times-enough zero (suc m) s h l = rw (empty-none s (omega arith))
  times-enough (suc k) zero s h l = rw (empty-none s (omega arith))
  times-enough (suc k) (suc m) s h l = go (times-enough k m) (r s) refl
    where
      go : ((u : List ℕ) → length u ≤ k → length u ≤ m → times k r u ≡ times m r u) → (o : Option (A × List ℕ))
          → r s ≡ o → and_on o s (times k r) ≡ and_on o s (times m r)
      go ih none e = refl
      go ih (some p) e =
          let d : 1 + length p.1 ≤ length s = T s p.0 p.1 e in
          rw (ih p.1 (omega arith) (omega arith))

  pub many-none : (s : List ℕ) → r s ≡ none → many r s ≡ ([], s)
  unfolding many times and_on
  many-none s e = times-enough (length s) (suc (length s)) s (omega arith) (omega arith) ∙ rw e

  pub many_more : (s : List ℕ) (a : A) (t : List ℕ) → r s ≡ some (a, t) → many r s ≡ (a ∷ (many r t).0, (many r t).1)
  unfolding many times and_on
  many_more s a t e =
      let d : 1 + length t ≤ length s = T s a t e in
      times-enough (length s) (suc (length s)) s (omega arith) (omega arith) ∙
      rw (e, times-enough (length s) (length t) t (omega arith) (omega arith))

  -- a parser at p that goes on at q has passed p
  pub passes : (s : List ℕ) (p q : ℕ) (a : A) → r (rest s p) ≡ some (a, rest s q) → length s - q < length s - p
  passes s p q a e = omega (arith, T _ _ _ e, length_rest s p, length_rest s q)

unfoldable pub show_all : {A : Type 0} → (A → List ℕ) → List A → List ℕ
show_all show [] = []
show_all show (a ∷ xs) = show a ++ show_all show xs

unfoldable pub AllFit : {A : Type 0} → (A → Type 0) → List A → Type 0
AllFit F [] = Unit {0}
AllFit F (a ∷ xs) = F a × AllFit F xs

module _ {A : Type 0} {r : Parser A} {show : A → List ℕ} {F : A → Type 0} (R : Prints r show F) where
  times-sound : (n : ℕ) (s : List ℕ)
      → (s ≡ show_all show (times n r s).0 ++ (times n r s).1) × AllFit F (times n r s).0
  unfolding times and_on show_all AllFit
  times-sound zero s = (refl, tt)
  times-sound (suc n) s = go (times-sound n) (r s) refl
    where
      go : ((u : List ℕ) → (u ≡ show_all show (times n r u).0 ++ (times n r u).1) × AllFit F (times n r u).0)
          → (o : Option (A × List ℕ)) → r s ≡ o
          → (s ≡ show_all show (and_on o s (times n r)).0 ++ (and_on o s (times n r)).1)
          × AllFit F (and_on o s (times n r)).0
      go ih none e = (refl, tt)
      go ih (some x) e =
          let q : (s ≡ show x.0 ++ x.1) × F x.0 = R.sound s x.0 x.1 e in
          (rw append_assoc (q.0 ∙ ap (λ (l : List ℕ). show x.0 ++ l) (ih x.1).0), (q.1, (ih x.1).1))

  pub many-sound : (s : List ℕ) → (s ≡ show_all show (many r s).0 ++ (many r s).1) × AllFit F (many r s).0
  unfolding many
  many-sound s = times-sound (length s) s

  pub many-complete : Takes 1 r → (xs : List A) (u : List ℕ) → AllFit F xs → r u ≡ none
      → many r (show_all show xs ++ u) ≡ (xs, u)
  unfolding show_all AllFit
  many-complete T [] u f e = many-none T u e
  many-complete T (a ∷ xs) u f e =
      rw append_assoc
      (many_more T (show a ++ (show_all show xs ++ u)) a (show_all show xs ++ u)
      (R.complete a (show_all show xs ++ u) f.0) ∙ rw (many-complete T xs u f.1 e))

-- any number of r, then q, where r reads nothing of what q prints
pub rep-prints : {A B : Type 0} {r : Parser A} {q : Parser B} {p : A → List ℕ} {o : B → List ℕ} {F : A → Type 0}
    {G : B → Type 0} → Prints r p F → Prints q o G → Takes 1 r
    → ((b : B) (t : List ℕ) → G b → r (o b ++ t) ≡ none)
    → Prints (rep r q) (λ c. show_all p c.0 ++ o c.1) (λ c. AllFit F c.0 × G c.1)
unfolding rep also
rep-prints {A} {B} {r} {q} {p} {o} {F} {G} R Q T stop =
    record {
      sound = λ s c t e. go s c t (q (many r s).1) refl e;
      complete = λ c t f.
          rw (
            append_assoc,
            many-complete R T c.0 (o c.1 ++ t) f.0 (stop c.1 t f.1),
            Q.complete c.1 t f.1,
          );
    }
  where
    go : (s : List ℕ) (c : List A × B) (t : List ℕ) (y : Option (B × List ℕ)) → q (many r s).1 ≡ y
        → also y (λ b v. some (((many r s).0, b), v)) ≡ some (c, t)
        → (s ≡ (show_all p c.0 ++ o c.1) ++ t) × (AllFit F c.0 × G c.1)
    go s c t none h e = let z : ◌≡◌ {A = ℕ} 0 1 = cc in absurd (omega arith)
    go s c t (some y) h e =
        let m : ◌≡◌ {A = (List A × B) × List ℕ} (((many r s).0, y.0), y.1) (c, t) = cc in
        let ma : (many r s).0 ≡ c.0 = ap (λ (x : (List A × B) × List ℕ). x.0.0) m in
        let mb : y.0 ≡ c.1 = ap (λ (x : (List A × B) × List ℕ). x.0.1) m in
        let mt : y.1 ≡ t = ap (λ (x : (List A × B) × List ℕ). x.1) m in
        let v : (s ≡ show_all p (many r s).0 ++ (many r s).1) × AllFit F (many r s).0 = many-sound R s in
        let w : ((many r s).1 ≡ o y.0 ++ y.1) × G y.0 = Q.sound (many r s).1 y.0 y.1 h in (
          rw (append_assoc, ← ma, ← mb, ← mt) (v.0 ∙ ap (λ (l : List ℕ). show_all p (many r s).0 ++ l) w.0),
          (rw (← ma) v.1, rw (← mb) w.1),
        )
