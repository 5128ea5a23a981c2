-- What a parser reads is exactly what a printer prints: a law for each way in which parsers are put together.
--
--   Prints r show Fit   r reads exactly the texts `show a`, of the values a that fit
--   Takes n r           r takes at least n bytes
use Rattle.std.proofs.Math.Path.{◌≡◌, refl, ap}
use Rattle.std.proofs.Common.{◌∙◌, arith, length-append, eq-eqb, eqb-true}
use Rattle.std.specs.Prelude.{Bool, true, false, cond, ◌⊎◌, ℕ, ◌+◌, ◌≤◌, length, eqb}
use Rattle.std.proofs.Math.Logic.{⊎_elim, inl, inr}
use mathlib.Core.List.{List, [], ◌∷◌, ◌++◌, append_assoc}
use Rattle.std.proofs.Math.Option.{Option, none, some}
use Rattle.lists.specs.Lists.{or_else}
use Rattle.page.specs.Parsers.{Parser, also, onto, lead, followed, both, either, map_r, give, strip}

pub record Prints {A : Type 0} (r : Parser A) (show : A → List ℕ) (Fit : A → Type 0) : Type 0 where
  pub sound : (s : List ℕ) (a : A) (t : List ℕ) → r s ≡ some (a, t) → (s ≡ show a ++ t) × Fit a
  pub complete : (a : A) (t : List ℕ) → Fit a → r (show a ++ t) ≡ some (a, t)

abbrev pub Takes : {A : Type 0} → ℕ → Parser A → Type 0
Takes {A} n r = (s : List ℕ) (a : A) (t : List ℕ) → r s ≡ some (a, t) → n + length t ≤ length s

pub takes-printed : {A : Type 0} (r : Parser A) (show : A → List ℕ) (F : A → Type 0) (n : ℕ) → Prints r show F
    → ((a : A) → F a → n ≤ length (show a)) → Takes n r
takes-printed r show F n R long s a t e =
    let q : length s ≡ length (show a ++ t) = ap length (R.sound s a t e).0 in
    omega (arith, long a (R.sound s a t e).1, length-append (show a) t)

-- words
pub strip-sound : (w s t : List ℕ) → strip w s ≡ some t → s ≡ w ++ t
unfolding strip
strip-sound [] s t e = cc
strip-sound (a ∷ w) [] t e = let z : ◌≡◌ {A = ℕ} 0 1 = cc in absurd (omega arith)
strip-sound (a ∷ w) (b ∷ s) t e = go (strip-sound w s t) (eqb b a) refl e
  where
    go : (strip w s ≡ some t → s ≡ w ++ t) → (x : Bool) → eqb b a ≡ x → cond x (strip w s) none ≡ some t
        → b ∷ s ≡ a ∷ (w ++ t)
    go ih true h k = let q : s ≡ w ++ t = ih k in let r : b ≡ a = eqb-true b a h in cc
    go ih false h k = let z : ◌≡◌ {A = ℕ} 0 1 = cc in absurd (omega arith)

pub strip-complete : (w t : List ℕ) → strip w (w ++ t) ≡ some t
unfolding strip
strip-complete [] t = refl
strip-complete (a ∷ w) t = rw (eq-eqb a a refl) (strip-complete w t)

module _ {A : Type 0} where
  -- the same texts, and the same values, said otherwise
  pub reshow : {r : Parser A} {show : A → List ℕ} {F : A → Type 0} (other : A → List ℕ) → Prints r show F
      → ((a : A) → F a → show a ≡ other a) → Prints r other F
  reshow other R same =
      record {
        sound =
            λ s a t e. let h = R.sound s a t e in (h.0 ∙ ap (λ (l : List ℕ). l ++ t) (same a h.1), h.1);
        complete = λ a t f. rw (← same a f) (R.complete a t f);
      }

  pub refit : {r : Parser A} {show : A → List ℕ} {F : A → Type 0} (G : A → Type 0) → Prints r show F
      → ((a : A) → F a → G a) → ((a : A) → G a → F a) → Prints r show G
  refit G R to from =
      record {
        sound = λ s a t e. let h = R.sound s a t e in (h.0, to a h.1);
        complete = λ a t g. R.complete a t (from a g);
      }

  pub give-prints : (a : A) → Prints (give a) (λ _. []) (λ b. a ≡ b)
  unfolding give
  give-prints a =
      record {
        sound = λ s b t e. let m : ◌≡◌ {A = A × List ℕ} (a, s) (b, t) = cc in
            (ap (λ (p : A × List ℕ). p.1) m, ap (λ (p : A × List ℕ). p.0) m);
        complete = λ b t e. rw e;
      }

  pub lead-prints : (w : List ℕ) {r : Parser A} {show : A → List ℕ} {F : A → Type 0} → Prints r show F
      → Prints (lead w r) (λ a. w ++ show a) F
  unfolding lead onto
  lead-prints w {r} {show} {F} R =
      record {
        sound = λ s a t e. go s a t (strip w s) refl e;
        complete = λ a t f. rw (append_assoc, strip-complete w (show a ++ t)) (R.complete a t f);
      }
    where
      go : (s : List ℕ) (a : A) (t : List ℕ) (o : Option (List ℕ)) → strip w s ≡ o → onto o r ≡ some (a, t)
          → (s ≡ (w ++ show a) ++ t) × F a
      go s a t none h k = let z : ◌≡◌ {A = ℕ} 0 1 = cc in absurd (omega arith)
      go s a t (some u) h k =
          let q : s ≡ w ++ u = strip-sound w s u h in
          let v : (u ≡ show a ++ t) × F a = R.sound u a t k in
          (rw append_assoc (q ∙ ap (λ (l : List ℕ). w ++ l) v.0), v.1)

  pub followed-prints : (w : List ℕ) {r : Parser A} {show : A → List ℕ} {F : A → Type 0} → Prints r show F
      → Prints (followed r w) (λ a. show a ++ w) F
  unfolding followed also lead onto give
  followed-prints w {r} {show} {F} R =
      record {
        sound = λ s a t e. go s a t (r s) refl e;
        complete = λ a t f. rw (append_assoc, R.complete a (w ++ t) f, strip-complete w t);
      }
    where
      on : (s : List ℕ) (a : A) (t : List ℕ) (b : A) (u : List ℕ) (o : Option (List ℕ)) → r s ≡ some (b, u)
          → strip w u ≡ o → onto o (λ v. some (b, v)) ≡ some (a, t) → (s ≡ (show a ++ w) ++ t) × F a
      on s a t b u none h k e = let z : ◌≡◌ {A = ℕ} 0 1 = cc in absurd (omega arith)
      on s a t b u (some v) h k e =
          let m : ◌≡◌ {A = A × List ℕ} (b, v) (a, t) = cc in
          let ma : b ≡ a = ap (λ (x : A × List ℕ). x.0) m in
          let mt : v ≡ t = ap (λ (x : A × List ℕ). x.1) m in
          let q : (s ≡ show b ++ u) × F b = R.sound s b u h in
          let j : u ≡ w ++ v = strip-sound w u v k in
          (rw (append_assoc, ← ma, ← mt) (q.0 ∙ ap (λ (l : List ℕ). show b ++ l) j), rw (← ma) q.1)

      go : (s : List ℕ) (a : A) (t : List ℕ) (o : Option (A × List ℕ)) → r s ≡ o
          → also o (λ b u. onto (strip w u) (λ v. some (b, v))) ≡ some (a, t) → (s ≡ (show a ++ w) ++ t) × F a
      go s a t none h e = let z : ◌≡◌ {A = ℕ} 0 1 = cc in absurd (omega arith)
      go s a t (some x) h e = on s a t x.0 x.1 (strip w x.1) h refl e

  -- one or the other, where the first reads nothing of what the second prints
  pub either-prints : {r q : Parser A} {show : A → List ℕ} {F G : A → Type 0} → Prints r show F → Prints q show G
      → ((a : A) (t : List ℕ) → G a → r (show a ++ t) ≡ none) → Prints (either r q) show (λ a. F a ⊎ G a)
  unfolding either or_else
  either-prints {r} {q} {show} {F} {G} R Q apart =
      record {
        sound = λ s a t e. go s a t (r s) refl e;
        complete =
            λ a t f. ⊎_elim (λ x. rw (R.complete a t x)) (λ x. rw (apart a t x) (Q.complete a t x)) f;
      }
    where
      go : (s : List ℕ) (a : A) (t : List ℕ) (o : Option (A × List ℕ)) → r s ≡ o → or_else o (q s) ≡ some (a, t)
          → (s ≡ show a ++ t) × (F a ⊎ G a)
      go s a t none h e = ((Q.sound s a t e).0, inr (Q.sound s a t e).1)
      go s a t (some x) h e = ((R.sound s a t (h ∙ e)).0, inl (R.sound s a t (h ∙ e)).1)

module _ {A B : Type 0} where
  pub both-prints : {r : Parser A} {q : Parser B} {p : A → List ℕ} {o : B → List ℕ} {F : A → Type 0} {G : B → Type 0}
      → Prints r p F → Prints q o G → Prints (both r q) (λ c. p c.0 ++ o c.1) (λ c. F c.0 × G c.1)
  unfolding both also
  both-prints {r} {q} {p} {o} {F} {G} R Q =
      record {
        sound = λ s c t e. go s c t (r s) refl e;
        complete =
            λ c t f. rw (append_assoc, R.complete c.0 (o c.1 ++ t) f.0, Q.complete c.1 t f.1);
      }
    where
      on : (s : List ℕ) (c : A × B) (t : List ℕ) (a : A) (u : List ℕ) (y : Option (B × List ℕ)) → r s ≡ some (a, u)
          → q u ≡ y → also y (λ b v. some ((a, b), v)) ≡ some (c, t)
          → (s ≡ (p c.0 ++ o c.1) ++ t) × (F c.0 × G c.1)
      on s c t a u none h k e = let z : ◌≡◌ {A = ℕ} 0 1 = cc in absurd (omega arith)
      on s c t a u (some y) h k e =
          let m : ◌≡◌ {A = (A × B) × List ℕ} ((a, y.0), y.1) (c, t) = cc in
          let ma : a ≡ c.0 = ap (λ (x : (A × B) × List ℕ). x.0.0) m in
          let mb : y.0 ≡ c.1 = ap (λ (x : (A × B) × List ℕ). x.0.1) m in
          let mt : y.1 ≡ t = ap (λ (x : (A × B) × List ℕ). x.1) m in
          let v : (s ≡ p a ++ u) × F a = R.sound s a u h in
          let w : (u ≡ o y.0 ++ y.1) × G y.0 = Q.sound u y.0 y.1 k in (
            rw (append_assoc, ← ma, ← mb, ← mt) (v.0 ∙ ap (λ (l : List ℕ). p a ++ l) w.0),
            (rw (← ma) v.1, rw (← mb) w.1),
          )

      go : (s : List ℕ) (c : A × B) (t : List ℕ) (x : Option (A × List ℕ)) → r s ≡ x
          → also x (λ a u. also (q u) (λ b v. some ((a, b), v))) ≡ some (c, t)
          → (s ≡ (p c.0 ++ o c.1) ++ t) × (F c.0 × G c.1)
      go s c t none h e = let z : ◌≡◌ {A = ℕ} 0 1 = cc in absurd (omega arith)
      go s c t (some x) h e = on s c t x.0 x.1 (q x.1) h refl e

  -- f of what r reads: each value that fits is f of one
  pub map-prints : (f : A → B) {r : Parser A} {p : A → List ℕ} {F : A → Type 0} (show : B → List ℕ) (G : B → Type 0)
      → Prints r p F → ((a : A) → F a → (p a ≡ show (f a)) × G (f a)) → ((b : B) → G b → (a : A) × (F a × (f a ≡ b)))
      → Prints (map_r f r) show G
  unfolding map_r also
  map-prints f {r} {p} {F} show G R to from =
      record {
        sound = λ s b t e. go s b t (r s) refl e;
        complete = λ b t g. on b t (from b g);
      }
    where
      on : (b : B) (t : List ℕ) → (a : A) × (F a × (f a ≡ b)) → map_r f r (show b ++ t) ≡ some (b, t)
      on b t k = rw (← k.1.1, ← (to k.0 k.1.0).0, R.complete k.0 t k.1.0)

      go : (s : List ℕ) (b : B) (t : List ℕ) (o : Option (A × List ℕ)) → r s ≡ o
          → also o (λ a u. some (f a, u)) ≡ some (b, t) → (s ≡ show b ++ t) × G b
      go s b t none h e = let z : ◌≡◌ {A = ℕ} 0 1 = cc in absurd (omega arith)
      go s b t (some x) h e =
          let m : ◌≡◌ {A = B × List ℕ} (f x.0, x.1) (b, t) = cc in
          let mb : f x.0 ≡ b = ap (λ (y : B × List ℕ). y.0) m in
          let mt : x.1 ≡ t = ap (λ (y : B × List ℕ). y.1) m in
          let v : (s ≡ p x.0 ++ x.1) × F x.0 = R.sound s x.0 x.1 h in
          let j : (p x.0 ≡ show (f x.0)) × G (f x.0) = to x.0 v.1 in
          (rw (← mb, ← mt, ← j.0) v.0, rw (← mb) j.1)
