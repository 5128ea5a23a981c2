-- Every form of a reason holds on the board it is given on: each literal is collected under a test of its own side.
--
--   held-inside, held-edge, held-path, held-nil   Inside, Edge and Path hold, and no literals do
--   held-forms                                    each of the six forms holds
use Rattle.std.proofs.Math.Path.{◌≡◌, refl, subst}
use Rattle.std.proofs.Common.{ap, sym, inl, inr, arith}
use Rattle.std.specs.Prelude.{◌⊎◌, Bool, ◌&&◌, eqb, T}
use Rattle.std.proofs.Math.Bool.{true, false, not, cond}
use Rattle.std.specs.Bool.{beq}
use mathlib.Core.List.Memᴰ
use mathlib.Core.List.{List, [], ◌∷◌, ◌++◌}
use Rattle.std.proofs.Math.Option.{Option, some, none}
use Prim.Native.Nat.{ℕ, ◌<◌}
use Rattle.lists.specs.Lists.{◌∈◌, filter, flat_map}
use Rattle.lists.specs.ListLaws.{filter-test, map-find, flat-find}
use Rattle.lists.specs.Booleans.{T-and-l, T-and-r}
use Rattle.rules.specs.declared.Side.{Side}
use Rattle.rules.specs.declared.Side.TheVariants.{Wall, Open}
use Rattle.rules.specs.declared.Placement.{Placement}
use Rattle.rules.specs.declared.Placement.TheVariants.{Fits, Blocked, Cannot}
use Rattle.rules.specs.Page.{Hop, Shape, Puzzle, State, decided, Has, Contains, is_wall, wall_at, open_at}
use Rattle.rules.specs.Rules.{one_colour}
use Rattle.rules.specs.Groups.{members, block_of, unit_of, potential_of}
use Rattle.rules.specs.Reasons.{gather, inside_at, inside, edge_at, edge, Found, trace, path}
use Rattle.rules.specs.Check.{Reason, inside_block, inside_unit, edge_of, judge, laid, blockers, placements}
use Rattle.rules.specs.Check.{far_walls_at}
use Rattle.rules.specs.Check.{far_walls, unit_reason}
use Rattle.laws.specs.PageLaws.{Bordered}
use Rattle.laws.specs.StateLaws.{open_is, wall-is}
use Rattle.argument.specs.Paths.{Chain, found_all, path-traced}
use Rattle.argument.specs.Forms.{Forms}

module _ (Z : Puzzle) (K : Bordered Z.page) (s : ℕ → State) where
  held-append : (r q : Reason) → Contains s r → Contains s q → Contains s (r ++ q)
  unfolding Contains
  held-append r q a b l m = go (Memᴰ.append_cases r m)
    where
      go : l ∈ r ⊎ l ∈ q → Has s l
      go (inl n) = a l n
      go (inr n) = b l n

  held-flat : {A : Type 0} (f : A → Reason) (xs : List A) → ((x : A) → x ∈ xs → Contains s (f x))
      → Contains s (flat_map f xs)
  unfolding Contains
  held-flat f xs h l m = let r = flat-find f xs m in h r.0 r.1 l r.2

  held-gather : (side : Side) (p : Hop → Bool) (hs : List Hop)
      → ((h : Hop) → T (p h) → s h.border ≡ decided side) → Contains s (gather side p hs)
  unfolding Contains gather
  held-gather side p hs f l m =
      let r = map-find (λ (h : Hop). record { border = h.border; side = side }) (filter p hs) m in
      rw r.2 (f r.0 (filter-test p hs r.1))

  pub held-inside : (number : ℕ → ℕ) (g : ℕ) → Contains s (inside Z.page s number g)
  unfolding inside inside_at
  held-inside number g =
      held-flat _ _
      (λ c m. held-gather Open _ _ (λ h t. open_is _ (T-and-r (eqb (number h.to) g) _ t)))

  pub held-edge : (number : ℕ → ℕ) (g : ℕ) → Contains s (edge Z.page Z.colour s number g)
  unfolding edge edge_at
  held-edge number g =
      held-flat _ _
      (λ c m. held-gather Wall _ _
      (λ h t. wall-is _
      (T-and-r (beq (Z.colour c) (Z.colour h.to) && not (eqb (number h.to) g)) _ t)))

  held-block : (B : ℕ) → Contains s (inside_block Z s B)
  unfolding inside_block
  held-block B = held-inside (block_of Z s) B

  held_inner : (U : ℕ) → Contains s (inside_unit Z s U)
  unfolding inside_unit
  held_inner U = held-inside (unit_of Z s) U

  held-edge-of : (P : ℕ) → Contains s (edge_of Z s P)
  unfolding edge_of
  held-edge-of P = held-edge (potential_of Z s) P

  held-trace : (a : ℕ) (ha : a < Z.page.cells) (f : List Found) (x : ℕ) → Chain Z K s a ha f → Contains s (trace f x)
  unfolding Contains trace
  held-trace a ha [] x c l m = absurd (Memᴰ.not-nil m)
  held-trace a ha (e ∷ f) x c l m =
      go (eqb x e.cell) m (λ n. held-trace a ha f x c.1 l n) (λ n. held-trace a ha f e.from c.1 l n)
    where
      go : (b : Bool) → l ∈ cond b (open_at e.over ∷ trace f e.from) (trace f x) → (l ∈ trace f x → Has s l)
          → (l ∈ trace f e.from → Has s l) → Has s l
      go true (Memᴰ.head q) i j = rw q (open_is _ c.0.opens)
      go true (Memᴰ.tail n) i j = j n
      go false n i j = i n

  pub held-path : (a b : ℕ) → a < Z.page.cells → b < Z.page.cells → Contains s (path Z.page s a b)
  held-path a b ha hb = subst (Contains s) (sym (path-traced Z K s a ha b hb))
      (held-trace a ha _ b (found_all Z K s a ha).chain)

  pub held-nil : Contains s []
  unfolding Contains
  held-nil l m = absurd (Memᴰ.not-nil m)

  held_one : (b : ℕ) → T (is_wall (s b)) → Contains s (wall_at b ∷ [])
  unfolding Contains
  held_one b t l m = rw (Memᴰ.eq_of_singleton m) (wall-is _ t)

  judge-wall : (last : Option ℕ) (os : List (Option ℕ)) (b : ℕ) → ((d : ℕ) → last ≡ some d → T (is_wall (s d)))
      → judge Z s last os ≡ Blocked b → T (is_wall (s b))
  unfolding judge
  judge-wall none [] b f e = let z : ◌≡◌ {A = ℕ} 0 1 = cc in absurd (omega arith)
  judge-wall (some d) [] b f e = f b (ap some (let u : d ≡ b = cc in u))
  judge-wall last (none ∷ os) b f e = let z : ◌≡◌ {A = ℕ} 0 1 = cc in absurd (omega arith)
  judge-wall last (some d ∷ os) b f e = go (one_colour Z d) (is_wall (s d)) refl e (λ l g k. judge-wall l os b g k)
    where
      J : Option ℕ → Placement
      J l = judge Z s l os

      go : (c w : Bool) → is_wall (s d) ≡ w → cond c (J (cond w (some d) last)) Cannot ≡ Blocked b
          → ((l : Option ℕ) → ((i : ℕ) → l ≡ some i → T (is_wall (s i))) → J l ≡ Blocked b → T (is_wall (s b)))
          → T (is_wall (s b))
      go false w q k ih = let z : ◌≡◌ {A = ℕ} 0 1 = cc in absurd (omega arith)
      go true true q k ih = ih (some d) (λ i p. let u : d ≡ i = cc in rw (← u) (rw q tt)) k
      go true false q k ih = ih last f k

  held-blockers : (p : Placement) → ((b : ℕ) → p ≡ Blocked b → T (is_wall (s b))) → Contains s (blockers Z s p)
  held-blockers Fits f = held-nil
  held-blockers Cannot f = held-nil
  held-blockers (Blocked b) f = held_one b (f b refl)

  held-laid : (t : Shape) (o : ℕ) → Contains s (blockers Z s (laid Z s t o))
  unfolding laid
  held-laid t o = held-blockers (laid Z s t o)
      (λ b e. judge-wall none _ b (λ d q. let z : ◌≡◌ {A = ℕ} 0 1 = cc in absurd (omega arith)) e)

  held-placement : (U P : ℕ) (p : Placement) → p ∈ placements Z s U P → Contains s (blockers Z s p)
  unfolding placements
  held-placement U P p m = let a = flat-find _ _ m in let b = flat-find _ _ a.2 in
      let c = map-find (laid Z s a.0) (members Z.page (potential_of Z s) b.0) b.2 in
      subst (λ (q : Placement). Contains s (blockers Z s q)) (sym c.2) (held-laid a.0 c.0)

  held-far : (P : ℕ) → Contains s (far_walls Z s P)
  unfolding far_walls far_walls_at
  held-far P =
      held-flat _ _
      (λ c m. held-gather Wall _ _
      (λ h t. wall-is _
      (T-and-l (is_wall (s h.border)) _
      (T-and-l (is_wall (s h.border) && not (beq (Z.colour c) (Z.colour h.to))) _ t))))

  held-unit : (U P : ℕ) → Contains s (unit_reason Z s U P)
  unfolding unit_reason
  held-unit U P = held-append _ _ (held-flat _ _ (λ p m. held-placement U P p m))
      (held-append _ _ (held_inner U)
      (held-append _ _ (held-edge-of P) (held-append _ _ (held-flat _ _ (λ Q m. held-edge-of Q)) (held-far P))))

  pub held-forms : Forms Z s (Contains s)
  held-forms = record {
    early =
        record {
          in_edge = λ B P. held-append _ _ (held-block B) (held-edge-of P);
          in_only = held-block;
          edge_only = λ P. held-append _ _ (held-edge-of P) held-nil;
          edge_in = λ B P. held-append _ _ (held-edge-of P) (held-block B);
          wall = λ x h hx m t.
              held-append _ _ (held-path x h.to hx (K.hop-in x h hx (K.ahead-around x h hx m)))
              (held_one h.border t);
        };
    unit = held-unit;
  }
