-- A full board that step 3 passes: every unit has a placement that fits, in an adjacent unit of its block.
--
--   Reads o             what a fitting placement reads: a border of one colour that is no wall
--   fits_all            every connection of a fitting placement reads such a border
--   Fit x, fit          the placement that fits for the unit of x, and the border to the adjacent unit
use Rattle.std.proofs.Math.Path.{◌≡◌, refl, sym}
use Rattle.std.proofs.Common.{◌∙◌, subst, inl, inr, arith, eqb→eq}
use Rattle.std.specs.Prelude.{◌⊎◌, Bool, true, false, ◌&&◌, cond, eqb}
use Rattle.std.proofs.Math.Bool.{not}
use Rattle.std.specs.Bool.{beq}
use mathlib.Core.List.Memᴰ
use mathlib.Core.List.{List, [], ◌∷◌, map}
use Rattle.std.proofs.Math.Option.{Option, some, none}
use Prim.Native.Nat.{ℕ, ◌<◌}
use Rattle.std.proofs.Math.Dec.{T}
use Rattle.lists.specs.Lists.{◌∈◌, any, flat_map, range}
use Rattle.lists.specs.ListLaws.{filter-test, any-find, map-find, flat-find}
use Rattle.lists.specs.Booleans.{T-and-l, T-and-r}
use Rattle.rules.specs.declared.Placement.{Placement}
use Rattle.rules.specs.declared.Placement.TheVariants.{Fits, Blocked, Cannot}
use Rattle.rules.specs.Page.{Hop, Shape, Puzzle, State, is_wall, is_open}
use Rattle.rules.specs.Rules.{one_colour, joins_unit, SameUnit}
use Rattle.rules.specs.Groups.{unit_of, unit_count, potential_of, potential_count}
use Rattle.rules.specs.Shapes.{shape_of}
use Rattle.rules.specs.Check.{Reason, hit_if, touches, adjacent, mates, judge, laid, is_fit, transforms_of, placements}
use Rattle.rules.specs.Check.{unit_reason, unit_hit_in, unit_hit_on, unit_hit}
use Rattle.laws.specs.PageLaws.{Bordered}
use Rattle.laws.specs.StateLaws.{not-both}
use Rattle.laws.specs.GroupLaws.{number_lt, mem-members, members-lt, members-number, unit_cells, potential_cells}
use Rattle.laws.specs.GroupLaws.{own_potential}
use Rattle.argument.specs.Demand.{Full}
use Rattle.argument.specs.Hits.{hit-misses}
use Rattle.argument.specs.Sizes.{mem_unit}
use Rattle.argument.specs.Mates.{transforms-listed}
use Rattle.argument.specs.Fulls.{open_of, pot-unit, unit-pot}

module _ (Z : Puzzle) (s : ℕ → State) where
  fit_is : (q : Placement) → T (is_fit Z s q) → q ≡ Fits
  fit_is Fits t = refl
  fit_is Cannot t = absurd t
  fit_is (Blocked b) t = absurd t

  -- a placement that fits reads only borders of one colour that are no walls
  pub record Reads (o : Option ℕ) : Type 0 where
    pub border : ℕ
    pub is : o ≡ some border
    pub same : T (one_colour Z border)
    pub free : T (not (is_wall (s border)))

  pub fits_all : (last : Option ℕ) (os : List (Option ℕ)) → judge Z s last os ≡ Fits
      → (last ≡ none) × ((o : Option ℕ) → o ∈ os → Reads o)
  unfolding judge
  fits_all none [] e = (refl, λ o m. absurd (Memᴰ.not-nil m))
  fits_all (some b) [] e = let z : ◌≡◌ {A = ℕ} 0 1 = cc in absurd (omega arith)
  fits_all last (none ∷ os) e = let z : ◌≡◌ {A = ℕ} 0 1 = cc in absurd (omega arith)
  fits_all last (some b ∷ os) e = go (one_colour Z b) refl (is_wall (s b)) refl e (λ l f. fits_all l os f)
    where
      J : Option ℕ → List (Option ℕ) → Placement
      J l ps = judge Z s l ps

      go : (c : Bool) → one_colour Z b ≡ c → (w : Bool) → is_wall (s b) ≡ w
          → cond c (J (cond w (some b) last) os) Cannot ≡ Fits →
          ((l : Option ℕ) → J l os ≡ Fits → (l ≡ none) × ((o : Option ℕ) → o ∈ os → Reads o))
          → (last ≡ none) × ((o : Option ℕ) → o ∈ (some b ∷ os) → Reads o)
      go false e w f k ih = let z : ◌≡◌ {A = ℕ} 0 1 = cc in absurd (omega arith)
      go true e true f k ih = let r = (ih (some b) k).0 in let z : ◌≡◌ {A = ℕ} 0 1 = cc in absurd (omega arith)
      go true e false f k ih = let r = ih last k in (r.0, λ o m. each r.1 o (Memᴰ.cases_cons m))
        where
          each : ((o : Option ℕ) → o ∈ os → Reads o) → (o : Option ℕ) → (o ≡ some b) ⊎ o ∈ os → Reads o
          each g o (inl q) = record { border = b; is = q; same = rw e tt; free = rw f tt }
          each g o (inr n) = g o n

  -- what step 3 found for the unit of x
  pub record Fit (x : ℕ) : Type 0 where
    pub out : ℕ
    pub over : Hop
    pub same : SameUnit Z s x out
    pub hop : over ∈ Z.page.around out
    pub opens : T (is_open (s over.border))
    pub other : Z.colour over.to ≡ not (Z.colour out)
    pub at : ℕ
    pub at_unit : SameUnit Z s over.to at
    pub shape : Shape
    pub listed : shape ∈ Z.page.transforms (shape_of Z.page (unit_of Z s) (unit_of Z s x))
    pub lies : laid Z s shape at ≡ Fits

  yes-hit : (b : Bool) (r : Reason) → hit_if (not b) r ≡ none → T b
  yes-hit true r e = tt
  yes-hit false r e = hit-misses true r e tt

module _ (Z : Puzzle) (K : Bordered Z.page) (s : ℕ → State) (full : Full Z s)
    (pass3 : (U : ℕ) → U < unit_count Z s → unit_hit Z s U ≡ none) where
  -- the first listed cell of a unit
  on_none : (U : ℕ) (xs : List ℕ) (x : ℕ) → x ∈ xs → unit_hit_on Z s U xs ≡ none
      → (e : ℕ) × e ∈ xs × (unit_hit_in Z s U (potential_of Z s e) ≡ none)
  unfolding unit_hit_on
  on_none U [] x m q = absurd (Memᴰ.not-nil m)
  on_none U (e ∷ xs) x m q = (e, Memᴰ.head refl, q)

  unit-none : (x : ℕ) → x < Z.page.cells → unit_hit_in Z s (unit_of Z s x) (potential_of Z s x) ≡ none
  unfolding unit_hit
  unit-none x hx =
      let U = unit_of Z s x in
      let r = on_none U (unit_cells Z s U) x (mem-members Z.page (unit_of Z s) U x hx refl)
      (pass3 U (number_lt Z.page (joins_unit Z s) (omega arith) x hx)) in
      let e = unit-pot Z K s full x r.0 hx (mem_unit Z K s x r.0 hx r.1) in
      rw e r.2

  pub fit : (x : ℕ) → x < Z.page.cells → Fit Z s x
  unfolding unit_hit_in placements mates adjacent touches
  fit x hx =
      let U = unit_of Z s x in
      let P' = potential_of Z s x in
      let t = yes-hit Z s (any (is_fit Z s) (placements Z s U P')) (unit_reason Z s U P') (unit-none x hx) in
      let a = any-find (is_fit Z s) (placements Z s U P') t in
      let b = flat-find (λ (v : Shape). flat_map (λ Q. map (laid Z s v) (potential_cells Z s Q)) (mates Z s P'))
      (transforms_of Z s U) a.1 in
      let c = flat-find (λ Q. map (laid Z s b.0) (potential_cells Z s Q)) (mates Z s P') b.2 in
      let d = map-find (laid Z s b.0) (potential_cells Z s c.0) c.2 in
      let f = any-find (λ w. any (touches Z s c.0 w) (Z.page.around w)) (potential_cells Z s P')
      (filter-test (adjacent Z s P') (range (potential_count Z s)) c.1) in
      let g = any-find (touches Z s c.0 f.0) (Z.page.around f.0) f.2 in
      build b.0 c.0 f.0 g.0 d.0 f.1 g.1 g.2 d.1
      (subst (λ (us : List Shape). b.0 ∈ us)
      (transforms-listed Z s U (number_lt Z.page (joins_unit Z s) (omega arith) x hx))
      b.1) a.0 a.2 d.2
    where
      build : (u : Shape) (Q c : ℕ) (h : Hop) (o : ℕ) → c ∈ own_potential Z s x
          → h ∈ Z.page.around c → T (touches Z s Q c h) →
          o ∈ potential_cells Z s Q → u ∈ Z.page.transforms (shape_of Z.page (unit_of Z s) (unit_of Z s x))
          → (p : Placement) → T (is_fit Z s p) → p ≡ laid Z s u o → Fit Z s x
      build u Q c h o mc mh t mo mu p fp q =
          let unlike = not (beq (Z.colour c) (Z.colour h.to)) in
          let free = not (is_wall (s h.border)) in
          let t1 = T-and-l (unlike && free) (eqb (potential_of Z s h.to) Q) t in
          let t2 = T-and-r (unlike && free) (eqb (potential_of Z s h.to) Q) t in
          let hc = members-lt Z.page (potential_of Z s) _ c mc in
          let ho = members-lt Z.page (potential_of Z s) Q o mo in
          record {
            out = c;
            over = h;
            same = pot-unit Z K s full x c hx hc (sym (members-number Z.page (potential_of Z s) _ c mc));
            hop = mh;
            opens = open_of Z K s full h.border (K.hop-border c h hc mh) (T-and-r unlike free t1);
            other = not-both (Z.colour c) (Z.colour h.to) (T-and-l unlike free t1);
            at = o;
            at_unit = pot-unit Z K s full h.to o (K.hop-in c h hc mh) ho
                (eqb→eq (potential_of Z s h.to) Q t2 ∙ sym (members-number Z.page (potential_of Z s) Q o mo));
            shape = u;
            listed = mu;
            lies = sym q ∙ fit_is Z s p fp;
          }
