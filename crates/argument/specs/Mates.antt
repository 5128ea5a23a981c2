-- Step 3 is sound: no solution contains a reason that it gives.
--
--   transforms-listed   the transforms of a unit that there is are those of its shape
--   sound-unit          every reason of step 3 is sound
--
-- Suppose a solution contains the reason for unit U in potential unit P, and no placement fits. U lies in one unit of
-- the solution, and that within P (Inside, Edge). Its block has the other colour, so a path leaves the unit over an
-- open border; the cell behind it is in a potential unit adjacent to P (else that border would be among the last walls
-- of the reason) and its unit within that one (Edge). The two units are congruent, so the listed transform of that turn
-- lies in the other unit: every connection reads a border of one colour that is no wall in the solution. So the
-- placement is not refused, and not blocked, since its blocker is in the reason. So it fits.
use Rattle.std.proofs.Math.Path.{◌≡◌, refl, ap, subst}
use Rattle.std.proofs.Common.{◌∙◌, sym, arith, T_not, lt-ltb}
use Rattle.std.specs.Prelude.{◌⊎◌, Bool, true, false, ◌&&◌, cond, T}
use Rattle.std.proofs.Math.Logic.{inl, inr}
use Rattle.std.proofs.Math.Bool.{not}
use Rattle.std.specs.Bool.{beq}
use mathlib.Core.List.Memᴰ
use mathlib.Core.List.{List, [], ◌∷◌, map}
use Rattle.std.proofs.Math.Option.{Option, some, none}
use Prim.Native.Nat.{ℕ, ◌<◌}
use Rattle.std.proofs.Math.Dec.{eqb_refl}
use Rattle.lists.specs.Lists.{◌∈◌, filter, any, flat_map, range}
use Rattle.lists.specs.ListLaws.{mem-filter, any-mem, mem-map, map-find, mem-flat}
use Rattle.lists.specs.Booleans.{T_and, T-dec}
use Rattle.lists.specs.Ranges.{mem-range}
use Rattle.rules.specs.declared.Side.TheVariants.{Wall}
use Rattle.rules.specs.declared.Placement.{Placement}
use Rattle.rules.specs.declared.Placement.TheVariants.{Fits, Blocked, Cannot}
use Rattle.rules.specs.Page.{Hop, Point, ◌⊕◌, opposite, Shape, Puzzle, State, decided, Contains, is_wall, is_open}
use Rattle.rules.specs.Page.{wall_at}
use Rattle.rules.specs.Rules.{stay, one_colour, joins_block, joins_unit, SameBlock, SameUnit, Congruent, Solution, step}
use Rattle.rules.specs.Groups.{joins_potential, unit_of, unit_count, potential_of, potential_count}
use Rattle.rules.specs.Shapes.{shape_of}
use Rattle.rules.specs.Check.{Reason, inside_unit, edge_of, touches, adjacent, mates, judge, laid, is_fit, blockers}
use Rattle.rules.specs.Check.{transforms_of, placements, far_walls_at, far_walls, unit_reason, unit_hit_in, unit_hit_on}
use Rattle.rules.specs.Check.{unit_hit}
use Rattle.laws.specs.PageLaws.{Bordered, OneStep, CellsPlaced, TurnsListed, near-turn, near-right, near-left, near-eq}
use Rattle.laws.specs.PointLaws.{swap4, lands}
use Rattle.laws.specs.StateLaws.{contains-l, contains-r, has, open-not-wall, unlike-T}
use Rattle.laws.specs.Copies.{CopyCells, Copy, shape-based, copy-cells, copy}
use Rattle.laws.specs.RuleLaws.{join-trans, join-in, join-sym, colour-hop, unit-colour, unit-block}
use Rattle.laws.specs.GroupLaws.{number-joined, number_lt, mem-members, members-lt, members-number, unit_cells}
use Rattle.laws.specs.GroupLaws.{potential_cells}
use Rattle.laws.specs.ReasonLaws.{mem-gather}
use Rattle.argument.specs.Keeps.{unit-keeps, edge_stays}
use Rattle.argument.specs.Hits.{Each, each_none, each-hit}
use Rattle.argument.specs.Sound.{Sound}
use Rattle.argument.specs.Crossings.{cross}

pub transforms-listed : (Z : Puzzle) (s : ℕ → State) (U : ℕ) → U < unit_count Z s
    → transforms_of Z s U ≡ Z.page.transforms (shape_of Z.page (unit_of Z s) U)
unfolding transforms_of
transforms-listed Z s U h = rw (lt-ltb U (unit_count Z s) h)

module _ (Z : Puzzle) (K : Bordered Z.page) (P : CellsPlaced Z.page) (I : TurnsListed Z.page)
    (s : ℕ → State) where
  -- a connection read within a unit of the setting
  record BorderFine (σ : ℕ → State) (o : Option ℕ) : Type 0 where
    border : ℕ
    is : o ≡ some border
    same : T (one_colour Z border)
    free : σ border ≡ decided Wall → ⊥

  judged : (σ : ℕ → State) (last : Option ℕ) (os : List (Option ℕ)) → ((o : Option ℕ) → o ∈ os → BorderFine σ o)
      → ((b : ℕ) → last ≡ some b → σ b ≡ decided Wall → ⊥) →
      (judge Z s last os ≡ Fits) ⊎ ((b : ℕ) × (judge Z s last os ≡ Blocked b) × (σ b ≡ decided Wall → ⊥))
  unfolding judge
  judged σ none [] f g = inl refl
  judged σ (some b) [] f g = inr (b, refl, g b refl)
  judged σ last (none ∷ os) f g = let r = f none (Memᴰ.head refl) in let e = r.is in
      let z : ◌≡◌ {A = ℕ} 0 1 = cc in absurd (omega arith)
  judged σ last (some b ∷ os) f g =
      go (one_colour Z b) refl (is_wall (s b)) refl (f (some b) (Memᴰ.head refl))
      (λ l g'. judged σ l os (λ o m. f o (Memᴰ.tail m)) g')
    where
      J : Option ℕ → List (Option ℕ) → Placement
      J l ps = judge Z s l ps

      go : (c : Bool) → one_colour Z b ≡ c → (w : Bool) → is_wall (s b) ≡ w → BorderFine σ (some b) →
          ((l : Option ℕ) → ((d : ℕ) → l ≡ some d → σ d ≡ decided Wall → ⊥)
          → (J l os ≡ Fits) ⊎ ((d : ℕ) × (J l os ≡ Blocked d) × (σ d ≡ decided Wall → ⊥))) →
          (cond c (J (cond w (some b) last) os) Cannot ≡ Fits) ⊎
          ((d : ℕ) × (cond c (J (cond w (some b) last) os) Cannot ≡ Blocked d) × (σ d ≡ decided Wall → ⊥))
      go false e w d r ih = let q : b ≡ r.border = (let u = r.is in cc) in absurd (rw (← q, e) at r.same)
      go true e true d r ih = ih (some b) (λ k u v. r.free (let y = r.is in let q : r.border ≡ k = cc in rw q v))
      go true e false d r ih = ih last g

  module _ (cell : ℕ) (on : cell < Z.page.cells) (σ : ℕ → State) (sol : Solution Z σ) where
    abbrev U : ℕ
    U = unit_of Z s cell

    abbrev Pot : ℕ
    Pot = potential_of Z s cell

    abbrev reason : Reason
    reason = unit_reason Z s U Pot

    abbrev Laid : List Placement
    Laid = placements Z s U Pot

    abbrev Mates : List ℕ
    Mates = mates Z s Pot

    -- the parts of the reason
    record Parts : Type 0 where
      blocks : (p : Placement) → p ∈ Laid → (b : ℕ) → p ≡ Blocked b → σ b ≡ decided Wall
      ins : Contains σ (inside_unit Z s U)
      edg : Contains σ (edge_of Z s Pot)
      edges : (Q : ℕ) → Q ∈ Mates → Contains σ (edge_of Z s Q)
      far : Contains σ (far_walls Z s Pot)

    parts : Contains σ reason → Parts
    unfolding unit_reason Contains
    parts c =
        let c1 = contains-r σ (flat_map (blockers Z s) Laid) _ c in
        let c2 = contains-r σ (inside_unit Z s U) _ c1 in
        let c3 = contains-r σ (edge_of Z s Pot) _ c2 in record {
          blocks = λ p m b e.
              c (wall_at b) (Memᴰ.append_left _ (mem-flat (blockers Z s) m (rw e (Memᴰ.head refl))));
          ins = contains-l σ (inside_unit Z s U) _ c1;
          edg = contains-l σ (edge_of Z s Pot) _ c2;
          edges = λ Q m l k. c3 l (Memᴰ.append_left _ (mem-flat (edge_of Z s) m k));
          far = contains-r σ (flat_map (edge_of Z s) Mates) _ c3;
        }

    -- the crossing's other side is in an adjacent potential unit
    adjacent-mem : (w : ℕ) (h : Hop) → w < Z.page.cells → h ∈ Z.page.around w → potential_of Z s w ≡ Pot
        → Z.colour h.to ≡ not (Z.colour w) → Parts → T (is_open (σ h.border)) → potential_of Z s h.to ∈ Mates
    unfolding mates adjacent touches far_walls far_walls_at
    adjacent-mem w h hw m e q p o = go (T-dec (adjacent Z s Pot (potential_of Z s h.to)))
      where
        Q : ℕ
        Q = potential_of Z s h.to

        ht : h.to < Z.page.cells
        ht = K.hop-in w h hw m

        low : Q ∈ range (potential_count Z s)
        low = mem-range (potential_count Z s) (number_lt Z.page (joins_potential Z s) (omega arith) h.to ht)

        unlike : T (not (beq (Z.colour w) (Z.colour h.to)))
        unlike = unlike-T (Z.colour w) (Z.colour h.to) q

        go : T (adjacent Z s Pot Q) ⊎ T (not (adjacent Z s Pot Q))
            → Q ∈ filter (adjacent Z s Pot) (range (potential_count Z s))
        go (inl t) = mem-filter (adjacent Z s Pot) _ low t
        go (inr t) = absurd (blocks (T-dec (is_wall (s h.border))))
          where
            mw : w ∈ potential_cells Z s Pot
            mw = mem-members Z.page (potential_of Z s) Pot w hw e

            blocks : T (is_wall (s h.border)) ⊎ T (not (is_wall (s h.border))) → ⊥
            blocks (inl u) =
                let v = unlike in
                open-not-wall (σ h.border) o
                (has σ _ p.far (wall_at h.border)
                (mem-flat (far_walls_at Z s Pot) mw
                (mem-gather Wall
                (λ (j : Hop).
                is_wall (s j.border)
                && not (beq (Z.colour w) (Z.colour j.to))
                && not (adjacent Z s Pot (potential_of Z s j.to)))
                _ h m (search T_and))))
            blocks (inr u) = T_not (adjacent Z s Pot Q) t (any-mem (λ c. any (touches Z s Q c) (Z.page.around c)) _ mw
                (any-mem (touches Z s Q w) _ m (let v = unlike in let z = eqb_refl Q in search T_and)))

    -- the mate in the solution
    record Mate : Type 0 where
      y : ℕ
      hy : y < Z.page.cells
      pot : potential_of Z s y ∈ Mates
      block : SameBlock Z σ cell y
      other : Z.colour y ≡ not (Z.colour cell)

    find-mate : Parts → Mate
    unfolding joins_block
    find-mate p =
        let b = sol.both cell (not (Z.colour cell)) on in
        let c = cross Z K σ on b.1 b.2 in
        let hw = join-in Z.page K (joins_unit Z σ) on c.same in
        let q = c.other ∙ ap not (unit-colour Z K σ on c.same) in
        record {
          y = c.over.to;
          hy = K.hop-in c.out c.over hw c.hop;
          pot = adjacent-mem c.out c.over hw c.hop (edge_stays Z K s σ Pot p.edg on refl c.same) q p
              c.opens;
          block = join-trans Z.page _ (unit-block Z K σ c.same) (step c.over c.hop c.opens (stay refl));
          other = c.other;
        }

    -- a cell of U goes to a cell of the mate
    in-unit : Parts → (x : ℕ) → x ∈ unit_cells Z s U → SameUnit Z σ cell x
    in-unit p x m =
        unit-keeps Z K s σ U p.ins on refl
        (number-joined Z.page K (joins_unit Z s) cell x on (members-lt Z.page (unit_of Z s) U x m)
        (sym (members-number Z.page (unit_of Z s) U x m)))

    module _ (p : Parts) (M : Mate) (C : Congruent Z σ cell M.y) where
      abbrev place : ℕ → Point
      place = Z.page.place

      -- u: a listed transform with the cells of the mate's turn; E: what it is as a turned copy
      module _ (u : Shape) (A : CopyCells Z.page (unit_of Z s) U C.turn u)
          (g : Point → Point) (gm : g ∈ Z.page.turns) (E : Copy Z.page (unit_of Z s) U g u) where
        seat : (q : ℕ) × SameUnit Z σ M.y q × (place q ≡ C.turn (place A.from) ⊕ C.shift)
        seat = C.onto A.from (in-unit p A.from A.from_in)

        -- the cell that the origin of the transform lies on
        abbrev o : ℕ
        o = seat.0

        landed : (t : Point) → t ∈ u.cells → (q : ℕ) × SameUnit Z σ M.y q × (place q ≡ place o ⊕ t)
        landed t m =
            let r = A.cell-is t m in
            let q = C.onto r.0 (in-unit p r.0 r.1) in (
              q.0,
              q.1,
              q.2 ∙ (sym (lands (C.turn (place r.0)) (C.turn (place A.from)) C.shift)
                  ∙ (ap (λ z. z ⊕ (C.turn (place r.0) ⊕ opposite (C.turn (place A.from))))
                  (sym seat.2)
                  ∙ ap (λ z. place o ⊕ z) (sym r.2))),
            )

        fine : (d : Point) → d ∈ u.connections → BorderFine σ (Z.page.reads (place o ⊕ place o ⊕ d))
        fine d m = go (E.connection-is d m)
          where
            copied : ℕ → Point
            copied x = g (place x) ⊕ opposite (g (place E.from))

            go : (c : ℕ) × (h : Hop) × c ∈ unit_cells Z s U × h ∈ Z.page.ahead c × (unit_of Z s h.to ≡ U) ×
                (d ≡ copied c ⊕ copied h.to) → BorderFine σ (Z.page.reads (place o ⊕ place o ⊕ d))
            go r = read (landed (copied r.0) (E.is-cell r.0 r.2))
                (landed (copied r.1.to) (E.is-cell r.1.to mt))
              where
                hc : r.0 < Z.page.cells
                hc = members-lt Z.page (unit_of Z s) U r.0 r.2

                am : r.1 ∈ Z.page.around r.0
                am = K.ahead-around r.0 r.1 hc r.3

                mt : r.1.to ∈ unit_cells Z s U
                mt = mem-members Z.page (unit_of Z s) U r.1.to (K.hop-in r.0 r.1 hc am) r.4

                near : OneStep (copied r.0) (copied r.1.to)
                near = near-right _ (near-turn Z.page.turns P.turns-ok g gm (P.hop-near r.0 r.1 hc am))

                read : (q : ℕ) × SameUnit Z σ M.y q × (place q ≡ place o ⊕ copied r.0)
                    → (q : ℕ) × SameUnit Z σ M.y q × (place q ≡ place o ⊕ copied r.1.to)
                    → BorderFine σ (Z.page.reads (place o ⊕ place o ⊕ d))
                read a b =
                    let ha = join-in Z.page K (joins_unit Z σ) M.hy a.1 in
                    let hb = join-in Z.page K (joins_unit Z σ) M.hy b.1 in
                    let ab = join-trans Z.page (joins_unit Z σ) (join-sym Z.page K (joins_unit Z σ) M.hy a.1)
                    b.1 in
                    let h = P.near-hop a.0 b.0 ha hb (near-eq a.2 b.2 (near-left (place o) near))
                    in
                    let e : place o ⊕ place o ⊕ d ≡ place a.0 ⊕ place h.0.to =
                    ap (λ z. place o ⊕ place o ⊕ z) r.5
                    ∙ (swap4 (place o) (place o) (copied r.0) (copied r.1.to)
                    ∙ (ap (λ z. z ⊕ (place o ⊕ copied r.1.to)) (sym a.2)
                    ∙ ap (λ z. place a.0 ⊕ z) (sym b.2 ∙ ap place (sym h.2)))) in
                    record {
                      border = h.0.border;
                      is = ap Z.page.reads e ∙ P.hop-reads a.0 h.0 ha h.1;
                      same = colour-hop Z K a.0 h.0 ha h.1
                          (unit-colour Z K σ ha ab ∙ ap Z.colour (sym h.2));
                      free = sol.no_wall a.0 h.0 ha h.1 (rw h.2 (unit-block Z K σ ab));
                    }

        tried : laid Z s u o ∈ map (laid Z s u) (potential_cells Z s (potential_of Z s M.y))
        tried = mem-map (laid Z s u) (mem-members Z.page (potential_of Z s) _ o
            (join-in Z.page K (joins_unit Z σ) M.hy seat.1)
            (edge_stays Z K s σ (potential_of Z s M.y) (p.edges _ M.pot) M.hy refl seat.1))

        outcome : (laid Z s u o ≡ Fits) ⊎
            ((b : ℕ) × (laid Z s u o ≡ Blocked b) × (σ b ≡ decided Wall → ⊥))
        unfolding laid
        outcome = judged σ none _ (λ q m. let r =
            map-find (λ (d : Point). Z.page.reads (place o ⊕ place o ⊕ d)) u.connections m in
            subst (BorderFine σ) (sym r.2) (fine r.0 r.1))
            (λ b e. let z : ◌≡◌ {A = ℕ} 0 1 = cc in absurd (omega arith))

        no_place : u ∈ transforms_of Z s U → T (not (any (is_fit Z s) Laid)) → ⊥
        unfolding placements
        no_place um t = go outcome
          where
            mem : laid Z s u o ∈ Laid
            mem = mem-flat (λ (v : Shape). flat_map (λ Q. map (laid Z s v) (potential_cells Z s Q)) Mates) um
                (mem-flat (λ Q. map (laid Z s u) (potential_cells Z s Q)) M.pot tried)

            go : (laid Z s u o ≡ Fits) ⊎
                ((b : ℕ) × (laid Z s u o ≡ Blocked b) × (σ b ≡ decided Wall → ⊥)) → ⊥
            go (inl e) = T_not (any (is_fit Z s) Laid) t (any-mem (is_fit Z s) Laid mem (rw e tt))
            go (inr r) = r.2 (p.blocks _ mem r.0 r.1)

    no-fit : T (not (any (is_fit Z s) Laid)) → Contains σ reason → ⊥
    no-fit t c =
        let p = parts c in
        let M = find-mate p in
        let C = sol.congruent cell M.y on M.block M.other in
        let m_u = mem-members Z.page (unit_of Z s) U cell on refl in
        let S = shape_of Z.page (unit_of Z s) U in
        let so = shape-based Z.page (unit_of Z s) U cell m_u in
        let h = I.has-turned S C.turn so C.listed in
        let i = I.is_turned S h.0 so h.2 in
        let uo = I.is-based S h.0 so h.2 in
        no_place p M C h.0 (copy-cells Z.page (unit_of Z s) U cell m_u Z.page.turns P.turns-ok C.turn
        C.listed h.0 h.1 h.3 uo) i.0 i.2
        (copy Z.page (unit_of Z s) U cell m_u Z.page.turns P.turns-ok i.0 i.2 h.0 i.1 i.3 uo
        i.4)
        (subst (λ (us : List Shape). h.0 ∈ us)
        (sym (transforms-listed Z s U (number_lt Z.page (joins_unit Z s) (omega arith) cell on))) h.2) t

  sound-on : (U : ℕ) (xs : List ℕ) → ((x : ℕ) → x ∈ xs → x ∈ unit_cells Z s U) → Each (Sound Z) (unit_hit_on Z s U xs)
  unfolding unit_hit_on unit_hit_in Sound
  sound-on U [] m = each_none (Sound Z)
  sound-on U (x ∷ xs) m =
      let k = m x (Memᴰ.head refl) in
      let hx = members-lt Z.page (unit_of Z s) U x k in
      let q = members-number Z.page (unit_of Z s) U x k in
      each-hit (Sound Z) _ _ (λ t σ sol c. no-fit x hx σ sol (rw (← q) at t) (rw (← q) at c))

  pub sound-unit : (U : ℕ) → Each (Sound Z) (unit_hit Z s U)
  unfolding unit_hit
  sound-unit U = sound-on U (unit_cells Z s U) (λ x m. m)
