-- A placement that fits on a full board: the copy of the unit lies within the unit it is laid on, and is all of it
-- where that unit is no larger.
--
--   landed              each cell of the unit has its copy in the unit of the placement's origin
--   congruent-to        so the two are congruent
use Rattle.std.specs.Prelude.{◌≡◌, refl, ◌⊎◌, ◌&&◌, ℕ, ◌≤◌, ◌<◌, T}
use Rattle.std.proofs.Common.{◌∙◌, ap, inl, inr}
use Rattle.std.proofs.Math.Path.{sym, subst}
use Rattle.std.proofs.Math.Option.{none}
use Rattle.lists.specs.Lists.{◌∈◌}
use Rattle.lists.specs.ListLaws.{mem-map}
use Rattle.lists.specs.Booleans.{T_and}
use Rattle.lists.specs.Lengths.{inject-onto}
use Rattle.rules.specs.Page.{Hop, Point, ◌⊕◌, opposite, Puzzle, State, is_open}
use Rattle.rules.specs.Rules.{stay, one_colour, joins_unit, SameUnit, Congruent, step}
use Rattle.rules.specs.Groups.{unit_of}
use Rattle.rules.specs.Check.{laid}
use Rattle.laws.specs.PageLaws.{Bordered, OneStep, CellsPlaced, near-turn, near-right, near-left, near-eq}
use Rattle.laws.specs.PointLaws.{add_assoc, add_comm, add-origin, add-opposite, cancel, swap4}
use Rattle.laws.specs.Copies.{Copy}
use Rattle.laws.specs.RuleLaws.{join-trans, join-in}
use Rattle.laws.specs.GroupLaws.{number-joined, hop-number, mem-members, members-lt, members-number, members-distinct}
use Rattle.laws.specs.GroupLaws.{unit_cells, own_unit}
use Rattle.argument.specs.Demand.{Full}
use Rattle.argument.specs.Sizes.{unit_size, unit_mem, mem_unit}
use Rattle.argument.specs.Fulls.{open_of}
use Rattle.argument.specs.Fits.{Reads, fits_all, Fit}

-- a placement that fits, its shape the unit of x turned by g
module _ (Z : Puzzle) (K : Bordered Z.page) (P : CellsPlaced Z.page) (s : ℕ → State) (full : Full Z s)
    (x : ℕ) (hx : x < Z.page.cells) (F : Fit Z s x) (ho : F.at < Z.page.cells) (g : Point → Point)
    (gm : g ∈ Z.page.turns) (E : Copy Z.page (unit_of Z s) (unit_of Z s x) g F.shape) where
  abbrev U : ℕ
  U = unit_of Z s x

  abbrev place : ℕ → Point
  place = Z.page.place

  abbrev o : Point
  o = place F.at

  abbrev copied : ℕ → Point
  copied y = g (place y) ⊕ opposite (g (place E.from))

  reads-ahead : (c : ℕ) (h : Hop) → c ∈ unit_cells Z s U → h ∈ Z.page.ahead c → unit_of Z s h.to ≡ U
      → Reads Z s (Z.page.reads (o ⊕ o ⊕ (copied c ⊕ copied h.to)))
  unfolding laid
  reads-ahead c h m n e = (fits_all Z s none _ F.lies).1 _
      (mem-map (λ (d : Point). Z.page.reads (o ⊕ o ⊕ d)) (E.is-connection c h m n e))

  record Landed (y : ℕ) : Type 0 where
    q : ℕ
    unit : SameUnit Z s F.at q
    spot : place q ≡ o ⊕ copied y

  reads-across : (y : ℕ) (j : Hop) → y < Z.page.cells → j ∈ Z.page.around y → unit_of Z s y ≡ U
      → unit_of Z s j.to ≡ U → Reads Z s (Z.page.reads (o ⊕ o ⊕ (copied y ⊕ copied j.to)))
  reads-across y j hy m e f = go (K.ahead-all y j hy m)
    where
      go : j ∈ Z.page.ahead y ⊎ record { border = j.border; to = y } ∈ Z.page.ahead j.to
          → Reads Z s (Z.page.reads (o ⊕ o ⊕ (copied y ⊕ copied j.to)))
      go (inl n) = reads-ahead y j (mem-members Z.page (unit_of Z s) U y hy e) n f
      go (inr n) = subst (λ (d : Point). Reads Z s (Z.page.reads (o ⊕ o ⊕ d))) (add_comm (copied j.to) (copied y))
          (reads-ahead j.to (record { border = j.border; to = y })
          (mem-members Z.page (unit_of Z s) U j.to (K.hop-in y j hy m) f) n e)

  walk : {z y : ℕ} → y < Z.page.cells → unit_of Z s y ≡ U → Landed y → SameUnit Z s y z → Landed z
  unfolding joins_unit
  walk hy e L (stay f) = subst Landed f L
  walk {z} {y} hy e L (step j m t r) = walk ht f (next (reads-across y j hy m e f)) r
    where
      ht : j.to < Z.page.cells
      ht = K.hop-in y j hy m

      f : unit_of Z s j.to ≡ U
      f = sym (hop-number Z.page K (joins_unit Z s) y j hy m t) ∙ e

      hq : L.q < Z.page.cells
      hq = join-in Z.page K (joins_unit Z s) ho L.unit

      near : OneStep (place L.q) (o ⊕ copied j.to)
      near = near-eq L.spot refl (near-left o
          (near-right _ (near-turn Z.page.turns P.turns-ok g gm (P.hop-near y j hy m))))

      next : Reads Z s (Z.page.reads (o ⊕ o ⊕ (copied y ⊕ copied j.to))) → Landed j.to
      next R =
          let h = P.reads-hop L.q (o ⊕ copied j.to) R.border hq near
          (ap Z.page.reads
          (ap (λ w. w ⊕ (o ⊕ copied j.to)) L.spot ∙ sym (swap4 o o (copied y) (copied j.to))) ∙ R.is) in
          let hb : R.border < Z.page.borders = rw (← h.2) (K.hop-border L.q h.0 hq h.1) in
          let u = open_of Z K s full R.border hb R.free in
          let v = R.same in
          let w : T (is_open (s R.border) && one_colour Z R.border) = search T_and in
          record {
            q = h.0.to;
            unit = join-trans Z.page (joins_unit Z s) L.unit (step h.0 h.1 (rw h.2 w) (stay refl));
            spot = h.3;
          }

  start : Landed E.from
  start = record {
    q = F.at;
    unit = stay refl;
    spot =
        sym (ap (λ w. o ⊕ w) (add-opposite (g (place E.from))) ∙ add-origin o);
  }

  landed : (y : ℕ) → SameUnit Z s x y → Landed y
  landed y j = let hf = members-lt Z.page (unit_of Z s) U E.from E.from_in in
      let ef = members-number Z.page (unit_of Z s) U E.from E.from_in in
      walk hf ef start (join-trans Z.page (joins_unit Z s)
      (number-joined Z.page K (joins_unit Z s) E.from x hf hx ef) j)

  shift : Point
  shift = o ⊕ opposite (g (place E.from))

  shifted : (y : ℕ) → o ⊕ copied y ≡ g (place y) ⊕ shift
  unfolding shift
  shifted y = sym (add_assoc o (g (place y)) _)
      ∙ (ap (λ w. w ⊕ opposite (g (place E.from))) (add_comm o (g (place y))) ∙ add_assoc (g (place y)) o _)

  pub congruent-to : (y : ℕ) → y < Z.page.cells → SameUnit Z s y F.at → unit_size Z s y ≤ unit_size Z s x
      → Congruent Z s x y
  unfolding unit_size
  congruent-to y hy ya le = record {
    turn = g;
    listed = gm;
    shift = shift;
    onto = onto;
    from = λ q k.
        let r = inject-onto (λ p q. place q ≡ g (place p) ⊕ shift) (own_unit Z s y) (unit_cells Z s U)
        (members-distinct Z.page (unit_of Z s) U)
        (λ p m. let n = onto p (mem_unit Z K s x p hx m) in (n.0, unit_mem Z K s y n.0 hy n.1, n.2))
        (λ p r z m n e f.
        P.place-inj p r (members-lt Z.page (unit_of Z s) U p m) (members-lt Z.page (unit_of Z s) U r n)
        (P.turns-ok.inj g gm _ _ (cancel _ _ shift (sym e ∙ f))))
        le q (unit_mem Z K s y q hy k) in
        (r.0, mem_unit Z K s x r.0 hx r.1, r.2);
  }
    where
      onto : (p : ℕ) → SameUnit Z s x p → (q : ℕ) × SameUnit Z s y q × (place q ≡ g (place p) ⊕ shift)
      onto p j = let L = landed p j in (L.q, join-trans Z.page (joins_unit Z s) ya L.unit, L.spot ∙ shifted p)
