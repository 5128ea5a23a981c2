-- Steps 1 and 2 name no border twice: Inside, Edge and Path do not by themselves, Inside and Path have open borders,
-- and Edge has walls. So repeats come from step 3 alone.
--
--   NoTwice r           no border is named twice in r
--   inside-once, edge-once, path-once  Inside, Edge and Path are so
--   blocks-once, walls-once  every hit of step 1, and of step 2, is so
use Rattle.std.specs.Prelude.{◌≡◌, refl, ◌⊎◌, Bool, true, false, ◌&&◌, cond, ℕ, ◌<◌, eqb}
use Rattle.std.proofs.Common.{◌∙◌, inl, inr}
use Rattle.std.proofs.Math.Path.{ap, sym, subst}
use Rattle.std.proofs.Math.Bool.{not}
use Rattle.std.specs.Bool.{beq}
use mathlib.Core.List.Memᴰ
use mathlib.Core.List.{List, [], ◌∷◌, ◌++◌, map, map-append, append-nil}
use Rattle.std.proofs.Math.Dec.{T, eqb_refl, T_not}
use Rattle.lists.specs.Lists.{◌∈◌, Distinct, filter, flat_map, first_hit, range}
use Rattle.lists.specs.ListLaws.{filter-mem, filter-test, map-find, flat-find}
use Rattle.lists.specs.Booleans.{T-and-l, T-and-r}
use Rattle.lists.specs.Maps.{map-map}
use Rattle.lists.specs.Flats.{map-flat}
use Rattle.lists.specs.Pairs.{distinct_append, distinct-flat, distinct-kept}
use Rattle.rules.specs.declared.Side.{Side}
use Rattle.rules.specs.declared.Side.TheVariants.{Wall, Open}
use Rattle.rules.specs.declared.Literal.{Literal}
use Rattle.rules.specs.Page.{Hop, Puzzle, State, is_wall, is_open, wall_at, open_at}
use Rattle.rules.specs.Groups.{members, block_of, block_count, potential_of}
use Rattle.rules.specs.Reasons.{gather, inside_at, inside, edge_at, edge, Found, is_found, trace, hunt, path}
use Rattle.rules.specs.Check.{Reason, inside_block, edge_of, block_hit, wall_hits, borders_named}
use Rattle.laws.specs.PageLaws.{Bordered, hop_borders, HopsOnce}
use Rattle.laws.specs.GroupLaws.{members-lt, members-number, members-distinct}
use Rattle.laws.specs.StateLaws.{open-not-wall, wall-is}
use Rattle.argument.specs.Hits.{Each}
use Rattle.argument.specs.Forms.{EarlyForms, blocks-form, walls-form}
use Rattle.argument.specs.Paths.{PathReached, reached-new, reached-old, Chain, found_all, path-traced}

abbrev pub NoTwice : Reason → Type 0
NoTwice r = Distinct (borders_named r)

-- ---- what is gathered at a cell
gather-borders : (side : Side) (p : Hop → Bool) (hs : List Hop)
    → borders_named (gather side p hs) ≡ hop_borders (filter p hs)
unfolding gather
gather-borders side p hs =
    map-map (λ (l : Literal). l.border) (λ (h : Hop). record { border = h.border; side = side }) (filter p hs)

gather-once : (side : Side) (p : Hop → Bool) (hs : List Hop) → Distinct (hop_borders hs) → NoTwice (gather side p hs)
gather-once side p hs d = rw (gather-borders side p hs) (distinct-kept (λ (h : Hop). h.border) p hs d)

gather-find : (side : Side) (p : Hop → Bool) (hs : List Hop) {b : ℕ} → b ∈ borders_named (gather side p hs)
    → (h : Hop) × h ∈ hs × T (p h) × (b ≡ h.border)
gather-find side p hs m =
    let r = map-find (λ (h : Hop). h.border) (filter p hs) (rw (gather-borders side p hs) at m) in
    (r.0, filter-mem p hs r.1, filter-test p hs r.1, r.2)

-- a list for each cell of a group
cells-once : (f : ℕ → Reason) (xs : List ℕ) → Distinct xs → ((c : ℕ) → c ∈ xs → NoTwice (f c))
    → ((c d b : ℕ) → c ∈ xs → d ∈ xs → b ∈ borders_named (f c) → b ∈ borders_named (f d) → c ≡ d)
    → NoTwice (flat_map f xs)
cells-once f xs d e n =
    rw (map-flat (λ (l : Literal). l.border) f xs) (distinct-flat (λ c. borders_named (f c)) xs d e n)

-- which cell's list names a border
named-find : (f : ℕ → Reason) (xs : List ℕ) {b : ℕ} → b ∈ borders_named (flat_map f xs)
    → (c : ℕ) × c ∈ xs × b ∈ borders_named (f c)
named-find f xs m = flat-find (λ c. borders_named (f c)) xs (rw (map-flat (λ (l : Literal). l.border) f xs) at m)

module _ (Z : Puzzle) (K : Bordered Z.page) (H : HopsOnce Z.page) (s : ℕ → State) where
  pub inside-once : (number : ℕ → ℕ) (g : ℕ) → NoTwice (inside Z.page s number g)
  unfolding inside inside_at
  inside-once number g =
      cells-once (inside_at Z.page s number g) (members Z.page number g) (members-distinct Z.page number g)
      (λ c m. gather-once Open _ _ (H.ahead-once c (low c m)))
      (λ c d b m n p q.
      let h = gather-find Open _ (Z.page.ahead c) p in
      let k = gather-find Open _ (Z.page.ahead d) q in
      sym (H.ahead-first c h.0 (low c m) h.1)
      ∙ ap Z.page.first (sym h.3 ∙ k.3)
      ∙ H.ahead-first d k.0 (low d n) k.1)
    where
      low : (c : ℕ) → c ∈ members Z.page number g → c < Z.page.cells
      low = members-lt Z.page number g

  -- two hops over one border: from one cell, or each leads to where the other starts
  one-border : (c d : ℕ) (h k : Hop) → c < Z.page.cells → d < Z.page.cells → h ∈ Z.page.around c
      → k ∈ Z.page.around d → h.border ≡ k.border → (c ≡ d) ⊎ (c ≡ k.to)
  one-border c d h k hc hd m n e = go (K.hop-ends c h hc m) (K.hop-ends d k hd n)
    where
      go : ((Z.page.first h.border ≡ c) × (Z.page.second h.border ≡ h.to))
          ⊎ ((Z.page.first h.border ≡ h.to) × (Z.page.second h.border ≡ c))
          → ((Z.page.first k.border ≡ d) × (Z.page.second k.border ≡ k.to))
          ⊎ ((Z.page.first k.border ≡ k.to) × (Z.page.second k.border ≡ d))
          → (c ≡ d) ⊎ (c ≡ k.to)
      go (inl p) (inl q) = inl (sym p.0 ∙ ap Z.page.first e ∙ q.0)
      go (inl p) (inr q) = inr (sym p.0 ∙ ap Z.page.first e ∙ q.0)
      go (inr p) (inl q) = inr (sym p.1 ∙ ap Z.page.second e ∙ q.1)
      go (inr p) (inr q) = inl (sym p.1 ∙ ap Z.page.second e ∙ q.1)

  pub edge-once : (number : ℕ → ℕ) (g : ℕ) → NoTwice (edge Z.page Z.colour s number g)
  unfolding edge edge_at
  edge-once number g =
      cells-once (edge_at Z.page Z.colour s number g) (members Z.page number g)
      (members-distinct Z.page number g)
      (λ c m. gather-once Wall _ _ (H.around-once c (low c m)))
      (λ c d b m n p q.
      let h = gather-find Wall _ (Z.page.around c) p in
      let k = gather-find Wall _ (Z.page.around d) q in
      inner c d k.0 m k.2
      (one-border c d h.0 k.0 (low c m) (low d n) h.1 k.1 (sym h.3 ∙ k.3)))
    where
      low : (c : ℕ) → c ∈ members Z.page number g → c < Z.page.cells
      low = members-lt Z.page number g

      -- the cell behind the border is outside the group
      inner : (c d : ℕ) (k : Hop) → c ∈ members Z.page number g
          → T (beq (Z.colour d) (Z.colour k.to) && not (eqb (number k.to) g) && is_wall (s k.border))
          → (c ≡ d) ⊎ (c ≡ k.to) → c ≡ d
      inner c d k m t (inl e) = e
      inner c d k m t (inr e) =
          let out = T-and-r (beq (Z.colour d) (Z.colour k.to)) _
          (T-and-l (beq (Z.colour d) (Z.colour k.to) && not (eqb (number k.to) g)) _ t) in
          let in_group : number k.to ≡ g = ap number (sym e) ∙ members-number Z.page number g c m in
          absurd (T_not (eqb (number k.to) g) out (rw in_group (eqb_refl g)))

  -- ---- the borders of Inside and Path are open, those of Edge are walls
  inside-opens : (number : ℕ → ℕ) (g b : ℕ) → b ∈ borders_named (inside Z.page s number g) → T (is_open (s b))
  unfolding inside inside_at
  inside-opens number g b m =
      let r = named-find (inside_at Z.page s number g) (members Z.page number g) m in
      let h = gather-find Open _ (Z.page.ahead r.0) r.2 in
      subst (λ (d : ℕ). T (is_open (s d))) (sym h.3) (T-and-r (eqb (number h.0.to) g) _ h.2)

  edge-walls : (number : ℕ → ℕ) (g b : ℕ) → b ∈ borders_named (edge Z.page Z.colour s number g)
      → T (is_wall (s b))
  unfolding edge edge_at
  edge-walls number g b m =
      let r = named-find (edge_at Z.page Z.colour s number g) (members Z.page number g) m in
      let h = gather-find Wall _ (Z.page.around r.0) r.2 in
      subst (λ (d : ℕ). T (is_wall (s d))) (sym h.3)
      (T-and-r (beq (Z.colour r.0) (Z.colour h.0.to) && not (eqb (number h.0.to) g)) _ h.2)

  apart : (b : ℕ) → T (is_open (s b)) → T (is_wall (s b)) → ⊥
  apart b o t = open-not-wall (s b) o (wall-is (s b) t)

  -- ---- Path
  module _ (a : ℕ) (ha : a < Z.page.cells) where
    -- an open border whose ends are both reached
    record Crossed (f : List Found) (b : ℕ) : Type 0 where
      opens : T (is_open (s b))
      ends : (c : ℕ) (h : Hop) → c < Z.page.cells → h ∈ Z.page.around c → h.border ≡ b → PathReached Z K s a ha f c

    -- so is what a found cell was found over
    crossed : (f : List Found) → Chain Z K s a ha f → (b : ℕ) → b ∈ map (λ (e : Found). e.over) f → Crossed f b
    crossed [] ch b m = absurd (Memᴰ.not-nil m)
    crossed (e ∷ f) ch b m = go (Memᴰ.cases_cons m) (crossed f ch.1 b)
      where
        end : (c : ℕ) → (c ≡ e.from) ⊎ (c ≡ e.cell) → PathReached Z K s a ha (e ∷ f) c
        end c (inl q) = rw q (reached-old Z K s a ha f e e.from ch.0.known)
        end c (inr q) = rw q (reached-new Z K s a ha f e)

        go : (b ≡ e.over) ⊎ b ∈ map (λ (d : Found). d.over) f
            → (b ∈ map (λ (d : Found). d.over) f → Crossed f b) → Crossed (e ∷ f) b
        go (inl q) i =
            record {
              opens = rw q ch.0.opens;
              ends = λ c h hc n p.
                  end c
                  (one-border c e.from h (record { border = e.over; to = e.cell }) hc ch.0.from_in n
                  ch.0.hop (p ∙ q));
            }
        go (inr k) i =
            record { opens = (i k).opens; ends = λ c h hc n p. reached-old Z K s a ha f e c ((i k).ends c h hc n p) }

    -- the borders of the way back are among them
    trace-over : (f : List Found) (x b : ℕ) → b ∈ borders_named (trace f x) → b ∈ map (λ (e : Found). e.over) f
    unfolding trace
    trace-over [] x b m = m
    trace-over (e ∷ f) x b m = go (eqb x e.cell) m (trace-over f e.from b) (trace-over f x b)
      where
        cons : (b ≡ e.over) ⊎ b ∈ borders_named (trace f e.from)
            → (b ∈ borders_named (trace f e.from) → b ∈ map (λ (d : Found). d.over) f)
            → b ∈ map (λ (d : Found). d.over) (e ∷ f)
        cons (inl q) i = Memᴰ.head q
        cons (inr k) i = Memᴰ.tail (i k)

        go : (v : Bool) → b ∈ borders_named (cond v (open_at e.over ∷ trace f e.from) (trace f x))
            → (b ∈ borders_named (trace f e.from) → b ∈ map (λ (d : Found). d.over) f)
            → (b ∈ borders_named (trace f x) → b ∈ map (λ (d : Found). d.over) f)
            → b ∈ map (λ (d : Found). d.over) (e ∷ f)
        go true n i j = cons (Memᴰ.cases_cons n) i
        go false n i j = Memᴰ.tail (j n)

    trace-once : (f : List Found) (x : ℕ) → Chain Z K s a ha f → NoTwice (trace f x)
    unfolding trace
    trace-once [] x ch = tt
    trace-once (e ∷ f) x ch =
        go (eqb x e.cell) (trace-once f e.from ch.1) (trace-once f x ch.1)
      where
        fresh : e.over ∈ borders_named (trace f e.from) → ⊥
        fresh m =
            let h : Hop = record { border = e.over; to = e.cell } in
            let back = K.hop-back e.from h ch.0.from_in ch.0.hop in
            let on = K.hop-in e.from h ch.0.from_in ch.0.hop in
            T_not (is_found a f e.cell) ch.0.new
            ((crossed f ch.1 e.over (trace-over f e.from e.over m)).ends e.cell _ on back refl)

        go : (v : Bool) → NoTwice (trace f e.from) → NoTwice (trace f x)
            → NoTwice (cond v (open_at e.over ∷ trace f e.from) (trace f x))
        go true i j = (fresh, i)
        go false i j = j

    pub path-once : (b : ℕ) → b < Z.page.cells → NoTwice (path Z.page s a b)
    path-once b hb = rw (path-traced Z K s a ha b hb) (trace-once _ b (found_all Z K s a ha).chain)

    path-opens : (b : ℕ) → b < Z.page.cells → (d : ℕ) → d ∈ borders_named (path Z.page s a b)
        → T (is_open (s d))
    path-opens b hb d m =
        (crossed (hunt Z.page s Z.page.cells a (a ∷ []) []) (found_all Z K s a ha).chain d
        (trace-over _ b d (subst (λ (r : Reason). d ∈ borders_named r) (path-traced Z K s a ha b hb) m))).opens

  -- ---- the forms of steps 1 and 2
  both-once : (r q : Reason) → NoTwice r → NoTwice q
      → ((b : ℕ) → b ∈ borders_named r → b ∈ borders_named q → ⊥) → NoTwice (r ++ q)
  both-once r q d e n =
      rw (map-append (λ (l : Literal). l.border) r q) (distinct_append (borders_named r) (borders_named q) d e n)

  inside-edge : (B P b : ℕ) → b ∈ borders_named (inside_block Z s B) → b ∈ borders_named (edge_of Z s P) → ⊥
  unfolding inside_block edge_of
  inside-edge B P b m n = apart b (inside-opens (block_of Z s) B b m) (edge-walls (potential_of Z s) P b n)

  block-once : (B : ℕ) → NoTwice (inside_block Z s B)
  unfolding inside_block
  block-once B = inside-once (block_of Z s) B

  potential-once : (P : ℕ) → NoTwice (edge_of Z s P)
  unfolding edge_of
  potential-once P = edge-once (potential_of Z s) P

  early-forms : EarlyForms Z s NoTwice
  early-forms =
      record {
        in_edge = λ B P.
            both-once (inside_block Z s B) (edge_of Z s P) (block-once B) (potential-once P) (inside-edge B P);
        in_only = block-once;
        edge_only = λ P. rw (append-nil (edge_of Z s P)) (potential-once P);
        edge_in = λ B P.
            both-once (edge_of Z s P) (inside_block Z s B) (potential-once P) (block-once B)
            (λ b m n. inside-edge B P b n m);
        wall = λ x h hx m t.
            let on = K.hop-in x h hx (K.ahead-around x h hx m) in
            both-once (path Z.page s x h.to) (wall_at h.border ∷ []) (path-once x hx h.to on)
            (λ n. Memᴰ.not-nil n, tt)
            (λ b p q.
            apart b (path-opens x hx h.to on b p)
            (subst (λ (d : ℕ). T (is_wall (s d))) (sym (Memᴰ.eq_of_singleton q)) t));
      }

  pub blocks-once : Each NoTwice (first_hit (block_hit Z s) (range (block_count Z s)))
  blocks-once = blocks-form Z s NoTwice early-forms

  pub walls-once : Each NoTwice (first_hit (wall_hits Z s) (range Z.page.cells))
  walls-once = walls-form Z s NoTwice early-forms
