-- Inside keeps a group joined in every setting that contains it; Edge keeps a unit within its potential unit.
--
--   inside-open              an open border between two cells of a group is in its Inside
--   block-keeps, unit-keeps  what contains Inside has the group's cells in one block, in one unit
--   edge_stays               what contains Edge(P) has the unit of a cell of P within P
use Rattle.std.specs.Prelude.{◌≡◌, ◌⊎◌, Bool, ◌&&◌, ℕ, ◌<◌}
use Rattle.std.proofs.Common.{◌∙◌, sym, inl, inr, eqb→eq}
use Rattle.std.proofs.Math.Bool.{not, beq}
use Rattle.std.proofs.Math.Dec.{eqb, T, eqb_refl}
use Rattle.lists.specs.Lists.{◌∈◌}
use Rattle.lists.specs.ListLaws.{mem-flat}
use Rattle.lists.specs.Booleans.{T-and-l, T-and-r, T_and, T-dec, eq-beq}
use Rattle.lists.specs.Arithmetic.{neqb→ne}
use Rattle.rules.specs.declared.Side.TheVariants.{Wall, Open}
use Rattle.rules.specs.Page.{Hop, Puzzle, State, decided, Contains, is_wall, is_open, wall_at, open_at}
use Rattle.rules.specs.Rules.{Joined, stay, joins_block, joins_unit, step}
use Rattle.rules.specs.Groups.{entry, numbers, joins_potential, block_of, unit_of, potential_of}
use Rattle.rules.specs.Reasons.{inside_at, inside, edge_at, edge}
use Rattle.rules.specs.Check.{inside_block, inside_unit, edge_of}
use Rattle.laws.specs.PageLaws.{Bordered}
use Rattle.laws.specs.RuleLaws.{hop-colour, colour-hop}
use Rattle.laws.specs.StateLaws.{has, open-not-wall}
use Rattle.laws.specs.GroupLaws.{hop-number, mem-members}
use Rattle.laws.specs.ReasonLaws.{mem-gather}

module _ (Z : Puzzle) (K : Bordered Z.page) (s : ℕ → State) where
  inside-mem : (number : ℕ → ℕ) (g x : ℕ) (h : Hop) → x < Z.page.cells → h ∈ Z.page.ahead x → number x ≡ g
      → number h.to ≡ g → T (is_open (s h.border)) →
      open_at h.border ∈ inside Z.page s number g
  unfolding inside inside_at
  inside-mem number g x h hx m e f t =
      let u : T (eqb (number h.to) g) = rw f (eqb_refl g) in
      mem-flat (inside_at Z.page s number g) (mem-members Z.page number g x hx e)
      (mem-gather Open (λ (j : Hop). eqb (number j.to) g && is_open (s j.border)) _ h m (search T_and))

  pub inside-open : (number : ℕ → ℕ) (g x : ℕ) (h : Hop) → x < Z.page.cells → h ∈ Z.page.around x → number x ≡ g
      → number h.to ≡ g → T (is_open (s h.border)) →
      open_at h.border ∈ inside Z.page s number g
  inside-open number g x h hx m e f t = go (K.ahead-all x h hx m)
    where
      go : h ∈ Z.page.ahead x ⊎ record { border = h.border; to = x } ∈ Z.page.ahead h.to
          → open_at h.border ∈ inside Z.page s number g
      go (inl n) = inside-mem number g x h hx n e f t
      go (inr n) = inside-mem number g h.to (record { border = h.border; to = x }) (K.hop-in x h hx m) n f e t

  -- a joined pair stays joined
  module _ (σ : ℕ → State) (link link' : ℕ → Bool) (k : ℕ) (opens : (b : ℕ) → T (link b) → T (is_open (s b)))
      (goes : (b : ℕ) → T (link b) → σ b ≡ decided Open → T (link' b))
      (c : Contains σ (inside Z.page s (entry (numbers Z.page link)) k)) where
    pub inside-keeps : {y x : ℕ} → x < Z.page.cells → entry (numbers Z.page link) x ≡ k → Joined Z.page link y x
        → Joined Z.page link' y x
    inside-keeps h e (stay q) = stay q
    inside-keeps {x} h e (step j m t r) =
        let f : entry (numbers Z.page link) j.to ≡ k = sym (hop-number Z.page K link x j h m t) ∙ e in
        step j m (goes j.border t (has σ _ c _
        (inside-open (entry (numbers Z.page link)) k x j h m e f (opens j.border t))))
        (inside-keeps (K.hop-in x j h m) f r)

  pub block-keeps : (σ : ℕ → State) (k : ℕ) → Contains σ (inside_block Z s k) → {x y : ℕ} → x < Z.page.cells
      → block_of Z s x ≡ k →
      Joined Z.page (joins_block Z s) y x → Joined Z.page (joins_block Z σ) y x
  unfolding joins_block inside_block
  block-keeps σ k c = inside-keeps σ (joins_block Z s) (joins_block Z σ) k (λ b t. t) (λ b t e. rw e tt) c

  pub unit-keeps : (σ : ℕ → State) (k : ℕ) → Contains σ (inside_unit Z s k) → {x y : ℕ} → x < Z.page.cells
      → unit_of Z s x ≡ k →
      Joined Z.page (joins_unit Z s) y x → Joined Z.page (joins_unit Z σ) y x
  unfolding joins_unit inside_unit
  unit-keeps σ k c = inside-keeps σ (joins_unit Z s) (joins_unit Z σ) k (λ b t. T-and-l (is_open (s b)) _ t)
      (λ b t e. let u : T (is_open (σ b)) = rw e tt in let v = T-and-r (is_open (s b)) _ t in search T_and) c

  edge-mem : (number : ℕ → ℕ) (g x : ℕ) (h : Hop) → x < Z.page.cells → h ∈ Z.page.around x → number x ≡ g
      → Z.colour x ≡ Z.colour h.to → T (not (eqb (number h.to) g)) → T (is_wall (s h.border)) →
      wall_at h.border ∈ edge Z.page Z.colour s number g
  unfolding edge edge_at
  edge-mem number g x h hx m e q f t =
      let u : T (beq (Z.colour x) (Z.colour h.to)) = eq-beq _ _ q in
      mem-flat (edge_at Z.page Z.colour s number g) (mem-members Z.page number g x hx e)
      (mem-gather Wall
      (λ (j : Hop).
      beq (Z.colour x) (Z.colour j.to) && not (eqb (number j.to) g) && is_wall (s j.border))
      _ h m (search T_and))

  pub edge_stays : (σ : ℕ → State) (k : ℕ) → Contains σ (edge_of Z s k) → {y x : ℕ} → x < Z.page.cells
      → potential_of Z s x ≡ k →
      Joined Z.page (joins_unit Z σ) y x → potential_of Z s y ≡ k
  unfolding joins_unit joins_potential edge_of
  edge_stays σ k c h e (stay q) = rw (← q) e
  edge_stays σ k c {y} {x} h e (step j m t r) =
      go (T-dec (eqb (potential_of Z s j.to) k)) (T-dec (is_wall (s j.border)))
      (λ f. edge_stays σ k c (K.hop-in x j h m) f r)
    where
      same : Z.colour x ≡ Z.colour j.to
      same = hop-colour Z K x j h m (T-and-r (is_open (σ j.border)) _ t)

      go : T (eqb (potential_of Z s j.to) k) ⊎ T (not (eqb (potential_of Z s j.to) k)) →
          T (is_wall (s j.border)) ⊎ T (not (is_wall (s j.border))) →
          (potential_of Z s j.to ≡ k → potential_of Z s y ≡ k) → potential_of Z s y ≡ k
      go (inl f) w ih = ih (eqb→eq _ _ f)
      go (inr f) (inl w) ih = absurd (open-not-wall (σ j.border) (T-and-l (is_open (σ j.border)) _ t)
          (has σ _ c _ (edge-mem (potential_of Z s) k x j h m e same f w)))
      go (inr f) (inr w) ih = absurd (neqb→ne _ _ f
          (sym (hop-number Z.page K (joins_potential Z s) x j h m
          (let v = colour-hop Z K x j h m same in search T_and))
          ∙ e))
