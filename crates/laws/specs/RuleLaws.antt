-- Laws of the rules' relations: joined is transitive and symmetric, and stays on the page; the cells of a unit have one
-- colour, and are of one block.
--
--   join-trans, join-sym, join-in   joined is transitive and symmetric, and stays on the page
--   join-weaken, join-map           borders that link, and link also in another sense
--   border-join                     the two cells of a border that links are joined
--   hop-colour, colour-hop          the two cells of a hop have one colour exactly when its border's cells have
--   joined-colour                   cells joined over borders of one colour have one colour
--   unit-colour, unit-block         the cells of a unit have one colour, and are of one block
use Rattle.std.specs.Prelude.{◌≡◌, refl, ◌⊎◌, Bool, ℕ, ◌<◌, T}
use Rattle.std.proofs.Common.{◌∙◌, ap, sym, inl, inr}
use Rattle.lists.specs.Lists.{◌∈◌}
use Rattle.lists.specs.Booleans.{T-and-l, T-and-r, beq-eq, eq-beq}
use Rattle.rules.specs.Page.{Hop, Page, Puzzle, State, is_open}
use Rattle.rules.specs.Rules.{Joined, stay, one_colour, joins_block, joins_unit, SameBlock, SameUnit, step}
use Rattle.laws.specs.PageLaws.{Bordered}

module _ (G : Page) (link : ℕ → Bool) where
  pub join-trans : {c d x : ℕ} → Joined G link c x → Joined G link d c → Joined G link d x
  join-trans (stay e) q = rw e q
  join-trans (step h m t r) q = step h m t (join-trans r q)

module _ (G : Page) (link link' : ℕ → Bool) where
  pub join-weaken : ((b : ℕ) → T (link b) → T (link' b)) → {c x : ℕ} → Joined G link c x → Joined G link' c x
  join-weaken f (stay e) = stay e
  join-weaken f (step h m t r) = step h m (f h.border t) (join-weaken f r)

  -- the same, for the borders of the page
  pub join-map : Bordered G → ((b : ℕ) → b < G.borders → T (link b) → T (link' b)) → {c x : ℕ} → x < G.cells
      → Joined G link c x → Joined G link' c x
  join-map K f h (stay e) = stay e
  join-map K f {x} h (step k m t r) =
      step k m (f k.border (K.hop-border x k h m) t) (join-map K f (K.hop-in x k h m) r)

module _ (G : Page) (K : Bordered G) (link : ℕ → Bool) where
  pub join-in : {c x : ℕ} → x < G.cells → Joined G link c x → c < G.cells
  join-in h (stay e) = rw (← e) h
  join-in {x} h (step k m t r) = join-in (K.hop-in x k h m) r

  pub join-sym : {c x : ℕ} → x < G.cells → Joined G link c x → Joined G link x c
  join-sym h (stay e) = stay (sym e)
  join-sym {x} h (step k m t r) =
      join-trans G link (join-sym (K.hop-in x k h m) r)
      (step (record { border = k.border; to = x }) (K.hop-back x k h m) t (stay refl))

  pub border-join : (b : ℕ) → b < G.borders → T (link b) → Joined G link (G.second b) (G.first b)
  border-join b h t = step (record { border = b; to = G.second b }) (K.first-hop b h) t (stay refl)

module _ (Z : Puzzle) (K : Bordered Z.page) where
  -- the two ends of a border, whichever way it is crossed
  pub hop-colour : (x : ℕ) (h : Hop) → x < Z.page.cells → h ∈ Z.page.around x →
      T (one_colour Z h.border) → Z.colour x ≡ Z.colour h.to
  unfolding one_colour
  hop-colour x h hx m t = go (K.hop-ends x h hx m) (beq-eq _ _ t)
    where
      go : ((Z.page.first h.border ≡ x) × (Z.page.second h.border ≡ h.to)) ⊎
          ((Z.page.first h.border ≡ h.to) × (Z.page.second h.border ≡ x)) →
          Z.colour (Z.page.first h.border) ≡ Z.colour (Z.page.second h.border)
          → Z.colour x ≡ Z.colour h.to
      go (inl e) q = cc (e.0, e.1, q)
      go (inr e) q = cc (e.0, e.1, q)

  pub colour-hop : (x : ℕ) (h : Hop) → x < Z.page.cells → h ∈ Z.page.around x → Z.colour x ≡ Z.colour h.to →
      T (one_colour Z h.border)
  unfolding one_colour
  colour-hop x h hx m q = eq-beq _ _ (go (K.hop-ends x h hx m))
    where
      go : ((Z.page.first h.border ≡ x) × (Z.page.second h.border ≡ h.to)) ⊎
          ((Z.page.first h.border ≡ h.to) × (Z.page.second h.border ≡ x)) →
          Z.colour (Z.page.first h.border) ≡ Z.colour (Z.page.second h.border)
      go (inl e) = cc (e.0, e.1, q)
      go (inr e) = cc (e.0, e.1, q)

  pub joined-colour : (link : ℕ → Bool) → ((b : ℕ) → T (link b) → T (one_colour Z b)) → {y x : ℕ} → x < Z.page.cells
      → Joined Z.page link y x → Z.colour x ≡ Z.colour y
  joined-colour link f h (stay e) = ap Z.colour e
  joined-colour link f {x} h (step j m t r) =
      hop-colour x j h m (f j.border t) ∙ joined-colour link f (K.hop-in x j h m) r

module _ (Z : Puzzle) (K : Bordered Z.page) (σ : ℕ → State) where
  pub unit-colour : {x y : ℕ} → x < Z.page.cells → SameUnit Z σ x y → Z.colour x ≡ Z.colour y
  unfolding joins_unit
  unit-colour h j = joined-colour Z K (joins_unit Z σ) (λ b t. T-and-r (is_open (σ b)) _ t) h j

  pub unit-block : {x y : ℕ} → SameUnit Z σ x y → SameBlock Z σ x y
  unfolding joins_unit joins_block
  unit-block j = join-weaken Z.page (joins_unit Z σ) (joins_block Z σ) (λ b t. T-and-l (is_open (σ b)) _ t) j
