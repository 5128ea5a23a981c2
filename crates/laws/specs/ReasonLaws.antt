-- Laws of Inside and Edge: they ask the numbers of the page's cells only.
--
--   mem-gather          a literal that is gathered
--   gather-same         tests that agree on the hops gather the same
--   inside-same, edge_same  another numbering with the same numbers on the page gives the same
use Rattle.std.specs.Prelude.{◌≡◌, Bool, List, map, ℕ, ◌<◌, T}
use Rattle.std.proofs.Common.{ap, ◌∙◌}
use Rattle.lists.specs.Lists.{◌∈◌}
use Rattle.lists.specs.ListLaws.{mem-filter, mem-map}
use Rattle.lists.specs.Filters.{filter_same}
use Rattle.lists.specs.Flats.{flat-same}
use Rattle.rules.specs.declared.Side.{Side}
use Rattle.rules.specs.declared.Side.TheVariants.{Wall, Open}
use Rattle.rules.specs.Page.{Page, State, Hop}
use Rattle.rules.specs.Groups.{members}
use Rattle.rules.specs.Reasons.{gather, inside_at, inside, edge_at, edge}
use Rattle.laws.specs.PageLaws.{Bordered}
use Rattle.laws.specs.GroupLaws.{members-lt, members-same}

pub mem-gather : (side : Side) (p : Hop → Bool) (hs : List Hop) (h : Hop) → h ∈ hs → T (p h)
    → record { border = h.border; side = side } ∈ gather side p hs
unfolding gather
mem-gather side p hs h m t =
    mem-map (λ (j : Hop). record { border = j.border; side = side }) (mem-filter p hs m t)

pub gather-same : (side : Side) (p q : Hop → Bool) (hs : List Hop) → ((h : Hop) → h ∈ hs → p h ≡ q h)
    → gather side p hs ≡ gather side q hs
unfolding gather
gather-same side p q hs e =
    ap (map (λ h. record { border = h.border; side = side })) (filter_same p q hs e)

-- Inside and Edge ask the group numbers of the page's cells only
module _ (G : Page) (K : Bordered G) (f g : ℕ → ℕ) (same : (x : ℕ) → x < G.cells → f x ≡ g x) (k : ℕ) where
  pub inside-same : (s : ℕ → State) → inside G s f k ≡ inside G s g k
  unfolding inside inside_at
  inside-same s =
      flat-same (inside_at G s f k) (inside_at G s g k) (members G f k)
      (λ x m.
      let l = members-lt G f k x m in
      gather-same Open _ _ (G.ahead x)
      (λ h n. rw (same h.to (K.hop-in x h l (K.ahead-around x h l n)))))
      ∙ rw (members-same G f g same k)

  pub edge_same : (colour : ℕ → Bool) (s : ℕ → State) → edge G colour s f k ≡ edge G colour s g k
  unfolding edge edge_at
  edge_same colour s =
      flat-same (edge_at G colour s f k) (edge_at G colour s g k) (members G f k)
      (λ x m.
      gather-same Wall _ _ (G.around x)
      (λ h n. rw (same h.to (K.hop-in x h (members-lt G f k x m) n))))
      ∙ rw (members-same G f g same k)
