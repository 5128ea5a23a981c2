-- On a flat page a group's cells, Inside and Edge ask the group numbers of the page's cells only.
use Rattle.std.specs.Prelude.{◌≡◌, Bool, ℕ, ◌*◌, ◌<◌}
use Rattle.std.proofs.Common.{arith}
use Rattle.lists.specs.Lists.{◌∈◌}
use Rattle.rules.specs.Page.{State, Hop}
use Rattle.rules.specs.Flat.{Sized, flat}
use Rattle.rules.specs.Groups.{members}
use Rattle.rules.specs.Reasons.{inside, edge}
use Rattle.laws.specs.PageLaws.{Bordered}
use Rattle.laws.specs.FlatPage.{flat-bordered}
use Rattle.laws.specs.GroupLaws.{members-lt, members-same}
use Rattle.laws.specs.ReasonLaws.{inside-same, edge_same}

pub bordered : {h w : ℕ} → Sized h w → Bordered (flat h w)
bordered {h} {w} z = flat-bordered h w (omega (arith, z.columns))

-- a hop of the flat page leads to one of its cells
pub around-in : {h w : ℕ} → Sized h w → (c : ℕ) → c < h * w → (k : Hop) → k ∈ (flat h w).around c → k.to < h * w
unfolding flat
around-in z c l k m = (bordered z).hop-in c k l m

pub flat-members-lt : (h w : ℕ) (number : ℕ → ℕ) (g : ℕ) {x : ℕ} → x ∈ members (flat h w) number g → x < h * w
unfolding flat
flat-members-lt h w number g {x} m = members-lt (flat h w) number g x m

module _ {h w : ℕ} (z : Sized h w) (f g : ℕ → ℕ) (same : (x : ℕ) → x < h * w → f x ≡ g x) (k : ℕ) where
  pub flat-members-same : members (flat h w) f k ≡ members (flat h w) g k
  unfolding flat
  flat-members-same = members-same (flat h w) f g same k

  pub flat-inside-same : (s : ℕ → State) → inside (flat h w) s f k ≡ inside (flat h w) s g k
  unfolding flat
  flat-inside-same s = inside-same (flat h w) (bordered z) f g same k s

  pub flat-edge-same : (colour : ℕ → Bool) (s : ℕ → State)
      → edge (flat h w) colour s f k ≡ edge (flat h w) colour s g k
  unfolding flat
  flat-edge-same colour s = edge_same (flat h w) (bordered z) f g same k colour s
