-- Bounds: a breach's border is on the page.
use Rattle.std.specs.Prelude.{Bool, true, false, List, Option, Some, None, IfSome}
use Rattle.std.specs.Bool.{then_some}
use Rattle.std.specs.Option.{option_or}
use Rattle.std.proofs.Common.{sym, ap, ◌∙◌}
use Prim.Native.Nat.{ℕ, zero, suc, ◌+◌, ◌*◌, ◌/◌, ◌%◌, ◌<◌, ◌≤◌}
use native.Mathlib.Omega.{arith}
use Rattle.rules.specs.Page.{State}
use Rattle.rules.specs.Flat.{Sized, flat}
use Rattle.rules.specs.Codes.{states_in}
use Rattle.rules.specs.Groups.{entry}
use Rattle.laws.specs.FlatLaws.{row_of_lem}
use Rattle.reasons.specs.declared.Direction.{Direction}
use Rattle.reasons.specs.declared.Direction.TheVariants.{Below, Right}
use Rattle.reasons.specs.declared.Neighbour.{Neighbour}
use Rattle.reasons.specs.Arrays.{Stepped, hops_in, hop_of}
use Rattle.reasons.specs.StepLaws.{step-any}
use Rattle.walls.specs.declared.Breach.{Breach}
use Rattle.walls.specs.Breaches.{is_breach, hop_breach, breach_on, breach_from, first_breach}
use Rattle.walls.specs.WallCases.{breach_at, cell-split}

-- a breach that is found has a border of the page
abbrev Small : Option Breach → Type 0
Small r = IfSome r (λ b. b.border < 1984)

or-small : (a b : Option Breach) → Small a → Small b → Small (option_or a b)
or-small None b p q = q
or-small (Some a) b p q = p

hop-small : {h w y x : ℕ} {d : Direction} (s : ℕ → State) (block : ℕ → ℕ) (c : ℕ) (r : Option Neighbour)
    → Stepped h w y x d r → Small (breach_on s block c (hops_in r))
unfolding hops_in breach_on hop_breach
hop-small s block c None p = tt
hop-small s block c (Some n) p =
    or-small (hop_breach s block c (hop_of n)) None (at (is_breach s block c (hop_of n))) tt
  where
    at : (v : Bool) → Small (then_some v (record { cell = c; border = n.border; to = n.to }))
    at true = p.near.fits.border
    at false = tt

module _ {h w : ℕ} (z : Sized h w) (bs ids : List ℕ) where
  cell-small : (c : ℕ) → c < h * w → Small (breach_at h w bs ids c)
  cell-small c q =
      let r = row_of_lem h w c q in
      let n = step-any z r.row r.column Below in
      let k = step-any z r.row r.column Right in
      let e = ap (breach_at h w bs ids) r.same
      ∙ sym (cell-split h w (c / w) (c % w) r.row r.column bs ids n.0 k.0 n.1 k.1) in
      rw e (or-small _ _ (hop-small _ _ _ n.0 n.1) (hop-small _ _ _ k.0 k.1))

  from-small : (k i : ℕ) → i + k ≤ h * w → Small (breach_from (breach_at h w bs ids) k i)
  unfolding breach_from
  from-small zero i l = tt
  from-small (suc k) i l =
      or-small (breach_at h w bs ids i) (breach_from (breach_at h w bs ids) k (suc i)) (cell-small i (omega arith))
      (from-small k (suc i) (omega arith))

  pub breach-small : IfSome (first_breach (flat h w) (states_in bs) (entry ids)) (λ b. b.border < 1984)
  unfolding first_breach breach_at flat
  breach-small = from-small (h * w) 0 (omega arith)
