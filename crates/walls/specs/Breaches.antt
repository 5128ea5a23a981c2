-- Breaches: the first wall between two cells of one block, and the reason that goes with it.
--
--   is_breach x h           the border of the hop h from cell x is wall, and both its cells are in one block
--   hop_breach x h          the breach over the hop h from cell x, if there is one
--   breach_on x hops        the first breach over some hops from x, if there is one
--   breach_from f k i       the first breach at the cells from i on, of k, if there is one
--   first_breach G s block  the first breach on the page, if there is one
--   breach_reason b         step 2's reason, where there is a breach
--   breach-hits             step 2's hit is the reason of the first breach
use Rattle.std.specs.Prelude.{◌≡◌, ◌&&◌, Bool, true, false, List, [], ◌∷◌, ◌++◌, ℕ, zero, suc, eqb, Option, Some, None}
use Rattle.std.specs.Bool.{then_some}
use Rattle.std.specs.Option.{option_or}
use Rattle.std.proofs.Common.{refl, sym}
use Rattle.std.proofs.Math.Option as maybe
use Rattle.lists.specs.Lists.{first_hit, or_else, range_from, range}
use Rattle.rules.specs.Page.{Page, Puzzle, State, Hop, is_wall, wall_at}
use Rattle.rules.specs.Groups.{block_of}
use Rattle.rules.specs.Reasons.{path}
use Rattle.rules.specs.Check.{Reason, hit_if, wall_hit, wall_hits}
use Rattle.walls.specs.declared.Breach.{Breach}

-- s gives the borders, block the cells' blocks
module _ (s : ℕ → State) (block : ℕ → ℕ) where
  unfoldable pub is_breach : ℕ → Hop → Bool
  is_breach x h = is_wall (s h.border) && eqb (block x) (block h.to)

  unfoldable pub hop_breach : ℕ → Hop → Option Breach
  hop_breach x h = then_some (is_breach x h) (record { cell = x; border = h.border; to = h.to })

  unfoldable pub breach_on : ℕ → List Hop → Option Breach
  breach_on x [] = None
  breach_on x (h ∷ hs) = option_or (hop_breach x h) (breach_on x hs)

unfoldable pub breach_from : (ℕ → Option Breach) → ℕ → ℕ → Option Breach
breach_from f zero i = None
breach_from f (suc k) i = option_or (f i) (breach_from f k (suc i))

unfoldable pub first_breach : Page → (ℕ → State) → (ℕ → ℕ) → Option Breach
first_breach G s block = breach_from (λ x. breach_on s block x (G.ahead x)) G.cells 0

module _ (Z : Puzzle) (s : ℕ → State) where
  unfoldable pub breach_reason : Option Breach → maybe.Option Reason
  breach_reason None = maybe.none
  breach_reason (Some b) = maybe.some (path Z.page s b.cell b.to ++ (wall_at b.border ∷ []))

  -- ---- laws

  or-breach : (a b : Option Breach) → breach_reason (option_or a b) ≡ or_else (breach_reason a) (breach_reason b)
  unfolding breach_reason or_else
  or-breach None b = refl
  or-breach (Some a) b = refl

  hop-reason : (x : ℕ) (h : Hop) → wall_hit Z s x h ≡ breach_reason (hop_breach s (block_of Z s) x h)
  unfolding wall_hit hop_breach is_breach breach_reason hit_if
  hop-reason x h = go (is_wall (s h.border) && eqb (block_of Z s x) (block_of Z s h.to))
    where
      go : (b : Bool)
          → hit_if b (path Z.page s x h.to ++ (wall_at h.border ∷ []))
          ≡ breach_reason (then_some b (record { cell = x; border = h.border; to = h.to }))
      go true = refl
      go false = refl

  on-reason : (x : ℕ) (hs : List Hop) → first_hit (wall_hit Z s x) hs ≡ breach_reason (breach_on s (block_of Z s) x hs)
  unfolding first_hit breach_on breach_reason
  on-reason x [] = refl
  on-reason x (h ∷ hs) =
      rw (hop-reason x h, on-reason x hs)
      (sym (or-breach (hop_breach s (block_of Z s) x h) (breach_on s (block_of Z s) x hs)))

  from-reason : (f : ℕ → Option Breach) (g : ℕ → maybe.Option Reason) → ((x : ℕ) → g x ≡ breach_reason (f x))
      → (k i : ℕ) → first_hit g (range_from i k) ≡ breach_reason (breach_from f k i)
  unfolding first_hit breach_from breach_reason
  from-reason f g e zero i = refl
  from-reason f g e (suc k) i =
      rw (e i, from-reason f g e k (suc i)) (sym (or-breach (f i) (breach_from f k (suc i))))

  pub breach-hits : first_hit (wall_hits Z s) (range Z.page.cells)
      ≡ breach_reason (first_breach Z.page s (block_of Z s))
  unfolding first_breach wall_hits
  breach-hits =
      from-reason (λ x. breach_on s (block_of Z s) x (Z.page.ahead x)) (wall_hits Z s)
      (λ x. on-reason x (Z.page.ahead x)) Z.page.cells 0
