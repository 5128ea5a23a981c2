-- Step 2 is sound: a solution that contains the path has the two cells in one block, and so no wall between them.
use Rattle.std.specs.Prelude.{refl, ℕ, ◌<◌}
use mathlib.Core.List.Memᴰ
use Rattle.std.proofs.Math.Dec.{eqb→eq}
use Rattle.lists.specs.Lists.{◌∈◌}
use Rattle.lists.specs.Booleans.{T-and-r}
use Rattle.rules.specs.Page.{Hop, Puzzle, State, is_wall, wall_at}
use Rattle.rules.specs.Rules.{joins_block}
use Rattle.rules.specs.Groups.{block_of}
use Rattle.rules.specs.Reasons.{path}
use Rattle.rules.specs.Check.{wall_hit, wall_hits}
use Rattle.laws.specs.PageLaws.{Bordered, CellsPlaced}
use Rattle.laws.specs.StateLaws.{contains-l, contains-r, has}
use Rattle.laws.specs.RuleLaws.{join-sym}
use Rattle.laws.specs.GroupLaws.{number-joined}
use Rattle.argument.specs.Hits.{Each, each-hit, each_first}
use Rattle.argument.specs.Sound.{Sound}
use Rattle.argument.specs.Paths.{path-joins}

module _ (Z : Puzzle) (K : Bordered Z.page) (P : CellsPlaced Z.page) (s : ℕ → State) where
  sound-wall : (x : ℕ) (h : Hop) → x < Z.page.cells → h ∈ Z.page.ahead x → Each (Sound Z) (wall_hit Z s x h)
  unfolding wall_hit Sound
  sound-wall x h hx m = each-hit (Sound Z) _ _ (λ t σ sol c.
      let k = K.ahead-around x h hx m in
      let hy = K.hop-in x h hx k in
      let e = eqb→eq (block_of Z s x) (block_of Z s h.to) (T-and-r (is_wall (s h.border)) _ t) in
      let j = path-joins Z K s x hx σ h.to (number-joined Z.page K (joins_block Z s) x h.to hx hy e)
      (contains-l σ (path Z.page s x h.to) _ c) in
      sol.no_wall x h hx k (join-sym Z.page K _ hy j)
      (has σ _ (contains-r σ (path Z.page s x h.to) _ c) (wall_at h.border) (Memᴰ.head refl)))

  pub sound-walls : (x : ℕ) → x < Z.page.cells → Each (Sound Z) (wall_hits Z s x)
  unfolding wall_hits
  sound-walls x hx = each_first (Sound Z) _ _ (λ h m. sound-wall x h hx m)
