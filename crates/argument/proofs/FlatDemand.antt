-- The argument for flat pages of every size: the answers of check, the book's theorem, and how long a reason is.
--
--   flat-demand         demand 3 for the book, over every flat puzzle and every list of calls
--   flat-full           a full setting passes exactly when it is a solution
--   flat_sound          no solution contains a reason
--   flat-holds          a reason holds on its board
--   flat-once           a reason names no border twice
--   flat-few            so it has at most as many literals as there are decided borders
--   flat-blocks-once, flat-walls-once  in steps 1 and 2 none is struck for it
use Rattle.std.specs.Prelude.{◌≡◌, ◌↔◌, Bool, List, ℕ, ◌<◌, ◌≤◌, length}
use Rattle.std.proofs.Math.Option.{Option}
use Rattle.lists.specs.Lists.{Distinct, first_hit, range}
use Rattle.rules.specs.declared.Literal.{Literal}
use Rattle.rules.specs.Page.{State, Contains}
use Rattle.rules.specs.Rules.{Solution}
use Rattle.rules.specs.Groups.{block_count}
use Rattle.rules.specs.Check.{Reason, conflict, borders_named, block_hit, wall_hits, check}
use Rattle.rules.specs.Book.{Asked, states}
use Rattle.laws.specs.FlatPage.{flat-bordered, flat-placed, flat-listed}
use Rattle.laws.specs.FlatHops.{flat-hops}
use Rattle.laws.proofs.FlatShapes.{flat_puzzle}
use Rattle.argument.specs.Demand.{Full, Passes, BookDemand}
use Rattle.argument.specs.Checks.{check-holds, check-once, check-few, check_sound, check-full}
use Rattle.argument.specs.Hits.{Each}
use Rattle.argument.specs.EarlyOnce.{NoTwice, blocks-once, walls-once}
use Rattle.argument.proofs.DemandLaws.{book-demand}

module _ (h w : ℕ) (hw : 0 < w) (colour : ℕ → Bool) (clue : ℕ → Option ℕ) where
  pub flat-demand : (calls : List Asked) → BookDemand (flat_puzzle h w colour clue) calls
  flat-demand = book-demand (flat_puzzle h w colour clue) (flat-bordered h w hw) (flat-placed h w hw) (flat-listed h w)

  pub flat-holds : (s : ℕ → State) (r : Reason) → check (flat_puzzle h w colour clue) s ≡ conflict r → Contains s r
  flat-holds = check-holds (flat_puzzle h w colour clue) (flat-bordered h w hw) (flat-placed h w hw) (flat-listed h w)

  pub flat_sound : (s : ℕ → State) (r : Reason) → check (flat_puzzle h w colour clue) s ≡ conflict r
      → (σ : ℕ → State) → Solution (flat_puzzle h w colour clue) σ → Contains σ r → ⊥
  flat_sound = check_sound (flat_puzzle h w colour clue) (flat-bordered h w hw) (flat-placed h w hw) (flat-listed h w)

  pub flat-full : (s : ℕ → State) → Full (flat_puzzle h w colour clue) s
      → (Passes (check (flat_puzzle h w colour clue) s) ↔ Solution (flat_puzzle h w colour clue) s)
  flat-full = check-full (flat_puzzle h w colour clue) (flat-bordered h w hw) (flat-placed h w hw) (flat-listed h w)

  pub flat-once : (s : ℕ → State) (r : Reason) → check (flat_puzzle h w colour clue) s ≡ conflict r
      → Distinct (borders_named r)
  flat-once = check-once (flat_puzzle h w colour clue) (flat-bordered h w hw) (flat-placed h w hw) (flat-listed h w)

  pub flat-few : (ls : List Literal) (r : Reason) → check (flat_puzzle h w colour clue) (states ls) ≡ conflict r
      → length r ≤ length ls
  flat-few = check-few (flat_puzzle h w colour clue) (flat-bordered h w hw) (flat-placed h w hw) (flat-listed h w)

  pub flat-blocks-once : (s : ℕ → State)
      → let Z = flat_puzzle h w colour clue in Each NoTwice (first_hit (block_hit Z s) (range (block_count Z s)))
  flat-blocks-once = blocks-once (flat_puzzle h w colour clue) (flat-bordered h w hw) (flat-hops h w hw)

  pub flat-walls-once : (s : ℕ → State)
      → let Z = flat_puzzle h w colour clue in Each NoTwice (first_hit (wall_hits Z s) (range Z.page.cells))
  flat-walls-once = walls-once (flat_puzzle h w colour clue) (flat-bordered h w hw) (flat-hops h w hw)
