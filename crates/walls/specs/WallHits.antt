-- Step 2 for a caller: with the arrays of crate groups, what is found meets what is asked for writing it, and what is
-- written is the step's hit.
--
--   breach_in                what `first_breach` finds, if anything
use Rattle.std.specs.Prelude.{◌≡◌, List, ℕ, ℤ, Option, Some, None}
use Rattle.std.proofs.Common.{sym, ap, ◌∙◌}
use Rattle.std.proofs.Math.Option.{some, none}
use Rattle.lists.specs.Lists.{first_hit, range}
use Rattle.rules.specs.Flat.{Sized, flat}
use Rattle.rules.specs.Codes.{clues_in, states_in, puzzle_in}
use Rattle.rules.specs.Groups.{entry, block_of}
use Rattle.rules.specs.Check.{wall_hits}
use Rattle.groups.specs.declared.Kind.TheVariants.{Blocks}
use Rattle.groups.specs.Pages.{groups_in}
use Rattle.groups.specs.PageLaws.{kind-ids}
use Rattle.walls.specs.declared.Breach.{Breach}
use Rattle.walls.specs.Breaches.{first_breach, breach_reason, breach-hits}
use Rattle.walls.specs.Written.{breach_literals, breach-some}

module _ {h w : ℕ} (z : Sized h w) (cs : List ℕ) (ks : List ℤ) (bs : List ℕ) where
  abbrev pub breach_in : Option Breach
  breach_in = first_breach (flat h w) (states_in bs) (entry (groups_in Blocks h w cs bs).ids)

  breach-is : breach_in ≡ first_breach (flat h w) (states_in bs) (block_of (puzzle_in h w cs ks) (states_in bs))
  breach-is = ap (first_breach (flat h w) (states_in bs)) (kind-ids z cs (clues_in ks) bs Blocks)

  step-two : first_hit (wall_hits (puzzle_in h w cs ks) (states_in bs)) (range (flat h w).cells)
      ≡ breach_reason (puzzle_in h w cs ks) (states_in bs) breach_in
  step-two =
      breach-hits (puzzle_in h w cs ks) (states_in bs)
      ∙ ap (breach_reason (puzzle_in h w cs ks) (states_in bs)) (sym breach-is)

  pub two-hit : {b : Breach} → Some b ≡ breach_in
      → first_hit (wall_hits (puzzle_in h w cs ks) (states_in bs)) (range (flat h w).cells)
      ≡ some (breach_literals (flat h w) (states_in bs) b)
  two-hit {b} e =
      step-two ∙ ap (breach_reason (puzzle_in h w cs ks) (states_in bs)) (sym e)
      ∙ breach-some (puzzle_in h w cs ks) (states_in bs) b

  pub two_none : None ≡ breach_in
      → first_hit (wall_hits (puzzle_in h w cs ks) (states_in bs)) (range (flat h w).cells) ≡ none
  unfolding breach_reason
  two_none e = step-two ∙ rw (← e)
