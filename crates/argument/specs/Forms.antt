-- Every reason has one of six forms; a claim that holds of each form holds of every reason.
--
--   EarlyForms Z s Q    the claim Q holds of each form that steps 1 and 2 give
--   Forms Z s Q         it holds of step 3's form too
--   blocks-form, walls-form, units-form  so it holds of every hit of each step ..
--   each-form           .. and of every hit
use Rattle.std.specs.Prelude.{Bool, true, false, cond, ℕ, ◌<◌, T}
use mathlib.Core.List.{List, [], ◌∷◌, ◌++◌}
use Rattle.std.proofs.Math.Option.{Option, some, none}
use Rattle.lists.specs.Lists.{◌∈◌, any, first_hit, range}
use Rattle.lists.specs.Booleans.{T-and-l}
use Rattle.lists.specs.Ranges.{range-lt}
use Rattle.rules.specs.Page.{Hop, Puzzle, State, is_wall, wall_at}
use Rattle.rules.specs.Groups.{members, block_count, unit_of, unit_count, potential_of}
use Rattle.rules.specs.Reasons.{path}
use Rattle.rules.specs.Check.{Reason, is_some, inside_block, edge_of, coloured, cell_hit, cell_hits, small_hit, big_hit}
use Rattle.rules.specs.Check.{clue_hit, block_hit_on, block_hit, wall_hit, wall_hits, unit_reason, unit_hit_in}
use Rattle.rules.specs.Check.{unit_hit_on}
use Rattle.rules.specs.Check.{unit_hit, hit}
use Rattle.argument.specs.Hits.{Each, each_none, each-hit, each_or, each_first}

pub record EarlyForms (Z : Puzzle) (s : ℕ → State) (Q : Reason → Type 0) : Type 0 where
  -- step 1: (a), and a potential unit that is too small; (b), and a clue that is too small; a clue that is too large
  pub in_edge : (B P : ℕ) → Q (inside_block Z s B ++ edge_of Z s P)
  pub in_only : (B : ℕ) → Q (inside_block Z s B)
  pub edge_only : (P : ℕ) → Q (edge_of Z s P ++ [])
  pub edge_in : (B P : ℕ) → Q (edge_of Z s P ++ inside_block Z s B)
  -- step 2
  pub wall : (x : ℕ) (h : Hop) → x < Z.page.cells → h ∈ Z.page.ahead x → T (is_wall (s h.border))
      → Q (path Z.page s x h.to ++ (wall_at h.border ∷ []))

pub record Forms (Z : Puzzle) (s : ℕ → State) (Q : Reason → Type 0) : Type 0 where
  pub early : EarlyForms Z s Q
  -- step 3
  pub unit : (U P : ℕ) → Q (unit_reason Z s U P)

module _ (Z : Puzzle) (s : ℕ → State) (Q : Reason → Type 0) (F : EarlyForms Z s Q) where
  cells-form : (B : ℕ) (earlier xs : List ℕ) → Each Q (cell_hits Z s B earlier xs)
  unfolding cell_hits cell_hit
  cells-form B earlier [] = each_none Q
  cells-form B earlier (x ∷ xs) =
      each_or Q _ _
      (each_or Q _ _ (each-hit Q _ _ (λ t. F.in_edge B _)) (each-hit Q _ _ (λ t. F.in_only B)))
      (cells-form B (x ∷ earlier) xs)

  small-form : (B : ℕ) (xs : List ℕ) (c : Bool) (o : Option ℕ) → Each Q (small_hit Z s B xs c o)
  unfolding small_hit
  small-form B xs c none = each_none Q
  small-form B xs c (some x) = each-hit Q _ _ (λ t. F.in_edge B _)

  edge-form : (b : Bool) (B P : ℕ) → Q (edge_of Z s P ++ cond b [] (inside_block Z s B))
  edge-form true B P = F.edge_only P
  edge-form false B P = F.edge_in B P

  big-form : (B : ℕ) (xs : List ℕ) (n : ℕ) (c : Bool) (o : Option ℕ) → Each Q (big_hit Z s B xs n c o)
  unfolding big_hit
  big-form B xs n c none = each_none Q
  big-form B xs n c (some x) =
      each-hit Q _ _ (λ t. edge-form (any (λ y. is_some (Z.clue y)) (coloured Z s c xs)) B (potential_of Z s x))

  clue-form : (B : ℕ) (xs : List ℕ) (o : Option ℕ) → Each Q (clue_hit Z s B xs o)
  unfolding clue_hit
  clue-form B xs none = each_none Q
  clue-form B xs (some n) =
      each_or Q _ _ (each-hit Q _ _ (λ t. F.in_only B)) (each_first Q _ _ (λ c m. big-form B xs n c _))

  block-form : (B : ℕ) → Each Q (block_hit Z s B)
  unfolding block_hit block_hit_on
  block-form B =
      each_or Q _ _ (cells-form B [] _)
      (each_or Q _ _ (each_first Q _ _ (λ c m. small-form B _ c _)) (clue-form B _ _))

  pub blocks-form : Each Q (first_hit (block_hit Z s) (range (block_count Z s)))
  blocks-form = each_first Q _ _ (λ B m. block-form B)

  cell-form : (x : ℕ) → x < Z.page.cells → Each Q (wall_hits Z s x)
  unfolding wall_hits wall_hit
  cell-form x hx =
      each_first Q _ _ (λ h m. each-hit Q _ _ (λ t. F.wall x h hx m (T-and-l (is_wall (s h.border)) _ t)))

  pub walls-form : Each Q (first_hit (wall_hits Z s) (range Z.page.cells))
  walls-form = each_first Q _ _ (λ x m. cell-form x (range-lt _ m))

module _ (Z : Puzzle) (s : ℕ → State) (Q : Reason → Type 0) (F : Forms Z s Q) where
  on-form : (U : ℕ) (xs : List ℕ) → Each Q (unit_hit_on Z s U xs)
  unfolding unit_hit_on unit_hit_in
  on-form U [] = each_none Q
  on-form U (x ∷ xs) = each-hit Q _ _ (λ t. F.unit U _)

  pub units-form : Each Q (first_hit (unit_hit Z s) (range (unit_count Z s)))
  unfolding unit_hit
  units-form = each_first Q _ _ (λ U m. on-form U (members Z.page (unit_of Z s) U))

  pub each-form : Each Q (hit Z s)
  unfolding hit
  each-form =
      each_or Q _ _ (blocks-form Z s Q F.early) (each_or Q _ _ (walls-form Z s Q F.early) units-form)
