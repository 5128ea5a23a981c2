-- A full board that all three steps pass is a solution.
--
--   solved              the solution
--
-- Step 1 gives that a block's cells of one colour are one unit, and the clues; step 2 that there is no wall inside a
-- block; step 3 a placement that fits, so the other colour, and, the units being of one size by step 1, congruence.
use Rattle.std.specs.Prelude.{◌≡◌, refl, ◌⊎◌, Bool, not, ℕ, ◌<◌, eqb}
use Rattle.std.proofs.Common.{◌∙◌, ap, sym, inl, inr, arith}
use Rattle.std.specs.Bool.{beq}
use Rattle.std.proofs.Math.Option.{none}
use Rattle.std.proofs.Math.Dec.{T, eqb_refl}
use Rattle.lists.specs.Lists.{◌∈◌}
use Rattle.lists.specs.ListLaws.{first-none}
use Rattle.lists.specs.Booleans.{T_and, T-dec, beq-eq}
use Rattle.rules.specs.declared.Side.TheVariants.{Wall}
use Rattle.rules.specs.Page.{Hop, Puzzle, State, decided, is_wall}
use Rattle.rules.specs.Rules.{stay, joins_block, joins_unit, SameBlock, Congruent, Solution, step}
use Rattle.rules.specs.Groups.{block_of, block_count, unit_of, unit_count}
use Rattle.rules.specs.Shapes.{shape_of}
use Rattle.rules.specs.Check.{block_hit, wall_hit, wall_hits, unit_hit}
use Rattle.laws.specs.PageLaws.{Bordered, CellsPlaced, TurnsListed}
use Rattle.laws.specs.StateLaws.{not-both}
use Rattle.laws.specs.Copies.{shape-based, copy}
use Rattle.laws.specs.RuleLaws.{join-trans, join-in, join-sym, unit-colour, unit-block}
use Rattle.laws.specs.GroupLaws.{joined_number, mem-members}
use Rattle.argument.specs.Demand.{Full}
use Rattle.argument.specs.Hits.{hit-misses}
use Rattle.argument.specs.Fulls.{unit_size_lem}
use Rattle.argument.specs.Passes.{one_unit, same_size, clue-kept}
use Rattle.argument.specs.Fits.{Fit, fit}
use Rattle.argument.specs.Lays.{congruent-to}

module _ (Z : Puzzle) (K : Bordered Z.page) (P : CellsPlaced Z.page) (I : TurnsListed Z.page) (s : ℕ → State)
    (full : Full Z s)
    (pass1 : (B : ℕ) → B < block_count Z s → block_hit Z s B ≡ none)
    (pass2 : (x : ℕ) → x < Z.page.cells → wall_hits Z s x ≡ none)
    (pass3 : (U : ℕ) → U < unit_count Z s → unit_hit Z s U ≡ none) where
  no-wall : (x : ℕ) (h : Hop) → x < Z.page.cells → h ∈ Z.page.ahead x → block_of Z s x ≡ block_of Z s h.to
      → s h.border ≡ decided Wall → ⊥
  unfolding wall_hits wall_hit
  no-wall x h hx m q e = hit-misses _ _ (first-none _ _ (pass2 x hx) m)
      (let u : T (is_wall (s h.border)) = rw e tt in
      let v : T (eqb (block_of Z s x) (block_of Z s h.to)) = rw q (eqb_refl (block_of Z s h.to)) in search T_and)

  no-walls : (x : ℕ) (h : Hop) → x < Z.page.cells → h ∈ Z.page.around x → SameBlock Z s x h.to
      → s h.border ≡ decided Wall → ⊥
  no-walls x h hx m j e = go (K.ahead-all x h hx m) (joined_number Z.page K (joins_block Z s) hx j)
    where
      go : h ∈ Z.page.ahead x ⊎ record { border = h.border; to = x } ∈ Z.page.ahead h.to
          → block_of Z s x ≡ block_of Z s h.to → ⊥
      go (inl n) q = no-wall x h hx n q e
      go (inr n) q = no-wall h.to (record { border = h.border; to = x }) (K.hop-in x h hx m) n (sym q) e

  mate-block : (x : ℕ) (F : Fit Z s x) → SameBlock Z s x F.over.to
  unfolding joins_block
  mate-block x F = join-trans Z.page _ (unit-block Z K s F.same) (step F.over F.hop F.opens (stay refl))

  mate-colour : (x : ℕ) → x < Z.page.cells → (F : Fit Z s x) → Z.colour F.over.to ≡ not (Z.colour x)
  mate-colour x hx F = F.other ∙ ap not (sym (unit-colour Z K s hx F.same))

  both-colours : (x : ℕ) (c : Bool) → x < Z.page.cells → (y : ℕ) × SameBlock Z s x y × (Z.colour y ≡ c)
  both-colours x c hx = go (T-dec (beq (Z.colour x) c)) (fit Z K s full pass3 x hx)
    where
      go : T (beq (Z.colour x) c) ⊎ T (not (beq (Z.colour x) c)) → Fit Z s x
          → (y : ℕ) × SameBlock Z s x y × (Z.colour y ≡ c)
      go (inl t) F = (x, stay refl, beq-eq (Z.colour x) c t)
      go (inr t) F = (F.over.to, mate-block x F, mate-colour x hx F ∙ sym (not-both (Z.colour x) c t))

  is-congruent : (x y : ℕ) → x < Z.page.cells → SameBlock Z s x y → Z.colour y ≡ not (Z.colour x)
      → Congruent Z s x y
  is-congruent x y hx j e =
      let F = fit Z K s full pass3 x hx in
      let hy = join-in Z.page K (joins_block Z s) hx j in
      let u = one_unit Z K s full pass1 y F.over.to hy
      (join-trans Z.page _ (join-sym Z.page K _ hx j) (mate-block x F)) (e ∙ sym (mate-colour x hx F)) in
      let ya = join-trans Z.page (joins_unit Z s) u F.at_unit in
      let mx = mem-members Z.page (unit_of Z s) (unit_of Z s x) x hx refl in
      let S = shape_of Z.page (unit_of Z s) (unit_of Z s x) in
      let so = shape-based Z.page (unit_of Z s) (unit_of Z s x) x mx in
      let i = I.is_turned S F.shape so F.listed in
      congruent-to Z K P s full x hx F (join-in Z.page K (joins_unit Z s) hy ya) i.0 i.2
      (copy Z.page (unit_of Z s) (unit_of Z s x) x mx Z.page.turns P.turns-ok i.0 i.2 F.shape i.1
      i.3 (I.is-based S F.shape so F.listed) i.4)
      y hy ya (let a = unit_size_lem Z K s full x hx in let b = unit_size_lem Z K s full y hy in
      let c = same_size Z K s full pass1 x y hx j e in omega arith)

  pub solved : Solution Z s
  unfolding Full
  solved = record {
    full = full;
    no_wall = no-walls;
    both = both-colours;
    one = one_unit Z K s full pass1;
    congruent = is-congruent;
    clues = clue-kept Z K s full pass1;
  }
