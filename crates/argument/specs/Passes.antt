-- A full board that step 1 passes: a block's cells of one colour are one unit, its units have one size, and its clues
-- are kept.
--
--   one_unit            two cells of one block and one colour are of one unit
--   same_size           units of differing colours in one block: neither is larger
--   clue-kept           a clue is the size of its cell's unit
use Rattle.std.proofs.Math.Path.{◌≡◌, refl}
use Rattle.std.proofs.Common.{◌∙◌, ap, nltb→le}
use Rattle.std.specs.Prelude.{Bool, true, false, not, ◌||◌, ℕ, ◌≤◌, ◌<◌, ltb}
use Rattle.std.proofs.Math.Bool.{beq}
use mathlib.Core.List.Memᴰ
use mathlib.Core.List.{List, [], ◌∷◌}
use Rattle.std.proofs.Math.Option.{Option, some, none}
use native.Mathlib.Omega.{arith}
use Rattle.std.proofs.Math.Dec.{not_T}
use Rattle.std.proofs.Math.ListN.{length}
use Rattle.lists.specs.Lists.{◌∈◌, filter, head?, first_hit}
use Rattle.lists.specs.ListLaws.{mem-filter, first-none}
use Rattle.lists.specs.Booleans.{T-or-l, T-or-r, eq-beq}
use Rattle.rules.specs.Page.{Puzzle, State}
use Rattle.rules.specs.Rules.{stay, joins_block, SameBlock, SameUnit, UnitHas}
use Rattle.rules.specs.Groups.{block_of, block_count, potential_of}
use Rattle.rules.specs.Check.{Reason, hit_if, block_clue, size_of, coloured, small_hit, big_hit, clue_hit, block_hit_on}
use Rattle.rules.specs.Check.{block_hit}
use Rattle.laws.specs.PageLaws.{Bordered}
use Rattle.laws.specs.StateLaws.{colour-listed}
use Rattle.laws.specs.RuleLaws.{join-in}
use Rattle.laws.specs.GroupLaws.{number_lt, own_block}
use Rattle.argument.specs.Demand.{Full}
use Rattle.argument.specs.Hits.{hit-misses, else-none}
use Rattle.argument.specs.Sizes.{unit-size-has}
use Rattle.argument.specs.CellScan.{Agree, pass-cells, head-mem, clue-mem}
use Rattle.argument.specs.Fulls.{pot-unit, unit_size_lem, in_block, size-count}

module _ (Z : Puzzle) (K : Bordered Z.page) (s : ℕ → State) (full : Full Z s)
    (pass1 : (B : ℕ) → B < block_count Z s → block_hit Z s B ≡ none) where
  record BlockPassed (x : ℕ) : Type 0 where
    agree : (y z : ℕ) → y ∈ own_block Z s x → z ∈ own_block Z s x → Agree Z s y z
    small : (c : Bool) → small_hit Z s (block_of Z s x) (own_block Z s x) c
        (head? (coloured Z s c (own_block Z s x))) ≡ none
    clue : clue_hit Z s (block_of Z s x) (own_block Z s x)
        (block_clue Z.clue (own_block Z s x)) ≡ none

  passed : (x : ℕ) → x < Z.page.cells → BlockPassed x
  unfolding block_hit block_hit_on
  passed x h = let e = else-none _ _ (pass1 (block_of Z s x) (number_lt Z.page (joins_block Z s) (omega arith) x h)) in
      let f = else-none _ _ e.1 in record {
        agree = λ y z m n. pass-cells Z s _ [] (own_block Z s x) e.0 y z m n;
        small = λ c. first-none _ _ f.0 (colour-listed c);
        clue = f.1;
      }

  -- the first cell of a colour that a block has
  head-some : (x y : ℕ) → y ∈ own_block Z s x
      → (z : ℕ) × (head? (coloured Z s (Z.colour y) (own_block Z s x)) ≡ some z)
  unfolding coloured
  head-some x y m = go (filter (λ w. beq (Z.colour w) (Z.colour y)) (own_block Z s x))
      (mem-filter (λ w. beq (Z.colour w) (Z.colour y)) (own_block Z s x) m
      (eq-beq (Z.colour y) (Z.colour y) refl))
    where
      go : (ys : List ℕ) → y ∈ ys → (z : ℕ) × (head? ys ≡ some z)
      go [] n = absurd (Memᴰ.not-nil n)
      go (z ∷ ys) n = (z, refl)

  not-lt : (a b : ℕ) (r : Reason) → hit_if (ltb a b) r ≡ none → b ≤ a
  not-lt a b r e = nltb→le a b (not_T (ltb a b) (hit-misses (ltb a b) r e))

  count-size : (x y : ℕ) → x < Z.page.cells → y ∈ own_block Z s x
      → length (coloured Z s (not (Z.colour y)) (own_block Z s x)) ≤ size_of Z s (potential_of Z s y)
  unfolding small_hit
  count-size x y hx m = go (head? (coloured Z s (Z.colour y) (own_block Z s x))) (head-some x y m) refl
      ((passed x hx).small (Z.colour y))
    where
      go : (o : Option ℕ) → (z : ℕ) × (head? (coloured Z s (Z.colour y) (own_block Z s x)) ≡ some z)
          → head? (coloured Z s (Z.colour y) (own_block Z s x)) ≡ o →
          small_hit Z s (block_of Z s x) (own_block Z s x) (Z.colour y) o ≡ none
          → length (coloured Z s (not (Z.colour y)) (own_block Z s x)) ≤ size_of Z s
          (potential_of Z s y)
      go none r e k = let f = r.1 in let z : ◌≡◌ {A = ℕ} 0 1 = cc in absurd (omega arith)
      go (some z) r e k = let n = head-mem Z s (Z.colour y) (own_block Z s x) (some z) e z refl in
          let q = ((passed x hx).agree z y n.0 m).pots n.1 in
          rw (← q) (not-lt _ _ _ k)

  pub one_unit : (x y : ℕ) → x < Z.page.cells → SameBlock Z s x y → Z.colour x ≡ Z.colour y → SameUnit Z s x y
  one_unit x y hx j e = pot-unit Z K s full x y hx (join-in Z.page K _ hx j)
      (((passed x hx).agree x y (in_block Z K s full x x hx (stay refl)) (in_block Z K s full x y hx j)).pots e)

  pub same_size : (x y : ℕ) → x < Z.page.cells → SameBlock Z s x y → Z.colour y ≡ not (Z.colour x)
      → size_of Z s (potential_of Z s y) ≤ size_of Z s (potential_of Z s x)
  same_size x y hx j e = let a = size-count Z K s full x y hx (in_block Z K s full x y hx j) in
      let b = count-size x x hx (in_block Z K s full x x hx (stay refl)) in
      let c : length (coloured Z s (Z.colour y) (own_block Z s x)) ≡ length
      (coloured Z s (not (Z.colour x)) (own_block Z s x)) =
      ap (λ d. length (coloured Z s d (own_block Z s x))) e in omega arith

  clue-some : (xs : List ℕ) (x n : ℕ) → x ∈ xs → Z.clue x ≡ some n → (k : ℕ) × (block_clue Z.clue xs ≡ some k)
  unfolding block_clue
  clue-some xs x n m e = go (first_hit Z.clue xs) refl
    where
      go : (o : Option ℕ) → first_hit Z.clue xs ≡ o → (k : ℕ) × (o ≡ some k)
      go (some k) q = (k, refl)
      go none q = let f = first-none Z.clue xs q m in let z : ◌≡◌ {A = ℕ} 0 1 = cc in absurd (omega arith)

  clue-down : (x k : ℕ) (c : Bool) (r : Reason)
      → hit_if (ltb k (length (coloured Z s false (own_block Z s x))) || ltb k
      (length (coloured Z s true (own_block Z s x)))) r ≡ none
      → length (coloured Z s c (own_block Z s x)) ≤ k
  clue-down x k false r e = nltb→le k _
      (not_T (ltb k (length (coloured Z s false (own_block Z s x))))
      (λ t. hit-misses _ r e (T-or-l (ltb k (length (coloured Z s false (own_block Z s x)))) _ t)))
  clue-down x k true r e = nltb→le k _
      (not_T (ltb k (length (coloured Z s true (own_block Z s x))))
      (λ t. hit-misses _ r e (T-or-r (ltb k (length (coloured Z s false (own_block Z s x)))) _ t)))

  clue-up : (x k : ℕ) → x < Z.page.cells
      → big_hit Z s (block_of Z s x) (own_block Z s x) k (Z.colour x)
      (head? (coloured Z s (Z.colour x) (own_block Z s x))) ≡ none → k ≤ size_of Z s (potential_of Z s x)
  unfolding big_hit
  clue-up x k hx h = go (head? (coloured Z s (Z.colour x) (own_block Z s x)))
      (head-some x x (in_block Z K s full x x hx (stay refl))) refl h
    where
      go : (o : Option ℕ) → (z : ℕ) × (head? (coloured Z s (Z.colour x) (own_block Z s x)) ≡ some z)
          → head? (coloured Z s (Z.colour x) (own_block Z s x)) ≡ o →
          big_hit Z s (block_of Z s x) (own_block Z s x) k (Z.colour x) o ≡ none
          → k ≤ size_of Z s (potential_of Z s x)
      go none r e t = let f = r.1 in let z : ◌≡◌ {A = ℕ} 0 1 = cc in absurd (omega arith)
      go (some z) r e t = let n = head-mem Z s (Z.colour x) (own_block Z s x) (some z) e z refl in
          let q = ((passed x hx).agree z x n.0 (in_block Z K s full x x hx (stay refl))).pots n.1 in
          rw (← q) (not-lt _ _ _ t)

  clue-fits : (x k : ℕ) → x < Z.page.cells
      → clue_hit Z s (block_of Z s x) (own_block Z s x) (some k) ≡ none
      → size_of Z s (potential_of Z s x) ≡ k
  unfolding clue_hit
  clue-fits x k hx e =
      let d = else-none _ _ e in
      let a = clue-down x k (Z.colour x) _ d.0 in
      let b = clue-up x k hx (first-none _ _ d.1 (colour-listed (Z.colour x))) in
      let c = size-count Z K s full x x hx (in_block Z K s full x x hx (stay refl)) in omega arith

  pub clue-kept : (x n : ℕ) → x < Z.page.cells → Z.clue x ≡ some n → UnitHas Z s x n
  clue-kept x n hx e =
      let mx = in_block Z K s full x x hx (stay refl) in
      let c = clue-some (own_block Z s x) x n mx e in
      let z = clue-mem Z s (own_block Z s x) c.0 c.1 in
      unit-size-has Z K s x n hx
      (unit_size_lem Z K s full x hx
      ∙ (clue-fits x c.0 hx (rw c.1 at (passed x hx).clue)
      ∙ ((passed x hx).agree z.0 x z.1 mx).clues c.0 n z.2 e))
