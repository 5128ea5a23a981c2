-- Step 1 is sound: no solution contains a reason that it gives.
--
--   Sound Z r           no solution of Z contains the reason r
--   block-of            a solution that contains Inside(B) has the cells of B in one block
--   edge-size           one that contains Edge(P): the unit of a cell of P is no larger than P
--   count-size          one that contains Inside(B): B's count of a colour is no larger than the unit of a cell of B
--   sound-block         every reason of step 1 is sound
--
-- A clue above P's size with Edge(P) alone is the one place where a later hit leans on earlier ones: the coloured cell
-- that has a clue is in P, and its clue is n, because (a) and (b) gave no hit.
use Rattle.std.specs.Prelude.{◌≡◌, ◌⊎◌, Bool, not, cond, ltb, length}
use Rattle.std.proofs.Common.{◌∙◌, sym, inl, inr, arith, ltb→lt}
use Rattle.std.proofs.Math.Path.{refl}
use Rattle.std.proofs.Math.Bool.{true, false}
use Rattle.std.specs.Bool.{beq}
use mathlib.Core.List.Memᴰ
use mathlib.Core.List.{List, [], ◌∷◌, ◌++◌}
use Rattle.std.proofs.Math.Option.{Option, some, none}
use Prim.Native.Nat.{ℕ, ◌≤◌, ◌<◌}
use Rattle.std.proofs.Math.Dec.{T}
use Rattle.lists.specs.Lists.{◌∈◌, any, head?}
use Rattle.lists.specs.ListLaws.{filter-mem, filter-test, any-find}
use Rattle.lists.specs.Lengths.{subset-le}
use Rattle.lists.specs.Booleans.{T-and-l, T-and-r, T-or, beq-eq}
use Rattle.lists.specs.Arithmetic.{neqb→ne}
use Rattle.lists.specs.Filters.{distinct_filter}
use Rattle.rules.specs.Page.{Puzzle, State, Contains}
use Rattle.rules.specs.Rules.{joins_block, SameBlock, Solution}
use Rattle.rules.specs.Groups.{block_of, potential_of}
use Rattle.rules.specs.Check.{Reason, is_some, clash, block_clue, inside_block, edge_of, size_of, coloured, stray_from}
use Rattle.rules.specs.Check.{cell_hit, cell_hits, small_hit, big_hit, clue_hit, block_hit_on, block_hit}
use Rattle.laws.specs.PageLaws.{Bordered, CellsPlaced}
use Rattle.laws.specs.StateLaws.{contains-l, contains-r}
use Rattle.laws.specs.RuleLaws.{join-trans, join-in, join-sym}
use Rattle.laws.specs.GroupLaws.{number-joined, mem-members, members-lt, members-number, members-distinct, block_cells}
use Rattle.argument.specs.Keeps.{block-keeps, edge_stays}
use Rattle.argument.specs.Hits.{Each, each-hit, each-else, each_first}
use Rattle.argument.specs.Sizes.{unit_size, unit_mem, mem_unit, unit-size-is, block_size}
use Rattle.argument.specs.CellScan.{pass-cells, head-mem, clue-mem}

-- no solution contains it
unfoldable pub Sound : Puzzle → Reason → Type 0
Sound Z r = (σ : ℕ → State) → Solution Z σ → Contains σ r → ⊥

-- what a board and a solution that contains Inside or Edge have
module _ (Z : Puzzle) (K : Bordered Z.page) (P : CellsPlaced Z.page) (s : ℕ → State) where
  -- two cells of B are in one block of the solution
  pub block-of : (σ : ℕ → State) (B x y : ℕ) → Contains σ (inside_block Z s B) → x ∈ block_cells Z s B
      → y ∈ block_cells Z s B → SameBlock Z σ x y
  block-of σ B x y c m n = let hx = members-lt Z.page (block_of Z s) B x m in
      let hy = members-lt Z.page (block_of Z s) B y n in
      block-keeps Z K s σ B c hx (members-number Z.page (block_of Z s) B x m)
      (number-joined Z.page K (joins_block Z s) x y hx hy
      (members-number Z.page (block_of Z s) B x m ∙ sym (members-number Z.page (block_of Z s) B y n)))

  -- the unit of a cell of P has no more cells than P
  pub edge-size : (σ : ℕ → State) → Solution Z σ → (k x : ℕ) → Contains σ (edge_of Z s k) → x < Z.page.cells
      → potential_of Z s x ≡ k → unit_size Z σ x ≤ size_of Z s k
  unfolding unit_size size_of
  edge-size σ sol k x c h e = subset-le _ _ (members-distinct Z.page _ _)
      (λ y m. mem-members Z.page (potential_of Z s) k y (members-lt Z.page _ _ y m)
      (edge_stays Z K s σ k c h e (mem_unit Z K σ x y h m)))

  -- B has no more cells of a colour than a unit of the solution's block
  pub count-size : (σ : ℕ → State) → Solution Z σ → (B z : ℕ) (c : Bool) → Contains σ (inside_block Z s B)
      → z ∈ block_cells Z s B → length (coloured Z s c (block_cells Z s B)) ≤ unit_size Z σ z
  unfolding unit_size coloured
  count-size σ sol B z c k m = rw (block_size Z K P σ sol z w.0 hz w.1) sub
    where
      hz : z < Z.page.cells
      hz = members-lt Z.page (block_of Z s) B z m

      w : (y : ℕ) × SameBlock Z σ z y × (Z.colour y ≡ c)
      w = sol.both z c hz

      hw : w.0 < Z.page.cells
      hw = join-in Z.page K _ hz w.1

      sub : length (coloured Z s c (block_cells Z s B)) ≤ unit_size Z σ w.0
      sub = subset-le _ _ (distinct_filter (λ x. beq (Z.colour x) c) (block_cells Z s B)
          (members-distinct Z.page (block_of Z s) B))
          (λ y n. let n' = filter-mem (λ x. beq (Z.colour x) c) (block_cells Z s B) n in
          unit_mem Z K σ w.0 y hw (sol.one w.0 y hw
          (join-trans Z.page _ (join-sym Z.page K _ hz w.1) (block-of σ B z y k m n'))
          (w.2 ∙ sym (beq-eq _ _ (filter-test (λ x. beq (Z.colour x) c) (block_cells Z s B) n)))))

  sound-a : (B x y : ℕ) → x ∈ block_cells Z s B → y ∈ block_cells Z s B → Z.colour y ≡ Z.colour x
      → (potential_of Z s y ≡ potential_of Z s x → ⊥) → Sound Z (inside_block Z s B ++ edge_of Z s (potential_of Z s x))
  unfolding Sound
  sound-a B x y m n q d σ sol c = let hx = members-lt Z.page (block_of Z s) B x m in
      d (edge_stays Z K s σ (potential_of Z s x) (contains-r σ (inside_block Z s B) _ c) hx refl
      (sol.one x y hx (block-of σ B x y (contains-l σ (inside_block Z s B) _ c) m n) (sym q)))

  clue-size : (σ : ℕ → State) → Solution Z σ → (B x y n : ℕ) → Contains σ (inside_block Z s B) → x ∈ block_cells Z s B
      → y ∈ block_cells Z s B → Z.clue x ≡ some n → unit_size Z σ y ≡ n
  clue-size σ sol B x y n c m k e = let hx = members-lt Z.page (block_of Z s) B x m in
      sym (block_size Z K P σ sol x y hx (block-of σ B x y c m k)) ∙ unit-size-is Z K σ x n hx (sol.clues x n hx e)

  differ-clues : (a b : Option ℕ) → T (clash a b) → (i : ℕ) × (j : ℕ) × (a ≡ some i) × (b ≡ some j) × (i ≡ j → ⊥)
  differ-clues (some i) (some j) t = (i, j, refl, refl, neqb→ne i j t)
  differ-clues (some i) none t = absurd t
  differ-clues none b t = absurd t

  sound-b : (B x y : ℕ) → x ∈ block_cells Z s B → y ∈ block_cells Z s B → T (clash (Z.clue y) (Z.clue x))
      → Sound Z (inside_block Z s B)
  unfolding Sound
  sound-b B x y m n t σ sol c = let d = differ-clues (Z.clue y) (Z.clue x) t in
      d.4 (sym (clue-size σ sol B y y d.0 c n n d.2) ∙ clue-size σ sol B x y d.1 c m n d.3)

  sound-cell : (B x : ℕ) (earlier : List ℕ) → x ∈ block_cells Z s B → ((y : ℕ) → y ∈ earlier → y ∈ block_cells Z s B)
      → Each (Sound Z) (cell_hit Z s B earlier x)
  unfolding cell_hit stray_from
  sound-cell B x earlier m n = each-else (Sound Z) _ _
      (each-hit (Sound Z) _ _
      (λ t. let f = any-find (stray_from Z s x) earlier t in sound-a B x f.0 m (n f.0 f.1)
      (beq-eq (Z.colour f.0) (Z.colour x) (T-and-l (beq (Z.colour f.0) (Z.colour x)) _ f.2))
      (neqb→ne _ _ (T-and-r (beq (Z.colour f.0) (Z.colour x)) _ f.2))))
      (λ h. each-hit (Sound Z) _ _ (λ t. let f = any-find _ earlier t in sound-b B x f.0 m (n f.0 f.1) f.2))

  sound-cells : (B : ℕ) (earlier xs : List ℕ) → ((y : ℕ) → y ∈ xs → y ∈ block_cells Z s B)
      → ((y : ℕ) → y ∈ earlier → y ∈ block_cells Z s B) → Each (Sound Z) (cell_hits Z s B earlier xs)
  unfolding cell_hits Each
  sound-cells B earlier [] m n = tt
  sound-cells B earlier (x ∷ xs) m n = each-else (Sound Z) _ _ (sound-cell B x earlier (m x (Memᴰ.head refl)) n)
      (λ h. sound-cells B (x ∷ earlier) xs (λ y k. m y (Memᴰ.tail k)) (λ y k. go y (Memᴰ.cases_cons k)))
    where
      go : (y : ℕ) → (y ≡ x) ⊎ y ∈ earlier → y ∈ block_cells Z s B
      go y (inl q) = rw q (m x (Memᴰ.head refl))
      go y (inr k) = n y k

  sound-small : (B : ℕ) (c : Bool) (o : Option ℕ) → head? (coloured Z s c (block_cells Z s B)) ≡ o
      → Each (Sound Z) (small_hit Z s B (block_cells Z s B) c o)
  unfolding small_hit Each Sound
  sound-small B c none e = tt
  sound-small B c (some x) e = each-hit (Sound Z) _ _
      (λ t σ sol k. let m = head-mem Z s c (block_cells Z s B) (some x) e x refl in
      let a = count-size σ sol B x (not c) (contains-l σ (inside_block Z s B) _ k) m.0 in
      let b = edge-size σ sol (potential_of Z s x) x (contains-r σ (inside_block Z s B) _ k)
      (members-lt Z.page (block_of Z s) B x m.0) refl in omega (arith, ltb→lt))

  some-clue : (o : Option ℕ) → T (is_some o) → (n : ℕ) × (o ≡ some n)
  some-clue (some n) t = (n, refl)
  some-clue none t = absurd t

  sound-big : (B n : ℕ) (c : Bool) (o : Option ℕ) → cell_hits Z s B [] (block_cells Z s B) ≡ none
      → block_clue Z.clue (block_cells Z s B) ≡ some n →
      head? (coloured Z s c (block_cells Z s B)) ≡ o → Each (Sound Z) (big_hit Z s B (block_cells Z s B) n c o)
  unfolding big_hit Each Sound coloured
  sound-big B n c none p q e = tt
  sound-big B n c (some x) p q e =
      each-hit (Sound Z) _ _ (λ t. go t (any (λ y. is_some (Z.clue y)) (coloured Z s c (block_cells Z s B))) refl)
    where
      xs : List ℕ
      xs = block_cells Z s B

      mx : x ∈ xs × (Z.colour x ≡ c)
      mx = head-mem Z s c xs (some x) e x refl

      z : (z : ℕ) × z ∈ xs × (Z.clue z ≡ some n)
      z = clue-mem Z s xs n q

      go : T (ltb (size_of Z s (potential_of Z s x)) n) → (b : Bool)
          → any (λ y. is_some (Z.clue y)) (coloured Z s c xs) ≡ b
          → Sound Z (edge_of Z s (potential_of Z s x) ++ cond b [] (inside_block Z s B))
      go t true f σ sol k = let y = any-find (λ y. is_some (Z.clue y)) (coloured Z s c xs) (rw f tt) in
          let m = filter-mem (λ w. beq (Z.colour w) c) xs y.1 in
          let i = some-clue (Z.clue y.0) y.2 in
          let hy = members-lt Z.page (block_of Z s) B y.0 m in
          let d = (pass-cells Z s B [] xs p z.0 y.0 z.1 m).clues n i.0 z.2 i.1 in
          let f = (pass-cells Z s B [] xs p y.0 x m mx.0).pots
          (beq-eq (Z.colour y.0) c (filter-test (λ w. beq (Z.colour w) c) xs y.1) ∙ sym mx.1) in
          let a = edge-size σ sol (potential_of Z s x) y.0 (contains-l σ (edge_of Z s (potential_of Z s x)) _ k) hy f in
          let b = unit-size-is Z K σ y.0 i.0 hy (sol.clues y.0 i.0 hy i.1) in omega (arith, ltb→lt)
      go t false f σ sol k = let a = edge-size σ sol (potential_of Z s x) x
          (contains-l σ (edge_of Z s (potential_of Z s x)) _ k) (members-lt Z.page (block_of Z s) B x mx.0) refl in
          let b = clue-size σ sol B z.0 x n (contains-r σ (edge_of Z s (potential_of Z s x)) _ k) z.1 mx.0 z.2
          in omega (arith, ltb→lt)

  sound-clue : (B : ℕ) (o : Option ℕ) → cell_hits Z s B [] (block_cells Z s B) ≡ none
      → block_clue Z.clue (block_cells Z s B) ≡ o → Each (Sound Z) (clue_hit Z s B (block_cells Z s B) o)
  unfolding clue_hit Each Sound
  sound-clue B none p q = tt
  sound-clue B (some n) p q = each-else (Sound Z) _ _
      (each-hit (Sound Z) _ _ (λ t σ sol k. let z = clue-mem Z s (block_cells Z s B) n q in
      let a = count-size σ sol B z.0 false k z.1 in
      let b = count-size σ sol B z.0 true k z.1 in
      let d = clue-size σ sol B z.0 z.0 n k z.1 z.1 z.2 in
      go a b d (T-or (ltb n (length (coloured Z s false (block_cells Z s B)))) _ t)))
      (λ h. each_first (Sound Z) _ _ (λ c m. sound-big B n c _ p q refl))
    where
      go : {i j u : ℕ} → i ≤ u → j ≤ u → u ≡ n → T (ltb n i) ⊎ T (ltb n j) → ⊥
      go a b d (inl t) = omega (arith, ltb→lt)
      go a b d (inr t) = omega (arith, ltb→lt)

  pub sound-block : (B : ℕ) → Each (Sound Z) (block_hit Z s B)
  unfolding block_hit block_hit_on
  sound-block B = each-else (Sound Z) _ _
      (sound-cells B [] (block_cells Z s B) (λ y m. m) (λ y m. absurd (Memᴰ.not-nil m)))
      (λ p. each-else (Sound Z) _ _ (each_first (Sound Z) _ _ (λ c m. sound-small B c _ refl))
      (λ q. sound-clue B _ p refl))
