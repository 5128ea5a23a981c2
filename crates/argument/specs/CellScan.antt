-- Cells of a block that step 1 passes: those of one colour are of one potential unit, and they have one clue.
--
--   Agree y x           the two cells agree so
--   pass-cells          any two cells of a block agree where the scan cell by cell gives no hit
--   head-mem, clue-mem  the first cell of a colour, and the first clue, are of the block
use Rattle.std.proofs.Math.Path.{◌≡◌, refl, subst}
use Rattle.std.proofs.Common.{◌∙◌, sym, inl, inr, arith}
use Rattle.std.specs.Prelude.{◌⊎◌, Bool, not, ℕ, eqb}
use Rattle.std.proofs.Math.Bool.{beq}
use mathlib.Core.List.Memᴰ
use mathlib.Core.List.{List, [], ◌∷◌, ◌++◌}
use Rattle.std.proofs.Math.Option.{Option, some, none}
use Rattle.std.proofs.Math.Dec.{T, eqb→eq}
use Rattle.lists.specs.Lists.{◌∈◌, filter, any, head?}
use Rattle.lists.specs.ListLaws.{filter-mem, filter-test, any-mem, first-find}
use Rattle.lists.specs.Booleans.{T_and, T-dec, beq-eq, eq-beq}
use Rattle.rules.specs.Page.{Puzzle, State}
use Rattle.rules.specs.Groups.{potential_of}
use Rattle.rules.specs.Check.{hit_if, clash, block_clue, inside_block, edge_of, coloured, stray_from, cell_hit}
use Rattle.rules.specs.Check.{cell_hits}
use Rattle.argument.specs.Hits.{hit-misses, else-none}

module _ (Z : Puzzle) (s : ℕ → State) where
  -- cells that step 1 has passed: one potential unit a colour, one clue
  pub record Agree (y x : ℕ) : Type 0 where
    pub pots : Z.colour y ≡ Z.colour x → potential_of Z s y ≡ potential_of Z s x
    pub clues : (i j : ℕ) → Z.clue y ≡ some i → Z.clue x ≡ some j → i ≡ j

  differ-T : (a b : Option ℕ) (i j : ℕ) → a ≡ some i → b ≡ some j → (T (clash a b) → ⊥) → i ≡ j
  differ-T a b i j e f d = go (T-dec (eqb i j))
    where
      go : T (eqb i j) ⊎ T (not (eqb i j)) → i ≡ j
      go (inl t) = eqb→eq i j t
      go (inr t) = absurd (d (rw (e, f) t))

  pass-cell : (B x : ℕ) (earlier : List ℕ) → cell_hit Z s B earlier x ≡ none → (y : ℕ) → y ∈ earlier → Agree y x
  unfolding cell_hit stray_from
  pass-cell B x earlier e y m = let p = else-none _ _ e in record {
    pots = λ q. go (T-dec (eqb (potential_of Z s y) (potential_of Z s x))) q p.0;
    clues = λ i j a b. differ-T _ _ i j a b
        (λ t. hit-misses _ _ p.1 (any-mem (λ z. clash (Z.clue z) (Z.clue x)) earlier m t));
  }
    where
      go : T (eqb (potential_of Z s y) (potential_of Z s x)) ⊎ T (not (eqb (potential_of Z s y) (potential_of Z s x)))
          → Z.colour y ≡ Z.colour x →
          hit_if (any (stray_from Z s x) earlier) (inside_block Z s B ++ edge_of Z s (potential_of Z s x)) ≡ none
          → potential_of Z s y ≡ potential_of Z s x
      go (inl t) q h = eqb→eq _ _ t
      go (inr t) q h = absurd (hit-misses _ _ h
          (any-mem (stray_from Z s x) earlier m
          (let u : T (beq (Z.colour y) (Z.colour x)) = eq-beq (Z.colour y) (Z.colour x) q in search T_and)))

  pass-earlier : (B : ℕ) (earlier xs : List ℕ) → cell_hits Z s B earlier xs ≡ none → (y x : ℕ) → y ∈ earlier → x ∈ xs
      → Agree y x
  unfolding cell_hits
  pass-earlier B earlier [] e y x m n = absurd (Memᴰ.not-nil n)
  pass-earlier B earlier (z ∷ xs) e y x m (Memᴰ.head q) =
      subst (λ (k : ℕ). Agree y k) (sym q) (pass-cell B z earlier (else-none _ _ e).0 y m)
  pass-earlier B earlier (z ∷ xs) e y x m (Memᴰ.tail n) =
      pass-earlier B (z ∷ earlier) xs (else-none _ _ e).1 y x (Memᴰ.tail m) n

  agree-sym : (x y : ℕ) → Agree x y → Agree y x
  agree-sym x y a = record { pots = λ q. sym (a.pots (sym q)); clues = λ i j p q. sym (a.clues j i q p) }

  agree_refl : (x : ℕ) → Agree x x
  agree_refl x = record { pots = λ q. refl; clues = λ i j p q. cc }

  pub pass-cells : (B : ℕ) (earlier xs : List ℕ) → cell_hits Z s B earlier xs ≡ none → (y x : ℕ) → y ∈ xs → x ∈ xs
      → Agree y x
  unfolding cell_hits
  pass-cells B earlier [] e y x m n = absurd (Memᴰ.not-nil n)
  pass-cells B earlier (z ∷ xs) e y x m n =
      go (Memᴰ.cases_cons m) (Memᴰ.cases_cons n)
      (λ k l. pass-cells B (z ∷ earlier) xs (else-none _ _ e).1 y x k l)
    where
      go : (y ≡ z) ⊎ y ∈ xs → (x ≡ z) ⊎ x ∈ xs → (y ∈ xs → x ∈ xs → Agree y x) → Agree y x
      go (inl p) (inl q) ih = subst (λ (k : ℕ). Agree k x) (sym p) (subst (λ (k : ℕ). Agree z k) (sym q) (agree_refl z))
      go (inl p) (inr l) ih = pass-earlier B (z ∷ earlier) xs (else-none _ _ e).1 y x (Memᴰ.head p) l
      go (inr k) (inl q) ih = agree-sym x y
          (pass-earlier B (z ∷ earlier) xs (else-none _ _ e).1 x y (Memᴰ.head q) k)
      go (inr k) (inr l) ih = ih k l

  pub head-mem : (c : Bool) (xs : List ℕ) (o : Option ℕ) → head? (coloured Z s c xs) ≡ o → (x : ℕ) → o ≡ some x
      → x ∈ xs × (Z.colour x ≡ c)
  unfolding coloured
  head-mem c xs o e x f = go (filter (λ y. beq (Z.colour y) c) xs) refl (e ∙ f)
    where
      go : (ys : List ℕ) → filter (λ y. beq (Z.colour y) c) xs ≡ ys → head? ys ≡ some x
          → x ∈ xs × (Z.colour x ≡ c)
      go [] p q = let z : ◌≡◌ {A = ℕ} 0 1 = cc in absurd (omega arith)
      go (y ∷ ys) p q = let m : x ∈ filter (λ y. beq (Z.colour y) c) xs =
          rw p (Memᴰ.head (let u : x ≡ y = cc in u)) in (
            filter-mem (λ y. beq (Z.colour y) c) xs m,
            beq-eq (Z.colour x) c (filter-test (λ y. beq (Z.colour y) c) xs m),
          )

  pub clue-mem : (xs : List ℕ) (n : ℕ) → block_clue Z.clue xs ≡ some n → (z : ℕ) × z ∈ xs × (Z.clue z ≡ some n)
  unfolding block_clue
  clue-mem xs n e = first-find Z.clue xs n e
