-- Step 1, cell by cell: to compare with every earlier cell is to compare with the first one of its colour, and with the
-- first clue, since the first hit ends the scan.
--
--   own xs c            the potential unit of the first c-coloured cell of xs, 0 if there is none
--   scan_hit B q n x    the hit at cell x, against the units q of the first cells and the first clue n
--   scan-cells          Check's scan of a block's cells is the first of these hits
use Rattle.std.proofs.Math.Path.{◌≡◌, refl}
use Rattle.std.proofs.Common.{sym, ap, ◌∙◌, ⊎_elim, arith, eqb→eq}
use Rattle.std.specs.Prelude.{◌⊎◌, Bool, not, ℕ}
use Rattle.std.proofs.Math.Logic.{inl, inr}
use Rattle.std.proofs.Math.Bool.{true, false}
use Rattle.std.specs.Bool.{beq}
use mathlib.Core.List.Memᴰ
use mathlib.Core.List.{List, [], ◌∷◌, ◌++◌}
use Rattle.std.proofs.Math.Option.{Option, some, none}
use Rattle.std.proofs.Math.Dec.{T, eqb, eqb_refl}
use Rattle.lists.specs.Lists.{◌∈◌, keep_if, filter, any, first_hit, or_else}
use Rattle.lists.specs.ListLaws.{any-mem, any-find}
use Rattle.lists.specs.Booleans.{same_test, T-dec, T_and, T-and-l, T-and-r, T_true, beq-eq, eq-beq}
use Rattle.lists.specs.Arithmetic.{neqb→ne, ne→neqb}
use Rattle.rules.specs.Page.{Puzzle, State}
use Rattle.rules.specs.Groups.{potential_of}
use Rattle.rules.specs.Check.{Reason, hit_if, is_some, clash, block_clue, inside_block, edge_of, stray_from, cell_hit}
use Rattle.rules.specs.Check.{cell_hits}
use Rattle.blocks.specs.Censuses.{first_in, of_colour, colour_unit}

-- ---- tests

pub clash-none : (o : Option ℕ) → clash o none ≡ false
clash-none none = refl
clash-none (some n) = refl

pub clash-self : (o : Option ℕ) → clash o o ≡ false
clash-self none = refl
clash-self (some n) = ap not (T_true (eqb n n) (eqb_refl n))

-- a clue that does not clash with the first one is the first one, or none
pub clash-cases : (n o : Option ℕ) → clash n o ≡ false → (n ≡ none → o ≡ none) → (o ≡ none) ⊎ (o ≡ n)
clash-cases none o e f = inl (f refl)
clash-cases (some n) none e f = inl refl
clash-cases (some n) (some o) e f =
    inr (⊎_elim (λ u. ap some (sym (eqb→eq n o u))) (λ u. absurd (rw e at u)) (T-dec (eqb n o)))

module _ (Z : Puzzle) (s : ℕ → State) where
  -- the potential unit of the first cell of a colour
  abbrev own : List ℕ → Bool → ℕ
  own xs c = colour_unit Z.colour Z.clue (potential_of Z s) xs c

  -- q gives the potential unit of the block's first cell of each colour, n is its first clue
  unfoldable pub scan_hit : ℕ → (Bool → ℕ) → Option ℕ → ℕ → Option Reason
  scan_hit B q n x =
      or_else
      (hit_if (not (eqb (q (Z.colour x)) (potential_of Z s x))) (inside_block Z s B
      ++ edge_of Z s (potential_of Z s x)))
      (hit_if (clash n (Z.clue x)) (inside_block Z s B))

  -- what the cells passed, and those to come, have to do with q and n
  record Agrees (q : Bool → ℕ) (n : Option ℕ) (earlier rest : List ℕ) : Type 0 where
    units : (y : ℕ) → y ∈ earlier → potential_of Z s y ≡ q (Z.colour y)
    clues : (y : ℕ) → y ∈ earlier → (Z.clue y ≡ none) ⊎ (Z.clue y ≡ n)
    firsts : (c : Bool) → ((y : ℕ) × y ∈ earlier × (Z.colour y ≡ c)) ⊎ (q c ≡ own rest c)
    clue : ((y : ℕ) × y ∈ earlier × (Z.clue y ≡ n) × T (is_some n)) ⊎ (n ≡ block_clue Z.clue rest)

  module _ (q : Bool → ℕ) (n : Option ℕ) (earlier : List ℕ) (x : ℕ) (xs : List ℕ) (a : Agrees q n earlier (x ∷ xs))
    where
      -- the first cell of its colour
      own_first : q (Z.colour x) ≡ own (x ∷ xs) (Z.colour x) → q (Z.colour x) ≡ potential_of Z s x
      unfolding colour_unit of_colour filter
      own_first e = e ∙ go (beq (Z.colour x) (Z.colour x)) (eq-beq (Z.colour x) (Z.colour x) refl)
        where
          go : (b : Bool) → T b → first_in (potential_of Z s)
              (keep_if b x (of_colour Z.colour Z.clue (potential_of Z s) (Z.colour x) xs)) ≡ potential_of Z s x
          go true t = refl
          go false t = absurd t

      stray-same : any (stray_from Z s x) earlier ≡ not (eqb (q (Z.colour x)) (potential_of Z s x))
      unfolding stray_from
      stray-same = same_test _ _ there (λ t. back t (a.firsts (Z.colour x)))
        where
          there : T (any (stray_from Z s x) earlier) → T (not (eqb (q (Z.colour x)) (potential_of Z s x)))
          there t =
              let r = any-find (stray_from Z s x) earlier t in
              let c : Z.colour r.0 ≡ Z.colour x =
              beq-eq _ _ (T-and-l (beq (Z.colour r.0) (Z.colour x)) _ r.2) in
              let d = neqb→ne _ _ (T-and-r (beq (Z.colour r.0) (Z.colour x)) _ r.2) in
              ne→neqb _ _ (λ e. d (a.units r.0 r.1 ∙ (ap q c ∙ e)))

          back : T (not (eqb (q (Z.colour x)) (potential_of Z s x)))
              → ((y : ℕ) × y ∈ earlier × (Z.colour y ≡ Z.colour x)) ⊎ (q (Z.colour x) ≡ own (x ∷ xs) (Z.colour x))
              → T (any (stray_from Z s x) earlier)
          back t (inl r) =
              any-mem (stray_from Z s x) earlier r.1
              (T_and (beq (Z.colour r.0) (Z.colour x)) _ (rw r.2 (eq-beq (Z.colour x) (Z.colour x) refl))
              (ne→neqb _ _ (λ e. neqb→ne _ _ t (ap q (sym r.2) ∙ (sym (a.units r.0 r.1) ∙ e)))))
          back t (inr e) = absurd (neqb→ne _ _ t (own_first e))

      -- the first clue among x and the cells after it
      clue-own : (o : Option ℕ) → Z.clue x ≡ o → n ≡ block_clue Z.clue (x ∷ xs) → (o ≡ none) ⊎ (o ≡ n)
      unfolding block_clue first_hit or_else
      clue-own none e f = inl refl
      clue-own (some k) e f = inr (sym (rw e at f))

      clash-same : any (λ y. clash (Z.clue y) (Z.clue x)) earlier ≡ clash n (Z.clue x)
      clash-same = same_test _ _ there (λ t. back t a.clue)
        where
          there : T (any (λ y. clash (Z.clue y) (Z.clue x)) earlier) → T (clash n (Z.clue x))
          there t =
              let r = any-find (λ y. clash (Z.clue y) (Z.clue x)) earlier t in
              at r.0 r.2 (a.clues r.0 r.1)
            where
              at : (y : ℕ) → T (clash (Z.clue y) (Z.clue x)) → (Z.clue y ≡ none) ⊎ (Z.clue y ≡ n)
                  → T (clash n (Z.clue x))
              at y t (inl e) = absurd (rw e at t)
              at y t (inr e) = rw e at t

          back : T (clash n (Z.clue x))
              → ((y : ℕ) × y ∈ earlier × (Z.clue y ≡ n) × T (is_some n)) ⊎ (n ≡ block_clue Z.clue (x ∷ xs))
              → T (any (λ y. clash (Z.clue y) (Z.clue x)) earlier)
          back t (inl r) = any-mem (λ y. clash (Z.clue y) (Z.clue x)) earlier r.1 (rw r.2 t)
          back t (inr e) = absurd (at (clue-own (Z.clue x) refl e))
            where
              at : (Z.clue x ≡ none) ⊎ (Z.clue x ≡ n) → ⊥
              at (inl o) = rw (o, clash-none n) at t
              at (inr o) = rw (o, clash-self n) at t

      own-rest : (c : Bool) → beq (Z.colour x) c ≡ false → own (x ∷ xs) c ≡ own xs c
      unfolding colour_unit of_colour filter
      own-rest c g = rw g

      clue-rest : Z.clue x ≡ none → block_clue Z.clue (x ∷ xs) ≡ block_clue Z.clue xs
      unfolding block_clue first_hit or_else
      clue-rest g = rw g

      clue-here : {k : ℕ} → Z.clue x ≡ some k → block_clue Z.clue (x ∷ xs) ≡ some k
      unfolding block_clue first_hit or_else
      clue-here g = rw g

      hit_same : (B : ℕ) → cell_hit Z s B earlier x ≡ scan_hit B q n x
      unfolding cell_hit scan_hit
      hit_same B = rw (stray-same, clash-same)

      -- one cell passed without a hit
      agrees-next : potential_of Z s x ≡ q (Z.colour x) → clash n (Z.clue x) ≡ false → Agrees q n (x ∷ earlier) xs
      agrees-next p e =
          record {
            units = λ y m. units y m;
            clues = λ y m. clues y m;
            firsts = λ c. firsts c (beq (Z.colour x) c) refl (a.firsts c);
            clue = clue (Z.clue x) refl a.clue;
          }
        where
          units : (y : ℕ) → y ∈ (x ∷ earlier) → potential_of Z s y ≡ q (Z.colour y)
          units y (Memᴰ.head f) = rw f p
          units y (Memᴰ.tail m) = a.units y m

          bare : n ≡ none
              → ((y : ℕ) × y ∈ earlier × (Z.clue y ≡ n) × T (is_some n)) ⊎ (n ≡ block_clue Z.clue (x ∷ xs))
              → Z.clue x ≡ none
          bare f (inl r) = absurd (rw f at r.3)
          bare f (inr g) = ⊎_elim (λ o. o) (λ o. o ∙ f) (clue-own (Z.clue x) refl g)

          clues : (y : ℕ) → y ∈ (x ∷ earlier) → (Z.clue y ≡ none) ⊎ (Z.clue y ≡ n)
          clues y (Memᴰ.head f) = rw f (clash-cases n (Z.clue x) e (λ g. bare g a.clue))
          clues y (Memᴰ.tail m) = a.clues y m

          firsts : (c b : Bool) → beq (Z.colour x) c ≡ b
              → ((y : ℕ) × y ∈ earlier × (Z.colour y ≡ c)) ⊎ (q c ≡ own (x ∷ xs) c)
              → ((y : ℕ) × y ∈ (x ∷ earlier) × (Z.colour y ≡ c)) ⊎ (q c ≡ own xs c)
          firsts c b g (inl r) = inl (r.0, Memᴰ.tail r.1, r.2)
          firsts c true g (inr f) = inl (x, Memᴰ.head refl, beq-eq (Z.colour x) c (rw g tt))
          firsts c false g (inr f) = inr (f ∙ own-rest c g)

          clue : (o : Option ℕ) → Z.clue x ≡ o
              → ((y : ℕ) × y ∈ earlier × (Z.clue y ≡ n) × T (is_some n)) ⊎ (n ≡ block_clue Z.clue (x ∷ xs))
              → ((y : ℕ) × y ∈ (x ∷ earlier) × (Z.clue y ≡ n) × T (is_some n)) ⊎ (n ≡ block_clue Z.clue xs)
          clue o g (inl r) = inl (r.0, Memᴰ.tail r.1, r.2, r.3)
          clue none g (inr f) = inr (f ∙ clue-rest g)
          clue (some k) g (inr f) = inl (x, Memᴰ.head refl, g ∙ sym (f ∙ clue-here g), rw (f ∙ clue-here g) tt)

  -- no hit at a cell
  scan-none : (B : ℕ) (q : Bool → ℕ) (n : Option ℕ) (x : ℕ) → scan_hit B q n x ≡ none
      → (potential_of Z s x ≡ q (Z.colour x)) × (clash n (Z.clue x) ≡ false)
  unfolding scan_hit or_else hit_if
  scan-none B q n x e = go (eqb (q (Z.colour x)) (potential_of Z s x)) refl (clash n (Z.clue x)) refl e
    where
      go : (b : Bool) → eqb (q (Z.colour x)) (potential_of Z s x) ≡ b → (d : Bool) → clash n (Z.clue x) ≡ d
          → or_else (hit_if (not b) (inside_block Z s B ++ edge_of Z s (potential_of Z s x)))
          (hit_if d (inside_block Z s B)) ≡
          none
          → (potential_of Z s x ≡ q (Z.colour x)) × (clash n (Z.clue x) ≡ false)
      go true f false g h = (sym (eqb→eq _ _ (rw f tt)), g)
      go true f true g h = let z : ◌≡◌ {A = ℕ} 0 1 = cc in absurd (omega arith)
      go false f d g h = let z : ◌≡◌ {A = ℕ} 0 1 = cc in absurd (omega arith)

  else_same : (o a b : Option Reason) → (o ≡ none → a ≡ b) → or_else o a ≡ or_else o b
  unfolding or_else
  else_same none a b f = f refl
  else_same (some r) a b f = refl

  scan-from : (B : ℕ) (q : Bool → ℕ) (n : Option ℕ) (earlier xs : List ℕ) → Agrees q n earlier xs
      → cell_hits Z s B earlier xs ≡ first_hit (scan_hit B q n) xs
  unfolding cell_hits first_hit
  scan-from B q n earlier [] a = refl
  scan-from B q n earlier (x ∷ xs) a =
      rw (hit_same q n earlier x xs a B)
      (else_same _ _ _
      (λ e.
      let r = scan-none B q n x e in scan-from B q n (x ∷ earlier) xs (agrees-next q n earlier x xs a r.0 r.1)))

  pub scan-cells : (B : ℕ) (xs : List ℕ)
      → cell_hits Z s B [] xs ≡ first_hit (scan_hit B (own xs) (block_clue Z.clue xs)) xs
  scan-cells B xs =
      scan-from B (own xs) (block_clue Z.clue xs) [] xs
      (record {
        units = λ y m. absurd (Memᴰ.not-nil m);
        clues = λ y m. absurd (Memᴰ.not-nil m);
        firsts = λ c. inr refl;
        clue = inr refl;
      })
