-- Censuses: what step 1 counts of a block's cells, and that it may be counted cell by cell.
--
--   first_in f xs        what f gives for the first of xs, 0 if there is none
--   option_of k          a clue as the rules have it
--   clue_in o            a clue of the rules as the code has it
--   next_part p u k      the part p with one cell more, of potential unit u; k says whether it has a clue
--   next_census t c u k  the census t with one cell more, of colour c, potential unit u and clue k
--   no_part, no_census   the part and the census of no cell
--   of_colour c xs       the cells of colour c among xs
--   colour_unit xs c     the potential unit of the first of them, 0 if there is none
--   has_clue xs          one of the cells xs has a clue
--   colour_part c xs     what step 1 asks of the cells of colour c among xs
--   census_of xs         what step 1 asks of the cells xs
use Rattle.std.specs.Prelude.{◌≡◌, Bool, ◌||◌, List, [], ◌∷◌, ◌++◌, ℕ, ◌+◌, eqb, Option, None, Some}
use Rattle.std.specs.Option as option
use Rattle.std.proofs.Math.Path.{refl, ap}
use Rattle.std.proofs.Common.{◌∙◌, append-nil, arith, ne_eqb}
use Rattle.std.proofs.Math.Bool.{true, false, cond, beq, or-false}
use Rattle.std.proofs.Math.Option.{Option as Maybe, some, none}
use Rattle.std.proofs.Math.ListN.{length, length-append}
use Rattle.lists.specs.Lists.{keep_if, filter, any, first_hit, or_else}
use Rattle.lists.specs.Appends.{filter-append, any_append, first-append}
use Rattle.rules.specs.Check.{is_some, block_clue}
use Rattle.blocks.specs.declared.Part.{Part}
use Rattle.blocks.specs.declared.Census.{Census}

abbrev pub first_in : (ℕ → ℕ) → List ℕ → ℕ
first_in f [] = 0
first_in f (x ∷ xs) = f x

abbrev pub option_of : Option ℕ → Maybe ℕ
option_of None = none
option_of (Some n) = some n

abbrev pub clue_in : Maybe ℕ → Option ℕ
clue_in none = None
clue_in (some n) = Some n

pub option-clue : (o : Maybe ℕ) → option_of (clue_in o) ≡ o
option-clue none = refl
option-clue (some n) = refl

-- a part with one cell more, of potential unit u
unfoldable pub next_part : Part → ℕ → Bool → Part
next_part p u k =
    record { size = p.size + 1; unit = cond (eqb p.size 0) u p.unit; clued = p.clued || k }

-- a census with one cell more, of colour c
unfoldable pub next_census : Census → Bool → ℕ → Option ℕ → Census
next_census t true u k =
    record { zero = t.zero; one = next_part t.one u (option.is_some k); clue = option.option_or t.clue k }
next_census t false u k =
    record { zero = next_part t.zero u (option.is_some k); one = t.one; clue = option.option_or t.clue k }

abbrev pub no_part : Part
no_part = record { size = 0; unit = 0; clued = false }

abbrev pub no_census : Census
no_census = record { zero = no_part; one = no_part; clue = None }

module _ (colour_at : ℕ → Bool) (clue_at : ℕ → Maybe ℕ) (unit_at : ℕ → ℕ) where
  unfoldable pub of_colour : Bool → List ℕ → List ℕ
  of_colour c xs = filter (λ x. beq (colour_at x) c) xs

  unfoldable pub colour_unit : List ℕ → Bool → ℕ
  colour_unit xs c = first_in unit_at (of_colour c xs)

  unfoldable pub has_clue : List ℕ → Bool
  has_clue xs = any (λ y. is_some (clue_at y)) xs

  unfoldable pub colour_part : Bool → List ℕ → Part
  colour_part c xs =
      record { size = length (of_colour c xs); unit = colour_unit xs c; clued = has_clue (of_colour c xs) }

  unfoldable pub census_of : List ℕ → Census
  census_of xs =
      record { zero = colour_part false xs; one = colour_part true xs; clue = clue_in (block_clue clue_at xs) }

  -- ---- laws

  abbrev snoc : List ℕ → ℕ → List ℕ
  snoc xs x = xs ++ (x ∷ [])

  pub coloured-more : (c : Bool) (xs : List ℕ) (x : ℕ)
      → of_colour c (snoc xs x) ≡ of_colour c xs ++ keep_if (beq (colour_at x) c) x []
  unfolding of_colour filter
  coloured-more c xs x = filter-append (λ y. beq (colour_at y) c) xs (x ∷ [])

  -- the cells ys of a part, with x put last
  abbrev part_from : List ℕ → Part
  part_from ys = record { size = length ys; unit = first_in unit_at ys; clued = has_clue ys }

  part-put : (ys : List ℕ) (x : ℕ)
      → part_from (snoc ys x) ≡ next_part (part_from ys) (unit_at x) (is_some (clue_at x))
  unfolding has_clue any next_part
  part-put ys x =
      λ i. record {
        size = size i;
        unit = unit ys i;
        clued = clued i;
      }
    where
      size : length (snoc ys x) ≡ length ys + 1
      size = length-append ys (x ∷ [])

      unit : (zs : List ℕ)
          → first_in unit_at (snoc zs x)
          ≡ cond (eqb (length zs) 0) (unit_at x) (first_in unit_at zs)
      unit [] = refl
      unit (z ∷ zs) = rw (ne_eqb (length (z ∷ zs)) 0 (λ e. let q : length (z ∷ zs) ≡ 0 = e in omega arith))

      clued : has_clue (snoc ys x) ≡ (has_clue ys || is_some (clue_at x))
      clued = any_append (λ y. is_some (clue_at y)) ys (x ∷ [])
          ∙ ap (λ b. has_clue ys || b) (or-false (is_some (clue_at x)))

  part-more : (c : Bool) (xs : List ℕ) (x : ℕ) (b : Bool) → beq (colour_at x) c ≡ b
      → colour_part c (snoc xs x)
      ≡ cond b (next_part (colour_part c xs) (unit_at x) (is_some (clue_at x))) (colour_part c xs)
  unfolding colour_part colour_unit
  part-more c xs x b e =
      ap part_from (coloured-more c xs x ∙ ap (λ (d : Bool). of_colour c xs ++ keep_if d x []) e) ∙ go b
    where
      go : (d : Bool)
          → part_from (of_colour c xs ++ keep_if d x [])
          ≡ cond d (next_part (part_from (of_colour c xs)) (unit_at x) (is_some (clue_at x)))
          (part_from (of_colour c xs))
      go true = part-put (of_colour c xs) x
      go false = ap part_from (append-nil (of_colour c xs))

  pub clue-more : (xs : List ℕ) (x : ℕ)
      → clue_in (block_clue clue_at (snoc xs x))
      ≡ option.option_or (clue_in (block_clue clue_at xs)) (clue_in (clue_at x))
  unfolding block_clue first_hit or_else
  clue-more xs x = ap clue_in (first-append clue_at xs (x ∷ [])) ∙ go (first_hit clue_at xs) (clue_at x)
    where
      go : (o k : Maybe ℕ) → clue_in (or_else o (or_else k none)) ≡ option.option_or (clue_in o) (clue_in k)
      go none none = refl
      go none (some k) = refl
      go (some n) k = refl

  pub census-none : census_of [] ≡ no_census
  unfolding census_of colour_part colour_unit of_colour filter block_clue first_hit has_clue any
  census-none = refl

  -- one cell more is counted
  pub census-more : (xs : List ℕ) (x : ℕ)
      → census_of (snoc xs x) ≡ next_census (census_of xs) (colour_at x) (unit_at x) (clue_in (clue_at x))
  unfolding census_of next_census
  census-more xs x = go (colour_at x) refl
    where
      some-there : (o : Maybe ℕ) → is_some o ≡ option.is_some (clue_in o)
      some-there none = refl
      some-there (some n) = refl

      k : is_some (clue_at x) ≡ option.is_some (clue_in (clue_at x))
      k = some-there (clue_at x)

      go : (c : Bool) → colour_at x ≡ c
          → census_of (snoc xs x) ≡ next_census (census_of xs) c (unit_at x) (clue_in (clue_at x))
      go true e = λ i. record {
        zero = part-more false xs x false (ap (λ d. beq d false) e) i;
        one = (part-more true xs x true (ap (λ d. beq d true) e) ∙ ap (next_part (colour_part true xs) (unit_at x)) k)
            i;
        clue = clue-more xs x i;
      }
      go false e = λ i. record {
        zero = (part-more false xs x true (ap (λ d. beq d false) e)
            ∙ ap (next_part (colour_part false xs) (unit_at x)) k) i;
        one = part-more true xs x false (ap (λ d. beq d true) e) i;
        clue = clue-more xs x i;
      }
