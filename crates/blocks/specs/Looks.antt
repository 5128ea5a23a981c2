-- Looks: one look at a block's cells, which ends at the first cell at which something is wrong.
--
--   ClueKept k o after  the clue k, or the clue o after none; the two do not clash
--   RoomFor m o k a     m cells of one colour fit o of the other and the clue k, where their potential unit has a
--                       cells
--   ColourRoom m o k a  the same, or there are no such cells
--   Roomy m o k q f     RoomFor, where q is the potential unit and f gives its size; with none there are no such cells
--   Owned xs own        own has the potential unit of each colour of the cells xs, and none for a colour of none
--   Seen xs own k n     what was seen of the cells xs, at which nothing is wrong: own is theirs, k is their clue, n of
--                       them have colour 1
--   seen_none           no cell was seen
--   seen_more           one cell more
--   seen-stray          the fault of the whole, where the next cell's potential unit is not that of its colour
--   seen-clash          the same, where the next cell's clue clashes
--   seen-scan           no cell that was seen has a fault
--   seen-clear          nothing is wrong with cells that are seen so, where both colours have room
use Rattle.std.proofs.Math.Path.{◌≡◌, refl, sym, ap}
use Rattle.std.proofs.Common.{◌∙◌, inl, inr, ⊎_elim, append-nil, append_assoc, length-append, get_or-set_same}
use Rattle.std.proofs.Common.{get_or-set_other}
use Rattle.std.specs.Prelude.{◌⊎◌, Bool, ℕ, ◌+◌, ◌-◌, ◌≤◌, set, Option, None, Some, MatchOption}
use Rattle.std.specs.Option.{option_or, IfSome}
use Rattle.std.proofs.lemmas.Option.{same_Some}
use Rattle.std.proofs.Math.Bool.{true, false, beq}
use mathlib.Core.List.Memᴰ
use mathlib.Core.List.{List, [], ◌∷◌, ◌++◌}
use Rattle.std.proofs.Math.Option.{Option as Maybe, some, none}
use native.Mathlib.Omega.{arith}
use Rattle.std.proofs.Math.ListN.{length, get_or}
use Rattle.lists.specs.Lists.{◌∈◌, keep_if, filter, first_hit, or_else}
use Rattle.lists.specs.ListLaws.{mem-filter, filter-mem, filter-test}
use Rattle.lists.specs.Appends.{filter-append, first-append}
use Rattle.lists.specs.Booleans.{beq-eq, eq-beq}
use Rattle.lists.specs.Count.{bit}
use Rattle.lists.specs.CountLaws.{bit-under}
use Rattle.rules.specs.Check.{clash, block_clue}
use Rattle.blocks.specs.declared.Part.{Part}
use Rattle.blocks.specs.declared.Census.{Census}
use Rattle.blocks.specs.declared.Fault.{Fault}
use Rattle.blocks.specs.declared.Fault.TheVariants.{InsideEdge, Inside}
use Rattle.blocks.specs.Censuses.{first_in, option_of, clue_in, option-clue, of_colour, colour_unit}
use Rattle.blocks.specs.Censuses.{colour_part, census_of, coloured-more, clue-more}
use Rattle.blocks.specs.Scan.{clash-none, clash-self, clash-cases}
use Rattle.blocks.specs.Faults.{first_fault, cell_fault, small_fault, big_fault, clue_fault}
use Rattle.blocks.specs.Faults.{census_fault, scan_on, fault_on}
use Rattle.blocks.specs.FaultCases.{scan-stray, scan-clash, scan-clear, small-none, small-fits}
use Rattle.blocks.specs.FaultCases.{big-none, big-fits, clue-none, clue-big}

bit-cases : (c d : Bool) → (c ≡ d) ⊎ (bit d ≡ bit c → ⊥)
bit-cases true true = inl refl
bit-cases true false = inr (λ e. omega arith)
bit-cases false true = inr (λ e. omega arith)
bit-cases false false = inl refl

abbrev pub ClueKept : Option ℕ → Maybe ℕ → Option ℕ → Type 0
ClueKept k o after = (after ≡ option_or k (clue_in o)) × (clash (option_of k) o ≡ false)

abbrev pub RoomFor : ℕ → ℕ → Option ℕ → ℕ → Type 0
RoomFor m o k a = (o ≤ a) × IfSome k (λ n. (m ≤ n) × (n ≤ a))

-- with none of its colour, a cell asks nothing
abbrev pub ColourRoom : ℕ → ℕ → Option ℕ → ℕ → Type 0
ColourRoom m o k a = (m ≡ 0) ⊎ RoomFor m o k a

abbrev pub Roomy : ℕ → ℕ → Option ℕ → Option ℕ → (ℕ → ℕ) → Type 0
Roomy m o k q f = MatchOption q (m ≡ 0) (λ u. RoomFor m o k (f u))

-- a number that does not differ from the one that is kept is that one
pub same_kept : (u v : ℕ) → clash (some u) (some v) ≡ false → u ≡ v
same_kept u v e =
    ⊎_elim (λ o. absurd (some_none o)) (λ o. maybe-same o)
    (clash-cases (some u) (some v) e (λ f. absurd (some_none f)))
  where
    some_none : {n : ℕ} → some n ≡ none → ⊥
    some_none f = let z : ◌≡◌ {A = ℕ} 0 1 = cc in omega arith

    maybe-same : some v ≡ some u → u ≡ v
    maybe-same f = cc

-- one colour of a census has none, or its potential unit has room
module _ (p : Part) (o : ℕ) (k : Option ℕ) (a : ℕ) where
  small-clear : (q : Part) → q.size ≡ o → ColourRoom p.size o k a → None ≡ small_fault p q a
  small-clear q e (inl h) = small-none p q a h
  small-clear q e (inr r) = small-fits p q a (omega (arith, r.0))

  big-clear : (n : ℕ) → k ≡ Some n → ColourRoom p.size o k a → None ≡ big_fault n p a
  big-clear n e (inl h) = big-none n p a h
  big-clear n e (inr r) = let b = rw e at r.1 in big-fits n p a b.1

  below-clue : (n : ℕ) → k ≡ Some n → ColourRoom p.size o k a → p.size ≤ n
  below-clue n e (inl h) = omega arith
  below-clue n e (inr r) = let b = rw e at r.1 in b.0

-- a census whose two colours have room
census-clear : (t : Census) (a b : ℕ) → ColourRoom t.zero.size t.one.size t.clue a
    → ColourRoom t.one.size t.zero.size t.clue b → None ≡ census_fault t a b
unfolding census_fault
census-clear t a b r s =
    rw (← small-clear t.zero _ t.clue a t.one refl r, ← small-clear t.one _ t.clue b t.zero refl s)
    (go t.clue refl)
  where
    go : (k : Option ℕ) → t.clue ≡ k → None ≡ clue_fault t.clue t.zero t.one a b
    go None e = clue-none t.clue t.zero t.one a b e
    go (Some n) e =
        rw (← big-clear t.zero _ t.clue a n e r, ← big-clear t.one _ t.clue b n e s) at
        (clue-big t.clue t.zero t.one a b n e (below-clue t.zero _ t.clue a n e r)
        (below-clue t.one _ t.clue b n e s))

first-clear : (f : ℕ → Option Fault) (xs : List ℕ) → ((x : ℕ) → x ∈ xs → f x ≡ None) → first_fault f xs ≡ None
unfolding first_fault
first-clear f [] h = refl
first-clear f (x ∷ xs) h = rw (h x (Memᴰ.head refl)) (first-clear f xs (λ y m. h y (Memᴰ.tail m)))

-- the first fault is that of x, where those before it are clear
first_found : (f : ℕ → Option Fault) (xs : List ℕ) (x : ℕ) (ys : List ℕ) → ((y : ℕ) → y ∈ xs → f y ≡ None)
    → (g : Fault) → Some g ≡ f x → Some g ≡ first_fault f (xs ++ (x ∷ ys))
unfolding first_fault
first_found f [] x ys h g e = rw (← e)
first_found f (z ∷ xs) x ys h g e =
    rw (h z (Memᴰ.head refl)) (first_found f xs x ys (λ y m. h y (Memᴰ.tail m)) g e)

module _ (colour_at : ℕ → Bool) (clue_at : ℕ → Maybe ℕ) (unit_at : ℕ → ℕ) where
  abbrev those : Bool → List ℕ → List ℕ
  those c xs = of_colour colour_at clue_at unit_at c xs

  pub record Owned (xs : List ℕ) (own : List (Option ℕ)) : Type 0 where
    pub units : (y : ℕ) → y ∈ xs → get_or own (bit (colour_at y)) None ≡ Some (unit_at y)
    pub firsts : (c : Bool) (u : ℕ) → get_or own (bit c) None ≡ Some u → (y : ℕ) × y ∈ xs × (colour_at y ≡ c)

  pub record Seen (xs : List ℕ) (own : List (Option ℕ)) (k : Option ℕ) (n : ℕ) : Type 0 where
    pub owned : Owned xs own
    pub clues : (y : ℕ) → y ∈ xs → (clue_at y ≡ none) ⊎ (clue_at y ≡ option_of k)
    pub clue : k ≡ clue_in (block_clue clue_at xs)
    pub count : n ≡ length (those true xs)

  pub seen_none : Seen [] (None ∷ None ∷ []) None 0
  unfolding of_colour filter block_clue first_hit
  seen_none =
      record {
        owned = record { units = λ y m. absurd (Memᴰ.not-nil m); firsts = bare };
        clues = λ y m. absurd (Memᴰ.not-nil m);
        clue = refl;
        count = refl;
      }
    where
      bare : (c : Bool) (u : ℕ) → get_or (None ∷ None ∷ []) (bit c) None ≡ Some u
          → (y : ℕ) × y ∈ [] × (colour_at y ≡ c)
      bare true u e = absurd (let z : ◌≡◌ {A = ℕ} 0 1 = cc in omega arith)
      bare false u e = absurd (let z : ◌≡◌ {A = ℕ} 0 1 = cc in omega arith)

  clues-more : (xs : List ℕ) (x : ℕ) (k : Option ℕ)
      → ((y : ℕ) → y ∈ xs → (clue_at y ≡ none) ⊎ (clue_at y ≡ option_of k))
      → clash (option_of k) (clue_at x) ≡ false → (y : ℕ) → y ∈ (xs ++ (x ∷ []))
      → (clue_at y ≡ none) ⊎ (clue_at y ≡ option_of (option_or k (clue_in (clue_at x))))
  clues-more xs x None h e y m =
      ⊎_elim (λ q. ⊎_elim (λ a. inl a) (λ a. inl a) (h y q))
      (λ q. inr (ap clue_at (Memᴰ.eq_of_singleton q) ∙ sym (option-clue (clue_at x)))) (Memᴰ.append_cases xs m)
  clues-more xs x (Some n) h e y m =
      ⊎_elim (λ q. h y q)
      (λ q.
      let d : y ≡ x = Memᴰ.eq_of_singleton q in
      rw d
      (clash-cases (some n) (clue_at x) e (λ g. let z : ◌≡◌ {A = ℕ} 0 1 = cc in absurd (omega arith))))
      (Memᴰ.append_cases xs m)

  count-more : (xs : List ℕ) (x : ℕ)
      → length (those true (xs ++ (x ∷ []))) ≡ length (those true xs) + bit (colour_at x)
  count-more xs x =
      ap length (coloured-more colour_at clue_at unit_at true xs x)
      ∙ length-append (those true xs) (keep_if (beq (colour_at x) true) x [])
      ∙ ap (λ m. length (those true xs) + m) (go (colour_at x))
    where
      go : (c : Bool) → length (keep_if (beq c true) x []) ≡ bit c
      go true = refl
      go false = refl

  module _ {xs : List ℕ} {own : List (Option ℕ)} (o : Owned xs own) where
    -- one cell more: the first of its colour, or of the colour's potential unit
    pub owned-more : (x : ℕ) → length own ≡ 2
        → clash (option_of (get_or own (bit (colour_at x)) None)) (some (unit_at x)) ≡ false
        → Owned (xs ++ (x ∷ [])) (set own (bit (colour_at x)) (Some (unit_at x)))
    owned-more x two e =
        record {
          units = λ y m. ⊎_elim (λ p. earlier y p) (λ p. let d : y ≡ x = Memᴰ.eq_of_singleton p in rw d here)
              (Memᴰ.append_cases xs m);
          firsts = λ c u h.
              ⊎_elim (λ d. (x, Memᴰ.append_right xs (Memᴰ.head refl), d))
              (λ d.
              let r = o.firsts c u (sym (get_or-set_other own _ _ (Some (unit_at x)) None d) ∙ h) in
              (r.0, Memᴰ.append_left (x ∷ []) r.1, r.2))
              (bit-cases (colour_at x) c);
        }
      where
        here : get_or (set own (bit (colour_at x)) (Some (unit_at x))) (bit (colour_at x)) None ≡ Some (unit_at x)
        here = get_or-set_same own _ (Some (unit_at x)) None (omega (arith, bit-under (colour_at x)))

        earlier : (y : ℕ) → y ∈ xs
            → get_or (set own (bit (colour_at x)) (Some (unit_at x))) (bit (colour_at y)) None ≡ Some (unit_at y)
        earlier y p =
            ⊎_elim
            (λ d.
            let f = rw (← d) at (o.units y p) in
            let s = same_kept (unit_at y) (unit_at x) (rw f at e) in
            rw (← d) (here ∙ ap Some (sym s)))
            (λ d. get_or-set_other own _ _ (Some (unit_at x)) None d ∙ o.units y p)
            (bit-cases (colour_at x) (colour_at y))

    -- the unit of the first cell of a colour, whatever cells ys follow
    pub own_is : (ys : List ℕ) (c : Bool) → (length (those c xs) ≡ 0 → ⊥)
        → get_or own (bit c) None ≡ Some (colour_unit colour_at clue_at unit_at (xs ++ ys) c)
    unfolding colour_unit of_colour
    own_is ys c h =
        go (those c xs) refl
        ∙ ap (λ zs. Some (first_in unit_at zs)) (sym (filter-append (λ z. beq (colour_at z) c) xs ys))
      where
        go : (zs : List ℕ) → those c xs ≡ zs → get_or own (bit c) None ≡ Some (first_in unit_at (zs ++ those c ys))
        go [] e = absurd (h (ap length e))
        go (z ∷ zs) e =
            let m : z ∈ those c xs = rw e (Memᴰ.head refl) in
            let b = beq-eq (colour_at z) c (filter-test (λ y. beq (colour_at y) c) xs m) in
            ap (λ d. get_or own (bit d) None) (sym b) ∙ o.units z (filter-mem (λ y. beq (colour_at y) c) xs m)

    own-cell : (ys : List ℕ) (x : ℕ) → x ∈ xs → colour_unit colour_at clue_at unit_at (xs ++ ys) (colour_at x)
        ≡ unit_at x
    unfolding of_colour
    own-cell ys x m =
        same_Some _ _
        (sym (own_is ys (colour_at x)
        (some_in (mem-filter (λ z. beq (colour_at z) (colour_at x)) xs m (eq-beq (colour_at x) (colour_at x) refl))))
        ∙ o.units x m)
      where
        some_in : {zs : List ℕ} → x ∈ zs → length zs ≡ 0 → ⊥
        some_in (Memᴰ.head q) e = omega arith
        some_in (Memᴰ.tail q) e = omega arith

    pub own-found : (ys : List ℕ) (c : Bool) (u : ℕ) → get_or own (bit c) None ≡ Some u
        → colour_unit colour_at clue_at unit_at (xs ++ ys) c ≡ u
    own-found ys c u h =
        let r = o.firsts c u h in
        let e = rw r.2 at (own-cell ys r.0 r.1) in
        e ∙ same_Some _ _ (sym (rw r.2 at (o.units r.0 r.1)) ∙ h)

    -- a colour of none has no cell
    pub own-none : (c : Bool) → get_or own (bit c) None ≡ None → length (those c xs) ≡ 0
    unfolding of_colour
    own-none c h = go (those c xs) refl
      where
        go : (zs : List ℕ) → those c xs ≡ zs → length zs ≡ 0
        go [] e = refl
        go (z ∷ zs) e =
            let f = sym h ∙ own_is [] c (λ l. let g = sym (ap length e) ∙ l in omega arith) in
            absurd (let z : ◌≡◌ {A = ℕ} 0 1 = cc in omega arith)

  module _ {xs : List ℕ} {own : List (Option ℕ)} {k : Option ℕ} {n : ℕ} (s : Seen xs own k n) where
    -- one cell more, whose clue does not clash
    pub seen_more : (x : ℕ) (after : List (Option ℕ)) (first : Option ℕ) → Owned (xs ++ (x ∷ [])) after
        → ClueKept k (clue_at x) first → Seen (xs ++ (x ∷ [])) after first (n + bit (colour_at x))
    seen_more x after first o e =
        record {
          owned = o;
          clues = rw e.0 (clues-more xs x k s.clues e.1);
          clue =
              e.0 ∙ sym
              (clue-more colour_at clue_at unit_at xs x ∙ ap (λ j. option_or j (clue_in (clue_at x))) (sym s.clue));
          count = sym (count-more xs x ∙ ap (λ m. m + bit (colour_at x)) (sym s.count));
        }

    -- a clue that was seen is the first, whatever cells ys follow
    clue-kept : (ys : List ℕ) (m : ℕ) → k ≡ Some m → block_clue clue_at (xs ++ ys) ≡ some m
    unfolding block_clue or_else
    clue-kept ys m e =
        let f : first_hit clue_at xs ≡ some m =
        sym (option-clue (first_hit clue_at xs)) ∙ ap option_of (sym s.clue ∙ e) in
        first-append clue_at xs ys ∙ rw f

    cell-clear : (ys : List ℕ) (x : ℕ) → x ∈ xs
        → cell_fault colour_at clue_at unit_at (colour_unit colour_at clue_at unit_at (xs ++ ys))
        (block_clue clue_at (xs ++ ys))
        x
        ≡ None
    unfolding cell_fault
    cell-clear ys x m = sym (scan-clear _ _ _ _ _ (own-cell s.owned ys x m) (go k refl (s.clues x m)))
      where
        go : (j : Option ℕ) → k ≡ j → (clue_at x ≡ none) ⊎ (clue_at x ≡ option_of j)
            → clash (block_clue clue_at (xs ++ ys)) (clue_at x) ≡ false
        go j e (inl f) = rw f (clash-none (block_clue clue_at (xs ++ ys)))
        go None e (inr f) = rw f (clash-none (block_clue clue_at (xs ++ ys)))
        go (Some i) e (inr f) = rw (f, clue-kept ys i e) (clash-self (some i))

    pub seen-scan : scan_on colour_at clue_at unit_at xs ≡ None
    unfolding scan_on
    seen-scan = first-clear _ xs (λ x m. rw (append-nil xs) at (cell-clear [] x m))

    -- the first cell with which something is wrong
    stop : (size_at : ℕ → ℕ) (x : ℕ) (ys : List ℕ) (f : Fault)
        → Some f ≡ cell_fault colour_at clue_at unit_at (colour_unit colour_at clue_at unit_at (xs ++ (x ∷ ys)))
        (block_clue clue_at (xs ++ (x ∷ ys))) x
        → Some f ≡ fault_on colour_at clue_at unit_at size_at (xs ++ (x ∷ ys))
    unfolding fault_on scan_on
    stop size_at x ys f e = rw (← first_found _ xs x ys (cell-clear (x ∷ ys)) f e)

    -- its potential unit is another one than that of its colour
    pub seen-stray : (size_at : ℕ → ℕ) (x : ℕ) (ys : List ℕ)
        → clash (option_of (get_or own (bit (colour_at x)) None)) (some (unit_at x)) ≡ true
        → Some (InsideEdge (unit_at x)) ≡ fault_on colour_at clue_at unit_at size_at (xs ++ (x ∷ ys))
    unfolding cell_fault
    seen-stray size_at x ys h =
        stop size_at x ys _ (scan-stray _ _ _ _ _ (go (get_or own (bit (colour_at x)) None) refl h))
      where
        go : (j : Option ℕ) → get_or own (bit (colour_at x)) None ≡ j → clash (option_of j) (some (unit_at x)) ≡ true
            → colour_unit colour_at clue_at unit_at (xs ++ (x ∷ ys)) (colour_at x) ≡ unit_at x → ⊥
        go None e f d = let z : ◌≡◌ {A = ℕ} 0 1 = cc in omega arith
        go (Some u) e f d =
            let g : u ≡ unit_at x = sym (own-found s.owned (x ∷ ys) (colour_at x) u e) ∙ d in
            let q = sym (clash-self (some u)) ∙ (rw (← g) at f) in
            let z : ◌≡◌ {A = ℕ} 0 1 = cc in omega arith

    -- its clue clashes
    pub seen-clash : (size_at : ℕ → ℕ) (x : ℕ) (ys : List ℕ) {after : List (Option ℕ)} → Owned (xs ++ (x ∷ [])) after
        → clash (option_of k) (clue_at x) ≡ true
        → Some Inside ≡ fault_on colour_at clue_at unit_at size_at (xs ++ (x ∷ ys))
    unfolding cell_fault
    seen-clash size_at x ys o h =
        stop size_at x ys _
        (scan-clash _ _ _ _ _
        (rw (append_assoc xs (x ∷ []) ys) at (own-cell o ys x (Memᴰ.append_right xs (Memᴰ.head refl))))
        (go k refl h))
      where
        go : (j : Option ℕ) → k ≡ j → clash (option_of j) (clue_at x) ≡ true
            → clash (block_clue clue_at (xs ++ (x ∷ ys))) (clue_at x) ≡ true
        go None e f = let z : ◌≡◌ {A = ℕ} 0 1 = cc in absurd (omega arith)
        go (Some i) e f = rw (clue-kept (x ∷ ys) i e) f

    room-own : (size_at : ℕ → ℕ) (c : Bool) (m o : ℕ) → Roomy m o k (get_or own (bit c) None) size_at
        → ColourRoom m o (clue_in (block_clue clue_at xs)) (size_at
        (colour_unit colour_at clue_at unit_at xs c))
    room-own size_at c m o r = rw (← s.clue) (go (get_or own (bit c) None) refl r)
      where
        go : (q : Option ℕ) → get_or own (bit c) None ≡ q → Roomy m o k q size_at
            → ColourRoom m o k (size_at (colour_unit colour_at clue_at unit_at xs c))
        go None e h = inl h
        go (Some u) e h = inr (rw (rw (append-nil xs) at (own-found s.owned [] c u e)) h)

    both : (ys : List ℕ) → length (those true ys) + length (those false ys) ≡ length ys
    unfolding of_colour filter
    both [] = refl
    both (y ∷ ys) = go (colour_at y) (both ys)
      where
        go : (c : Bool) → length (those true ys) + length (those false ys) ≡ length ys
            → length (keep_if (beq c true) y (those true ys)) + length
            (keep_if (beq c false) y (those false ys))
            ≡ length (y ∷ ys)
        go true e = omega arith
        go false e = omega arith

    pub zeros-are : length xs - n ≡ length (those false xs)
    zeros-are = omega (arith, both xs, s.count)

    pub seen-clear : (size_at : ℕ → ℕ) → Roomy (length xs - n) n k (get_or own 0 None) size_at
        → Roomy n (length xs - n) k (get_or own 1 None) size_at → None
        ≡ fault_on colour_at clue_at unit_at size_at xs
    unfolding fault_on census_of colour_part
    seen-clear size_at r q =
        rw seen-scan
        (census-clear (census_of colour_at clue_at unit_at xs) _ _
        (rw (zeros-are, s.count) at (room-own size_at false _ _ r))
        (rw (zeros-are, s.count) at (room-own size_at true _ _ q)))
