-- Laws of groups: they are numbered from 0 by their first cell, two cells have the same number exactly when they are
-- joined, and a group's cells are those with its number.
--
--   FirstOf G number x              x is the first cell of its group
--   Numbered G link number count    01's sentence on numbers, for any numbering
--   mem-members, members-lt, members-number  what is a member of a group
--   members-distinct                no cell stands in a group twice
--   members-same                    they come from the numbers of the page's cells alone
--   numbers-length, number_at       there is a number for each cell: how many first cells stand before its label
--   number_lt, group_count-le       numbers are below the count, and there are no more groups than cells
--   number-alone                    where there are as many, a cell's number is its place
--   members-none                    "A number that no group has gives an empty part"
--   number-joined, joined_number    equal numbers are joined cells, and the other way round
--   hop-number                      the two cells of a hop over a border that links have one number
--   number-first, number-order      each number has a first cell; an earlier first cell has the smaller number
--   numbered                        the numbers of Groups are such a numbering
--   number-has, members-some        each number below the count is that of a cell
--   block_cells, unit_cells, potential_cells  the cells of a block, of a unit, of a potential unit
--   own_block, own_unit, own_potential  the cells of a cell's own block, unit, potential unit
use Rattle.std.specs.Prelude.{◌≡◌, refl, Bool, List, [], ◌∷◌, ℕ, ◌≤◌, ◌<◌, length, get_or}
use Rattle.std.proofs.Common.{◌∙◌, ap, sym, arith}
use mathlib.Core.List.Memᴰ
use borrow.Author.Tests.{eqb-true}
use Rattle.std.proofs.Math.Dec.{eqb, T, eqb→eq, eqb_refl}
use Rattle.std.proofs.Math.ListN.{length-map}
use Rattle.lists.specs.Lists.{◌∈◌, range, Distinct}
use Rattle.lists.specs.ListLaws.{mem-filter, filter-mem, filter-test}
use Rattle.lists.specs.Count.{count_below}
use Rattle.lists.specs.CountLaws.{count-le, count-grows, count-inj, count-find, count-all, count-full}
use Rattle.lists.specs.Ranges.{mem-range, range-lt, distinct-range}
use Rattle.lists.specs.Filters.{distinct_filter, filter_same}
use Rattle.lists.specs.Maps.{get_d_map}
use Rattle.rules.specs.Page.{Hop, Page, Puzzle, State}
use Rattle.rules.specs.Rules.{Joined, stay, step}
use Rattle.rules.specs.Groups.{entry, labels, is_first, numbers, group_count, members, block_of, unit_of, potential_of}
use Rattle.laws.specs.PageLaws.{Bordered}
use Rattle.laws.specs.RuleLaws.{join-in}
use Rattle.laws.specs.LabelLaws.{labelled, label-le, label-idem, label-joined, joined-label}

-- x is a cell of the page, and no cell of its group stands before it
pub record FirstOf (G : Page) (number : ℕ → ℕ) (x : ℕ) : Type 0 where
  pub here : x < G.cells
  pub least : (y : ℕ) → y < G.cells → number y ≡ number x → x ≤ y

-- "Groups are numbered from 0 by their first cell in row order"
pub record Numbered (G : Page) (link : ℕ → Bool) (number : ℕ → ℕ) (count : ℕ) : Type 0 where
  -- cells of one number are joined, and joined cells have one number
  pub joined : (x y : ℕ) → x < G.cells → y < G.cells → number x ≡ number y → Joined G link y x
  pub same : (x y : ℕ) → x < G.cells → Joined G link y x → number x ≡ number y
  -- the numbers are those below the count, and each of them has a first cell
  pub below : (x : ℕ) → x < G.cells → number x < count
  pub first : (g : ℕ) → g < count → (x : ℕ) × FirstOf G number x × (number x ≡ g)
  -- a group whose first cell is earlier has the smaller number
  pub order : (x y : ℕ) → FirstOf G number x → FirstOf G number y → x < y → number x < number y

module _ (G : Page) (number : ℕ → ℕ) (g : ℕ) where
  pub mem-members : (x : ℕ) → x < G.cells → number x ≡ g → x ∈ members G number g
  unfolding members
  mem-members x h e = mem-filter (λ y. eqb (number y) g) _ (mem-range G.cells h) (rw e (eqb_refl g))

  pub members-lt : (x : ℕ) → x ∈ members G number g → x < G.cells
  unfolding members
  members-lt x m = range-lt G.cells (filter-mem (λ y. eqb (number y) g) _ m)

  pub members-number : (x : ℕ) → x ∈ members G number g → number x ≡ g
  unfolding members
  members-number x m = eqb→eq (number x) g (filter-test (λ y. eqb (number y) g) (range G.cells) m)

  pub members-distinct : Distinct (members G number g)
  unfolding members
  members-distinct = distinct_filter (λ y. eqb (number y) g) (range G.cells) (distinct-range 0 G.cells)

-- another numbering with the same numbers on the page
pub members-same : (G : Page) (f g : ℕ → ℕ) → ((x : ℕ) → x < G.cells → f x ≡ g x) → (k : ℕ)
    → members G f k ≡ members G g k
unfolding members
members-same G f g same k = filter_same _ _ (range G.cells) (λ x m. rw (same x (range-lt G.cells m)))

module _ (G : Page) (link : ℕ → Bool) where
  pub group_count-le : group_count G link ≤ G.cells
  unfolding group_count
  group_count-le = count-le G.cells (is_first (labels G link))

module _ (G : Page) (link : ℕ → Bool) (some : 1 ≤ G.cells) where
  pub numbers-length : length (numbers G link) ≡ G.cells
  unfolding numbers
  numbers-length = length-map (labels G link) _ ∙ (labelled G link some).size

  pub number_at : (i : ℕ) → i < G.cells
      → entry (numbers G link) i ≡ count_below (get_or (labels G link) i 0) (is_first (labels G link))
  unfolding numbers entry
  number_at i h = get_d_map _ (labels G link) i 0 0 (omega (arith, (labelled G link some).size))

  -- every cell's number is below the count
  pub number_lt : (i : ℕ) → i < G.cells → entry (numbers G link) i < group_count G link
  unfolding group_count is_first entry
  number_lt i h =
      rw (number_at i h)
      (count-grows (get_or (labels G link) i 0) G.cells (is_first (labels G link))
      (omega (arith, (labelled G link some).least i h))
      (rw ((labelled G link some).twice i h) (eqb_refl (get_or (labels G link) i 0))))

  -- where there are as many groups as cells, a cell's number is its place
  pub number-alone : group_count G link ≡ G.cells → (i : ℕ) → i < G.cells → entry (numbers G link) i ≡ i
  unfolding group_count is_first entry
  number-alone e i h =
      let first = count-full G.cells (is_first (labels G link)) e in
      rw (number_at i h, eqb-true (get_or (labels G link) i 0) i (first i h))
      (count-all i (is_first (labels G link)) (λ x l. first x (omega arith)))

-- "A number that no group has gives an empty part"
pub members-none : (G : Page) (link : ℕ → Bool) (g : ℕ) → group_count G link ≤ g
    → members G (entry (numbers G link)) g ≡ []
members-none G link g h = go (members G (entry (numbers G link)) g) (λ x m. m)
  where
    go : (xs : List ℕ) → ((x : ℕ) → x ∈ xs → x ∈ members G (entry (numbers G link)) g) → xs ≡ []
    go [] f = refl
    go (x ∷ xs) f =
        let m = f x (Memᴰ.head refl) in
        let e = members-number G (entry (numbers G link)) g x m in
        let k = members-lt G (entry (numbers G link)) g x m in
        let l = number_lt G link (omega arith) x k in
        absurd (omega arith)

module _ (G : Page) (K : Bordered G) (link : ℕ → Bool) where
  -- a cell's number counts the first cells before its label
  number_is : (x : ℕ) → x < G.cells
      → entry (numbers G link) x ≡ count_below (entry (labels G link) x) (is_first (labels G link))
  unfolding entry
  number_is x h = number_at G link (omega arith) x h

  label-first : (x : ℕ) → x < G.cells → T (is_first (labels G link) (entry (labels G link) x))
  unfolding is_first
  label-first x h = rw (label-idem G K link x h) (eqb_refl (entry (labels G link) x))

  number-label : (x y : ℕ) → x < G.cells → y < G.cells → entry (numbers G link) x ≡ entry (numbers G link) y
      → entry (labels G link) x ≡ entry (labels G link) y
  number-label x y h k e =
      count-inj _ _ (is_first (labels G link)) (label-first x h) (label-first y k)
      (sym (number_is x h) ∙ (e ∙ number_is y k))

  pub number-joined : (x y : ℕ) → x < G.cells → y < G.cells → entry (numbers G link) x ≡ entry (numbers G link) y
      → Joined G link y x
  number-joined x y h k e = label-joined G K link x y h k (number-label x y h k e)

  pub joined_number : {x y : ℕ} → x < G.cells → Joined G link y x
      → entry (numbers G link) x ≡ entry (numbers G link) y
  joined_number {x} {y} h j =
      number_is x h
      ∙ (ap (λ k. count_below k (is_first (labels G link))) (joined-label G K link h j)
      ∙ sym (number_is y (join-in G K link h j)))

  pub hop-number : (x : ℕ) (h : Hop) → x < G.cells → h ∈ G.around x → T (link h.border)
      → entry (numbers G link) x ≡ entry (numbers G link) h.to
  hop-number x h hx m t = joined_number hx (step h m t (stay refl))

  -- a label is the first cell of its group
  label-least : (x y : ℕ) → x < G.cells → y < G.cells → entry (numbers G link) y ≡ entry (numbers G link) x
      → entry (labels G link) x ≤ y
  label-least x y h k e = let q = number-label y x k h e in let l = label-le G K link y k in omega arith

  first-label : (x : ℕ) → FirstOf G (entry (numbers G link)) x → entry (labels G link) x ≡ x
  first-label x f =
      let l = label-le G K link x f.here in
      let h : entry (labels G link) x < G.cells = (let k = f.here in omega arith) in
      let q : entry (numbers G link) (entry (labels G link) x) ≡ entry (numbers G link) x =
      number_is (entry (labels G link) x) h
      ∙ (ap (λ k. count_below k (is_first (labels G link))) (label-idem G K link x f.here)
      ∙ sym (number_is x f.here)) in
      let m = f.least (entry (labels G link) x) h q in
      omega arith

  pub number-first : (g : ℕ) → g < group_count G link
      → (x : ℕ) × FirstOf G (entry (numbers G link)) x × (entry (numbers G link) x ≡ g)
  unfolding group_count is_first
  number-first g h = go (count-find G.cells (is_first (labels G link)) g h)
    where
      go : (x : ℕ) × (x < G.cells) × T (is_first (labels G link) x) × (count_below x (is_first (labels G link)) ≡ g)
          → (x : ℕ) × FirstOf G (entry (numbers G link)) x × (entry (numbers G link) x ≡ g)
      go r =
          let l : entry (labels G link) r.0 ≡ r.0 = eqb→eq _ _ r.2 in (
            r.0,
            record { here = r.1; least = λ y k e. rw l at (label-least r.0 y r.1 k e) },
            number_is r.0 r.1 ∙ (ap (λ k. count_below k (is_first (labels G link))) l ∙ r.3),
          )

  pub number-order : (x y : ℕ) → FirstOf G (entry (numbers G link)) x → FirstOf G (entry (numbers G link)) y → x < y
      → entry (numbers G link) x < entry (numbers G link) y
  number-order x y f g l =
      let p = first-label x f in
      let q = first-label y g in
      rw (number_is x f.here, number_is y g.here)
      (count-grows _ _ (is_first (labels G link)) (omega arith) (label-first x f.here))

  pub numbered : Numbered G link (entry (numbers G link)) (group_count G link)
  numbered = record {
    joined = number-joined;
    same = λ x y h j. joined_number h j;
    below = λ x h. number_lt G link (omega arith) x h;
    first = number-first;
    order = number-order;
  }

  -- every number below the count is that of a cell
  pub number-has : (g : ℕ) → g < group_count G link → (x : ℕ) × (x < G.cells) × (entry (numbers G link) x ≡ g)
  number-has g h = let r = number-first g h in (r.0, r.1.here, r.2)

  pub members-some : (g : ℕ) → g < group_count G link → (x : ℕ) × x ∈ members G (entry (numbers G link)) g
  members-some g h =
      let r = number-has g h in
      (r.0, mem-members G (entry (numbers G link)) g r.0 r.1 r.2)

module _ (Z : Puzzle) (s : ℕ → State) where
  abbrev pub block_cells : ℕ → List ℕ
  block_cells B = members Z.page (block_of Z s) B

  abbrev pub unit_cells : ℕ → List ℕ
  unit_cells U = members Z.page (unit_of Z s) U

  abbrev pub potential_cells : ℕ → List ℕ
  potential_cells P = members Z.page (potential_of Z s) P

  abbrev pub own_block : ℕ → List ℕ
  own_block x = block_cells (block_of Z s x)

  abbrev pub own_unit : ℕ → List ℕ
  own_unit x = unit_cells (unit_of Z s x)

  abbrev pub own_potential : ℕ → List ℕ
  own_potential x = potential_cells (potential_of Z s x)
