-- Laws for callers: what the arrays of groups_of hold, over any page with 1 to 1,024 cells.
use Rattle.std.specs.Prelude.{◌≡◌, Bool, ℕ, suc, ◌+◌, ◌-◌, ◌<◌, ◌≤◌, drop}
use Rattle.std.proofs.Math.Path.{refl, sym, ap, fun_ext}
use Rattle.std.proofs.Common.{subst, ◌∙◌, add-one, get_or-take, get_or-drop}
use mathlib.Core.List.{List}
use native.Mathlib.Omega.{arith}
use Rattle.std.proofs.Math.Decide.{dec_lt}
use Rattle.std.proofs.Math.ListN.{length, get_or, take, length-drop}
use Rattle.std.proofs.Math.Seq.{drop-append-le}
use Rattle.std.proofs.lemmas.List.{take-append-le}
use Rattle.lists.specs.Lists.{◌∈◌, flat_map, range}
use Rattle.lists.specs.ListLaws.{flat-find, get_d-mem}
use Rattle.lists.specs.Padded.{padded}
use Rattle.lists.specs.TableLaws.{length-table}
use Rattle.lists.specs.PaddedLaws.{get_d-padded, length-padded}
use Rattle.rules.specs.Page.{Page}
use Rattle.rules.specs.Groups.{entry, numbers, group_count, members}
use Rattle.laws.specs.GroupLaws.{numbers-length, number_lt, group_count-le, members-lt, members-none}
use Rattle.groups.specs.Parts.{start_among, starts_among, cells_among, listed, part_of, groups_of}
use Rattle.groups.specs.Arrays.{Blank}
use Rattle.groups.specs.NumberLaws.{starts-at, starts-past, starts-end, blank-padded}
use Rattle.groups.specs.SortLaws.{cells-length, start-suc, start_up, start-le, listed-length, listed-part}

-- an array filled up with 0 numbers the cells as its list does
pub entry-padded : (n : ℕ) (l : List ℕ) → entry (padded n 0 l) ≡ entry l
unfolding entry
entry-padded n l = fun_ext (λ x. get_d-padded n 0 l x)

module _ (G : Page) (number : ℕ → ℕ) where
  pub members-cells : (g : ℕ) → members G number g ≡ cells_among G.cells number g
  unfolding members cells_among
  members-cells g = refl

  pub members-listed : (k : ℕ) → flat_map (members G number) (range k) ≡ listed G.cells number k
  unfolding members cells_among listed
  members-listed k = refl

module _ (G : Page) (link : ℕ → Bool) (some : 1 ≤ G.cells) (few : G.cells ≤ 1024) where
  abbrev number : ℕ → ℕ
  number = entry (numbers G link)

  abbrev count : ℕ
  count = group_count G link

  small : count ≤ 1024
  small = omega (arith, group_count-le G link)

  -- definitions over the cells' numbers may read the array instead
  pub ids-entry : entry (groups_of G link).ids ≡ entry (numbers G link)
  unfolding groups_of
  ids-entry = entry-padded 1024 (numbers G link)

  pub ids-length : length (groups_of G link).ids ≡ 1024
  unfolding groups_of
  ids-length = length-padded 1024 0 (numbers G link) (omega (arith, numbers-length G link some))

  pub ids-lt : (x : ℕ) → x < G.cells → get_or (groups_of G link).ids x 0 < (groups_of G link).count
  unfolding groups_of entry
  ids-lt x h = rw (get_d-padded 1024 0 (numbers G link) x) (number_lt G link some x h)

  pub groups-le : (groups_of G link).count ≤ G.cells
  unfolding groups_of
  groups-le = group_count-le G link

  -- where a group's cells start, and where they end
  pub offs-at : (g : ℕ) → g ≤ count → get_or (groups_of G link).offs g 0 ≡ start_among G.cells number g
  unfolding groups_of
  offs-at g h = starts-at G.cells number count g h

  pub offs-next : (g : ℕ) → g < count
      → get_or (groups_of G link).offs (g + 1) 0 ≡ get_or (groups_of G link).offs g 0 + length (members G number g)
  offs-next g h =
      rw (members-cells G number g)
      (omega (
        arith,
        offs-at g (omega arith),
        offs-at (g + 1) (omega arith),
        start-suc number G.cells g,
        ap (start_among G.cells number) (add-one g),
        cells-length number G.cells g,
      ))

  pub offs-le : (g : ℕ) → g ≤ count → get_or (groups_of G link).offs g 0 ≤ G.cells
  offs-le g h = omega (arith, offs-at g h, start-le number G.cells g)

  offs-past : (k : ℕ) → count < k → get_or (groups_of G link).offs k 0 ≡ 0
  unfolding groups_of
  offs-past k h = starts-past G.cells number count k h

  -- the last group ends with the last cell
  start-end : start_among G.cells number count ≡ G.cells
  start-end = starts-end G.cells number count (number_lt G link some)

  pub listed-all : length (listed G.cells number count) ≡ G.cells
  listed-all = listed-length number G.cells count ∙ start-end

  pub cells_are : (groups_of G link).cells ≡ padded 1024 0 (listed G.cells number count)
  unfolding groups_of
  cells_are = ap (padded 1024 0) (members-listed G number count)

  pub cells-long : length (groups_of G link).cells ≡ 1024
  cells-long =
      ap length cells_are ∙ length-padded 1024 0 (listed G.cells number count) (omega (arith, listed-all))

  -- every listed cell is a cell of the page
  pub cells-lt : (i : ℕ) → i < G.cells → get_or (groups_of G link).cells i 0 < G.cells
  cells-lt i h =
      rw (cells_are, get_d-padded 1024 0 (listed G.cells number count) i)
      (inside (get_d-mem (listed G.cells number count) i 0 (omega (arith, listed-all))))
    where
      inside : {x : ℕ} → x ∈ listed G.cells number count → x < G.cells
      inside {x} m =
          let q : x ∈ flat_map (members G number) (range count) =
          subst (λ (l : List ℕ). x ∈ l) (sym (members-listed G number count)) m in
          let r = flat-find (members G number) (range count) q in
          members-lt G number r.0 x r.2

  -- the part from where a group starts to where it ends is its cells
  pub part-members : (g : ℕ) → part_of (groups_of G link).cells (groups_of G link).offs g ≡ members G number g
  unfolding part_of
  part-members g = go (dec_lt g count)
    where
      go : Dec (g < count)
          → take (get_or (groups_of G link).offs (g + 1) 0 - get_or (groups_of G link).offs g 0)
          (drop (get_or (groups_of G link).offs g 0) (groups_of G link).cells) ≡ members G number g
      go (yes h) =
          let a = start_among G.cells number g in
          let e = start_among G.cells number (suc g) in
          let l = listed G.cells number count in
          let o : get_or (groups_of G link).offs (g + 1) 0 ≡ e =
          offs-at (g + 1) (omega arith) ∙ ap (start_among G.cells number) (add-one g) in
          let k : e ≤ length l = omega (arith, start_up number G.cells (suc g) count h, listed-all, start-end) in
          let b : a ≤ e = omega (arith, start-suc number G.cells g) in
          rw (offs-at g (omega arith), o, cells_are, drop-append-le a l _ (omega arith))
          (rw (take-append-le (e - a) (drop a l) _ (omega (arith, length-drop a l)))
          (listed-part number G.cells count g h ∙ sym (members-cells G number g)))
      go (no h) =
          let z = offs-past (g + 1) (omega arith) in
          let y : get_or (groups_of G link).offs (g + 1) 0 - get_or (groups_of G link).offs g 0 ≡ 0 = omega arith in
          rw y (sym (members-none G link g (omega arith)))

  -- the i-th cell of a group
  pub cell_at_lem : (g : ℕ) → g < count → (i : ℕ) → i < length (members G number g)
      → get_or (groups_of G link).cells (get_or (groups_of G link).offs g 0 + i) 0 ≡ get_or (members G number g) i 0
  unfolding part_of
  cell_at_lem g h i l =
      let a = get_or (groups_of G link).offs g 0 in
      let e = get_or (groups_of G link).offs (g + 1) 0 in
      let k : i < e - a = omega (arith, offs-next g h) in
      sym (get_or-drop a (groups_of G link).cells i 0)
      ∙ sym (get_or-take (e - a) (drop a (groups_of G link).cells) i 0 k)
      ∙ ap (λ (m : List ℕ). get_or m i 0) (part-members g)

  -- arrays that hold the groups hold 0 past the page
  pub filled-ids : Blank 1024 G.cells (groups_of G link).ids
  unfolding groups_of
  filled-ids =
      blank-padded 1024 G.cells (numbers G link) few (omega (arith, numbers-length G link some))

  pub filled-cells : Blank 1024 G.cells (groups_of G link).cells
  filled-cells =
      rw cells_are
      (blank-padded 1024 G.cells (listed G.cells number count) few (omega (arith, listed-all)))

  pub filled-offs : Blank 1025 (G.cells + 1) (groups_of G link).offs
  unfolding groups_of starts_among
  filled-offs =
      blank-padded 1025 (G.cells + 1) (starts_among G.cells number count) (omega (arith, few))
      (omega (arith, length-table (count + 1) (start_among G.cells number), group_count-le G link))
