-- Laws of a page's groups: the numbers of all places, where parts end, and that the arrays hold what the rules mean.
use Rattle.std.specs.Prelude.{◌≡◌, Bool, List, length}
use Rattle.std.proofs.Math.Path.{refl, ap, fun_ext}
use Rattle.std.proofs.Common.{◌∙◌}
use Rattle.std.proofs.Math.Option.{Option}
use Prim.Native.Nat.{ℕ, ◌+◌, ◌<◌, ◌≤◌, ◌*◌}
use Rattle.std.proofs.Math.Decide.{dec_lt}
use native.Mathlib.Omega.{arith}
use Rattle.std.proofs.Math.ListN.{get_or, get_or-eq_default}
use Rattle.lists.specs.Lengths.{some-length}
use Rattle.rules.specs.Page.{Puzzle, State}
use Rattle.rules.specs.Flat.{Sized, flat}
use Rattle.rules.specs.Codes.{states_in, clued_by}
use Rattle.rules.specs.Rules.{one_colour, joins_block, joins_unit}
use Rattle.rules.specs.Groups.{entry, numbers, group_count, members, joins_potential}
use Rattle.laws.specs.FlatLaws.{counts}
use Rattle.laws.specs.GroupLaws.{numbers-length, members-some}
use Rattle.laws.specs.FlatPage.{flat-bordered}
use Rattle.groups.specs.declared.Kind.{Kind}
use Rattle.groups.specs.declared.Kind.TheVariants.{Blocks, Units, Potential}
use Rattle.groups.specs.Parts.{Groups, groups_of, part_of}
use Rattle.groups.specs.Kinds.{link_of, joins_in}
use Rattle.groups.specs.PartLaws.{ids-entry, ids-lt, offs-next, offs-le, part-members, cell_at_lem}
use Rattle.groups.specs.Pages.{head_of, groups_in, kind_number, kind_count}

-- a page has between 1 and 1,024 cells
pub cells-some : {h w : ℕ} → Sized h w → 1 ≤ (flat h w).cells
unfolding flat
cells-some z = (counts z).some

pub cells-few : {h w : ℕ} → Sized h w → (flat h w).cells ≤ 1024
unfolding flat
cells-few z = (counts z).cells

-- of the groups that any links make
module _ {h w : ℕ} (z : Sized h w) (link : ℕ → Bool) where
  abbrev groups : Groups
  groups = groups_of (flat h w) link

  abbrev number : ℕ → ℕ
  number = entry (numbers (flat h w) link)

  -- the number of a place past the last cell is 0
  id-past : (c : ℕ) → (flat h w).cells ≤ c → get_or groups.ids c 0 ≡ 0
  unfolding entry
  id-past c l =
      ap (λ (f : ℕ → ℕ). f c) (ids-entry (flat h w) link (cells-some z) (cells-few z))
      ∙ get_or-eq_default (numbers (flat h w) link) 0 (omega (arith, numbers-length (flat h w) link (cells-some z)))

  pub count-some : 0 < groups.count
  count-some = omega (arith, ids-lt (flat h w) link (cells-some z) (cells-few z) 0 (cells-some z))

  pub id-under : (c : ℕ) → get_or groups.ids c 0 < groups.count
  id-under c =
      elim (dec_lt c (flat h w).cells) [
        | yes l ↦ ids-lt (flat h w) link (cells-some z) (cells-few z) c l
        | no l ↦ omega (arith, id-past c (omega arith), count-some)
      ]

  pub count_same : groups.count ≡ group_count (flat h w) link
  unfolding groups_of
  count_same = refl

  pub starts-step : (g : ℕ) → g < groups.count
      → get_or groups.offs (g + 1) 0 ≡ get_or groups.offs g 0 + length (members (flat h w) number g)
  starts-step g l = offs-next (flat h w) link (cells-some z) (cells-few z) g (omega (arith, count_same))

  pub starts-few : (g : ℕ) → g ≤ groups.count → get_or groups.offs g 0 ≤ (flat h w).cells
  starts-few g l = offs-le (flat h w) link (cells-some z) (cells-few z) g (omega (arith, count_same))

  pub full : (g : ℕ) → g < groups.count → 1 ≤ length (members (flat h w) number g)
  unfolding groups_of
  full g l = let m = members-some (flat h w) (flat-bordered h w (omega (arith, z.columns))) link g l in
      some-length _ m.1

  pub rises : (g : ℕ) → g < groups.count → get_or groups.offs g 0 < get_or groups.offs (g + 1) 0
  unfolding groups_of
  rises g l = omega (arith, full g l, offs-next (flat h w) link (cells-some z) (cells-few z) g l)

  pub ends : (g : ℕ) → g < groups.count → get_or groups.offs (g + 1) 0 ≤ h * w
  unfolding groups_of flat
  ends g l = offs-le (flat h w) link (cells-some z) (cells-few z) (g + 1) (omega arith)

  pub head_at : (g : ℕ) → g < groups.count → get_or groups.cells (get_or groups.offs g 0) 0
      ≡ head_of (members (flat h w) number g)
  unfolding groups_of
  head_at g l =
      let e : get_or groups.offs g 0 + 0 ≡ get_or groups.offs g 0 = omega arith in
      rw e at (cell_at_lem (flat h w) link (cells-some z) (cells-few z) g l 0 (full g l))

  -- the cells of every number
  pub parts_are : part_of groups.cells groups.offs ≡ members (flat h w) number
  parts_are = fun_ext (λ g. part-members (flat h w) link (cells-some z) (cells-few z) g)

-- what they mean, whatever the clues
module _ {h w : ℕ} (z : Sized h w) (cs : List ℕ) (k : ℕ → Option ℕ) (bs : List ℕ) where
  abbrev Z : Puzzle
  Z = clued_by h w cs k

  abbrev s : ℕ → State
  s = states_in bs

  pub kind-number : (kind : Kind) → entry (numbers (flat h w) (joins_in kind h w cs bs)) ≡ kind_number kind Z s
  unfolding joins_in link_of joins_block joins_unit joins_potential one_colour
  kind-number Blocks = refl
  kind-number Units = refl
  kind-number Potential = refl

  pub kind-ids : (kind : Kind) → entry (groups_in kind h w cs bs).ids ≡ kind_number kind Z s
  kind-ids kind =
      ids-entry (flat h w) (joins_in kind h w cs bs) (cells-some z) (cells-few z)
      ∙ kind-number kind

  pub kind-count : (kind : Kind) → (groups_in kind h w cs bs).count ≡ kind_count kind Z s
  unfolding groups_of joins_in link_of joins_block joins_unit joins_potential one_colour
  kind-count Blocks = refl
  kind-count Units = refl
  kind-count Potential = refl

  pub kind-cells : (kind : Kind)
      → part_of (groups_in kind h w cs bs).cells (groups_in kind h w cs bs).offs
      ≡ members (flat h w) (kind_number kind Z s)
  kind-cells kind = parts_are z (joins_in kind h w cs bs) ∙ ap (members (flat h w)) (kind-number kind)
