-- Which cells are joined, as flags for each cell, and the parents that one pass over the flags gives.
--
--   tied_left h w link c    cell c is joined to the cell left of it
--   above_at h w link c     cell c is joined to the cell above it
--   flag_at flags c         flag c of a list of flags
--   TieFlags n f flags      the list has 1,024 flags, and the first n are those of f
--   Tied n w left above L   of the first n cells, any two that are joined have one label in L
--   Scanned n w left above p cs k  of the first n cells: each has a root for parent, no two cells that are not joined
--                           step by step have the same, and any labels that follow the parents, and do not part the
--                           first k cells of the list cs from the cells left of them, part no joined cells
--   joined L cs k           the labels L once the first k cells of cs are joined to the cells left of them
use Rattle.std.specs.Prelude.{◌≡◌, Bool, true, false, not, ◌&&◌, List, ℕ, zero, suc, ◌+◌, ◌-◌, ◌*◌, ◌/◌, ◌%◌, ◌<◌, ◌≤◌}
use Rattle.std.specs.Prelude.{eqb, ltb, length, get_or}
use Rattle.rules.specs.Groups.{entry, merge_if}

unfoldable pub tied_left : ℕ → ℕ → (ℕ → Bool) → ℕ → Bool
tied_left h w link c = not (eqb (c % w) 0) && link (c / w * (w - 1) + (c % w - 1))

unfoldable pub above_at : ℕ → ℕ → (ℕ → Bool) → ℕ → Bool
above_at h w link c = not (ltb c w) && link (h * (w - 1) + (c - w))

unfoldable pub flag_at : List Bool → ℕ → Bool
flag_at flags c = get_or flags c false

pub record TieFlags (n : ℕ) (f : ℕ → Bool) (flags : List Bool) : Type 0 where
  pub long : length flags ≡ 1024
  pub at : (x : ℕ) → x < n → get_or flags x false ≡ f x

pub record Tied (n w : ℕ) (left above : ℕ → Bool) (L : List ℕ) : Type 0 where
  pub beside : (c : ℕ) → c < n → left c ≡ true → get_or L (c - 1) 0 ≡ get_or L c 0
  pub over : (c : ℕ) → c < n → w ≤ c → above c ≡ true → get_or L (c - w) 0 ≡ get_or L c 0

pub record Scanned (n w : ℕ) (left above : ℕ → Bool) (p cs : List ℕ) (k : ℕ) : Type 0 where
  pub twice : (x : ℕ) → x < n → get_or p (get_or p x 0) 0 ≡ get_or p x 0
  pub sound : (L : List ℕ) → Tied n w left above L → (x : ℕ) → x < n → get_or L (get_or p x 0) 0 ≡ get_or L x 0
  pub few : (i : ℕ) → i < k → (1 ≤ get_or cs i 0) × (get_or cs i 0 < n)
  pub joins : (i : ℕ) → i < k → left (get_or cs i 0) ≡ true
  pub whole : (L : List ℕ) → ((x : ℕ) → x < n → get_or L (get_or p x 0) 0 ≡ get_or L x 0)
      → ((i : ℕ) → i < k → get_or L (get_or cs i 0 - 1) 0 ≡ get_or L (get_or cs i 0) 0) → Tied n w left above L

unfoldable pub joined : List ℕ → (ℕ → ℕ) → ℕ → List ℕ
joined L cs zero = L
joined L cs (suc k) = merge_if true (entry (joined L cs k) (cs k - 1)) (entry (joined L cs k) (cs k)) (joined L cs k)
