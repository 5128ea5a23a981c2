-- Masks: the origins of a search, as words.
--
--   cell_is w y x c     the cell c is (y,x)
--   Masked w xs m       the bit x of row y of the mask m says whether a cell of xs is (y,x)
--   origins_in .. gs    the cells of the groups gs, by the list of cells and the places where the groups start
--   plane_bit p r c     the bit c of row r of the planes
--   clear_word p y ts v j  the origins v of row y at which the first j connections are clear
--   line_fits p y ts n v  all n are, at one of them
--   mask_fits p m h ts n  so it is in one of the h rows of the mask
--   Sizes h p m         the mask has h rows, and planes and mask their lengths
--   Span h m top end    the rows of the mask that have an origin lie from top to before end
--   MaskAnswers h p m F  the search over planes and mask answers F of any connections
use Rattle.std.specs.Prelude.{◌≡◌, Bool, ◌&&◌, List, ℕ, zero, suc, ◌+◌, ◌*◌, ◌/◌, ◌%◌, ◌^◌, ◌≤◌, ◌<◌, eqb, length}
use Rattle.std.specs.Prelude.{get_or}
use Rattle.std.specs.Int.Bits.{bit_and}
use Rattle.lists.specs.Lists.{any, flat_map}
use Rattle.lists.specs.Tests.{all_below, any_below}
use Rattle.rules.specs.Page.{Point}
use Rattle.groups.specs.Parts.{part_of}
use Rattle.shapes.specs.Raising.{ys_in, xs_in, Raised, spelled}
use Rattle.planes.specs.Bits.{bit_at}

unfoldable pub cell_is : ℕ → ℕ → ℕ → ℕ → Bool
cell_is w y x c = eqb (c / w) y && eqb (c % w) x

pub record Masked (w : ℕ) (xs m : List ℕ) : Type 0 where
  pub size : length m ≡ 33
  pub each : (y x : ℕ) → y < 32 → bit_at (get_or m y 0) x ≡ any (cell_is w y x) xs

unfoldable pub origins_in : List ℕ → List ℕ → List ℕ → List ℕ
origins_in cells offs gs = flat_map (part_of cells offs) gs

abbrev pub plane_bit : List ℕ → ℕ → ℕ → Bool
plane_bit p r c = bit_at (get_or p r 0) c

-- connections are doubled and raised by 64, as in a placement
module _ (p : List ℕ) (y : ℕ) (ts : List ℕ) where
  unfoldable pub clear_word : ℕ → ℕ → ℕ
  clear_word v zero = v
  clear_word v (suc j) =
      bit_and (clear_word v j) (get_or p (2 * y + get_or (ys_in ts) j 0) 0 / 2 ^ (get_or (xs_in ts) j 0 / 2))

  unfoldable pub line_fits : ℕ → ℕ → Bool
  line_fits n v =
      any_below 64 (λ x. bit_at v x && all_below n
      (λ j. plane_bit p (2 * y + get_or (ys_in ts) j 0) (get_or (xs_in ts) j 0 / 2 + x)))

unfoldable pub mask_fits : List ℕ → List ℕ → ℕ → List ℕ → ℕ → Bool
mask_fits p m h ts n = any_below h (λ y. line_fits p y ts n (get_or m y 0))

pub record Sizes (h : ℕ) (p m : List ℕ) : Type 0 where
  pub tall : h ≤ 32
  pub planes : length p ≡ 192
  pub mask : length m ≡ 33

pub record Span (h : ℕ) (m : List ℕ) (top end : ℕ) : Type 0 where
  pub above : (y : ℕ) → y < top → get_or m y 0 ≡ 0
  pub below : (y : ℕ) → end ≤ y → y < h → get_or m y 0 ≡ 0
  pub low : (top ≤ h) × (end ≤ h)

abbrev pub MaskAnswers : ℕ → List ℕ → List ℕ → (List Point → Bool) → Type 0
MaskAnswers h p m F = (ts : List ℕ) (n : ℕ) → Raised ts n → mask_fits p m h ts n ≡ F (spelled ts n)
