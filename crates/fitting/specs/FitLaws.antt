-- A unit fits exactly if one of the eight rows makes it fit: each gives the cells of a listed one.
use Rattle.std.specs.Prelude.{◌≡◌, Bool, true, false, cond, List, [], ◌∷◌, ◌++◌, ℕ, ◌≤◌, ◌<◌, length}
use Rattle.std.proofs.Math.Path.{refl, sym, ap}
use Rattle.std.proofs.Common.{◌∙◌, arith}
use mathlib.Core.List.Memᴰ
use Rattle.lists.specs.Lists.{◌∈◌, any}
use Rattle.lists.specs.Tests.{any_below}
use Rattle.lists.specs.TestLaws.{any_some, any-witness}
use Rattle.lists.specs.Booleans.{same_true}
use Rattle.lists.specs.AnyAll.{any-holds, holds-any, any_same, any-never, any-map}
use Rattle.rules.specs.Page.{State, Puzzle, Shape}
use Rattle.rules.specs.Flat.{flat}
use Rattle.rules.specs.Groups.{entry}
use Rattle.rules.specs.Check.{laid}
use Rattle.rules.specs.Turns.{apply, half, quarter, flip}
use Rattle.rules.specs.Shapes.{turned, same_shape, shape_of, with_half, with_quarter, with_flip, flat_transforms}
use Rattle.groups.specs.declared.Grouping.{Grouping}
use Rattle.groups.specs.Grouping.{numbers_in}
use Rattle.shapes.specs.ListingLaws.{listed-low}
use Rattle.shapes.specs.Rows.{image, rows_of}
use Rattle.shapes.specs.Outlines.{rows_in, columns_in, cell_count}
use Rattle.shapes.specs.Spots.{cell_spots, joint_spots, places, UnitAt}
use Rattle.shapes.specs.SpotLaws.{length-spots}
use Rattle.shapes.specs.Joints.{OutlineJoined}
use Rattle.shapes.specs.UnitLaws.{transforms-flat}
use Rattle.shapes.specs.Images.{image_joints}
use Rattle.shapes.specs.ImageLaws.{image-is}
use Rattle.planes.specs.Placing.{bare, fits_of}
use Rattle.planes.specs.Laying.{fits_among, fits_beside}
use Rattle.fitting.specs.SameCells.{same-connections, row_listed, beside_same}
use Rattle.fitting.specs.Fitting.{fits_turned, fits_rows}

-- the shape is the first of its listed transforms
own-listed : (t : Shape) → t ∈ flat_transforms t
unfolding flat_transforms with_flip with_quarter with_half
own-listed t =
    kept (any (λ u. same_shape u (turned (apply flip) t)) (with_quarter t (with_half t))) _
    (kept (same_shape t (turned (apply quarter) t)) _ (first (same_shape t (turned (apply half) t))))
  where
    first : (b : Bool) → t ∈ cond b (t ∷ []) (t ∷ turned (apply half) t ∷ [])
    first true = Memᴰ.head refl
    first false = Memᴰ.head refl

    kept : (b : Bool) {ts : List Shape} (us : List Shape) → t ∈ ts → t ∈ cond b ts (ts ++ us)
    kept true us m = m
    kept false us m = Memᴰ.append_left us m

module _ (Z : Puzzle) (s : ℕ → State) (cells offs : List ℕ) where
  module _ (gs : List ℕ) {h w g : ℕ} {us : Grouping} {o : List ℕ} (u : UnitAt h w us g o)
      (j : OutlineJoined h w us g o) where
    abbrev ids : List ℕ
    ids = numbers_in us

    abbrev shape : Shape
    shape = shape_of (flat h w) (entry ids) g

    abbrev fit : ℕ → Bool
    fit r = fits_beside Z s (bare (image_joints r (cell_spots o) (joint_spots o))) cells offs gs

    -- a placement looks at the connections only
    turned-listed : fits_turned Z s cells offs gs shape ≡ any fit (rows_of shape)
    unfolding fits_turned fits_beside fits_among fits_of laid
    turned-listed =
        ap (any (λ t. fits_beside Z s t cells offs gs)) (transforms-flat h w (entry ids) g u.sized.columns)
        ∙ (any-map (λ t. fits_beside Z s t cells offs gs) (λ r. image r shape) (rows_of shape)
        ∙ any_same (λ r. fits_beside Z s (image r shape) cells offs gs) fit
        (rows_of shape) (λ r m. ap (λ js. fits_beside Z s (bare js) cells offs gs) (image-is u j r)))

    full : 1 ≤ length (places h w (entry ids) g)
    full = omega (arith, u.spotted.some, length-spots (rows_in o) (columns_in o) (cell_count o), ap length u.here)

    same-fit : (r q : ℕ) → r < 8 → q < 8 → (image r shape).cells ≡ (image q shape).cells → fit r ≡ fit q
    same-fit r q a b e =
        let same = same-connections h w (entry ids) g u.sized.columns full in
        rw (← image-is u j r, ← image-is u j q)
        (beside_same Z s (image r shape).connections (image q shape).connections (same r q a b e)
        (same q r b a (sym e)) cells offs gs)

    -- a row that is not listed gives the cells of one that is
    pub rows-turned : fits_rows Z s cells offs gs (cell_spots o) (joint_spots o)
        ≡ fits_turned Z s cells offs gs (shape_of (flat h w) (entry ids) g)
    unfolding fits_rows
    rows-turned =
        same_true (any_below 8 fit) (any fit (rows_of shape))
        (λ e.
        let r = any-witness 8 fit e in
        let q = row_listed h w (entry ids) g u.sized.columns full r.0 r.1 in
        holds-any fit q.1 (same-fit q.0 r.0 (listed-low shape q.1) r.1 q.2 ∙ r.2))
        (λ e.
        let q = any-holds fit (rows_of shape) e in
        any_some 8 fit q.0 (listed-low shape q.1) q.2)
        ∙ sym turned-listed

  -- no adjacent unit
  fits-none : (t : Shape) → fits_beside Z s t cells offs [] ≡ false
  unfolding fits_beside any
  fits-none t = refl

  pub turned_none : {gs : List ℕ} (t : Shape) → gs ≡ [] → fits_turned Z s cells offs gs t ≡ false
  unfolding fits_turned
  turned_none t e = rw e (any-never _ (flat_transforms t) (λ x m. fits-none x))

  -- the shape itself is listed
  pub turned-own : (t : Shape) (gs : List ℕ) → fits_beside Z s t cells offs gs ≡ true
      → fits_turned Z s cells offs gs t ≡ true
  unfolding fits_turned
  turned-own t gs e = holds-any (λ u. fits_beside Z s u cells offs gs) (own-listed t) e
