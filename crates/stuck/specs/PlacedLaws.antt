-- Laws of the code that reads placements from the end: the border at a place, one turn of its loops, where a cell is,
-- and what a placement gives.
--
--   Within p            the blocker of the placement p, if it has one, is below 1984
use Rattle.std.specs.Prelude.{◌≡◌, Bool, cond, List, [], ◌∷◌, ◌⊎◌, ◌≢◌}
use Rattle.std.proofs.Math.Path.{refl}
use Rattle.std.proofs.Common.{ap, sym, ◌∙◌, inl, inr, add-mul}
use Rattle.std.proofs.Math.Bool.{true, false}
use Rattle.std.proofs.Math.Logic.{⊎_elim}
use Rattle.std.proofs.Math.Option.{some}
use Prim.Native.Nat.{ℕ, zero, suc, ◌+◌, ◌-◌, ◌*◌, ◌/◌, ◌%◌, ◌<◌}
use native.Mathlib.Omega.{arith}
use borrow.Author.Tests.{eq-eqb, ne_eqb}
use Rattle.std.proofs.Math.Arith.{digits_div, digits_mod}
use Rattle.std.proofs.Math.ListN.{get_or}
use Rattle.lists.specs.Arithmetic.{eq-or-not}
use Rattle.rules.specs.declared.Placement.{Placement}
use Rattle.rules.specs.declared.Placement.TheVariants.{Fits, Blocked, Cannot}
use Rattle.rules.specs.Flat.{Sized, below_of, right_of}
use Rattle.rules.specs.Page.{wall_at}
use Rattle.laws.specs.FlatLaws.{counts, spot}
use Rattle.shapes.specs.Raising.{ys_in, xs_in}
use Rattle.planes.specs.Placing.{read_raised}
use Rattle.planes.specs.PlacingLaws.{reads-below, reads-right}
use Rattle.planes.specs.Bits.{bit_at}
use Rattle.planes.specs.DrawLaws.{line-in}
use Rattle.planes.specs.MaskLaws.{place_in}
use Rattle.stuck.specs.Survivors.{On, border_at, wall_of, Lain, PlacesDrawn, back_of, placed_at, block_in}

abbrev pub Within : Placement → Type 0
Within Fits = Unit {0}
Within (Blocked b) = b < 1984
Within Cannot = Unit {0}

-- the border at a place of the page
module _ {h w y x : ℕ} (o : On h w y x) where
  pub border-below : (y - 64) % 2 ≡ 1 → border_at h w y x ≡ below_of h w ((y - 64) / 2) ((x - 64) / 2)
  unfolding border_at
  border-below e = rw e

  pub border-right : ((y - 64) % 2 ≡ 1 → ⊥) → border_at h w y x ≡ right_of h w ((y - 64) / 2) ((x - 64) / 2)
  unfolding border_at
  border-right e = rw (ne_eqb ((y - 64) % 2) 1 e)

  pub reads-border : read_raised h w y x ≡ some (border_at h w y x)
  reads-border =
      ⊎_elim
      (λ (e : (y - 64) % 2 ≡ 1).
      reads-below h w y x o.top o.left o.bottom o.right e ∙ ap some (sym (border-below e)))
      (λ (e : (y - 64) % 2 ≢ 1).
      reads-right h w y x o.top o.left o.bottom o.right e ∙ ap some (sym (border-right e)))
      (eq-or-not ((y - 64) % 2) 1)

  pub border-low : Sized h w → border_at h w y x < 1984
  unfolding below_of right_of
  border-low s =
      ⊎_elim
      (λ (e : (y - 64) % 2 ≡ 1).
      let l = line-in ((y - 64) / 2) s (omega (arith, o.bottom, s.rows)) in
      omega (arith, border-below e, l.down (omega (arith, o.bottom, s.rows)), o.right, s.columns))
      (λ (e : (y - 64) % 2 ≢ 1).
      let l = spot h w ((y - 64) / 2) 0 (omega (arith, o.bottom, s.rows)) (omega (arith, s.columns)) in
      omega (arith, border-right e, l.line, o.right, s.columns, (counts s).across))
      (eq-or-not ((y - 64) % 2) 1)

-- one turn of the loop that reads from the end
module _ (h w : ℕ) (bs ts : List ℕ) (y x : ℕ) where
  abbrev border : ℕ → ℕ
  border j = border_at h w (2 * y + get_or (ys_in ts) j 0) (2 * x + get_or (xs_in ts) j 0)

  pub back_none : {z : ℕ} → z ≡ 0 → back_of h w bs ts y x z ≡ Fits
  unfolding back_of
  back_none e = rw e

  pub back-next : (z : ℕ) → 0 < z
      → (get_or bs (border_at h w (2 * y + get_or (ys_in ts) (z - 1) 0) (2 * x + get_or (xs_in ts) (z - 1) 0)) 0
      ≡ 1 → ⊥)
      → back_of h w bs ts y x z ≡ back_of h w bs ts y x (z - 1)
  unfolding back_of wall_of
  back-next zero l e = absurd (omega arith)
  back-next (suc k) l e =
      let d : suc k - 1 ≡ k = omega arith in rw (d, ne_eqb (get_or bs (border k) 0) 1 (rw d at e))

  pub back-wall : (z : ℕ) → 0 < z
      → get_or bs (border_at h w (2 * y + get_or (ys_in ts) (z - 1) 0) (2 * x + get_or (xs_in ts) (z - 1) 0)) 0 ≡ 1
      → back_of h w bs ts y x z
      ≡ Blocked (border_at h w (2 * y + get_or (ys_in ts) (z - 1) 0) (2 * x + get_or (xs_in ts) (z - 1) 0))
  unfolding back_of wall_of
  back-wall zero l e = absurd (omega arith)
  back-wall (suc k) l e =
      let d : suc k - 1 ≡ k = omega arith in rw (d, eq-eqb (get_or bs (border k) 0) 1 (rw d at e))

-- where a cell is
module _ {h w : ℕ} {places : List ℕ} {c : ℕ} (s : Sized h w) (p : PlacesDrawn h w places) (l : c < h * w) where
  pub place-row : get_or places c 0 / 32 ≡ c / w
  place-row = ap (λ (v : ℕ). v / 32) (p.each c l) ∙ digits_div (c / w) (place_in c s l).1

  pub place-column : get_or places c 0 % 32 ≡ c % w
  place-column = ap (λ (v : ℕ). v % 32) (p.each c l) ∙ digits_mod (c / w) (place_in c s l).1

-- the cell after (y,x): in the next row, or in the next column
module _ {w c : ℕ} (y x : ℕ) {y' x' : ℕ} (e : c ≡ y * w + x) where
  pub next_row : x + 1 ≡ w → x < w → y' ≡ y + 1 → x' ≡ 0 → (c + 1 ≡ y' * w + x') × (x' < w)
  next_row q l a b =
      let m : (y + 1) * w ≡ y * w + w = add-mul y 1 w ∙ omega arith in
      (rw (a, b) (omega arith), omega arith)

  pub next-column : (x + 1 ≡ w → ⊥) → x < w → y' ≡ y → x' ≡ x + 1 → (c + 1 ≡ y' * w + x') × (x' < w)
  next-column q l a b = (rw (a, b) (omega arith), omega arith)

-- the placement there
module _ (h w : ℕ) (bs rows ts : List ℕ) (n : ℕ) where
  pub placed-some : (y x : ℕ) → bit_at (get_or rows y 0) x ≡ true
      → placed_at h w bs rows ts n y x ≡ back_of h w bs ts y x n
  unfolding placed_at
  placed-some y x e = rw e

  pub drawn-places-none : (y x : ℕ) → bit_at (get_or rows y 0) x ≡ false → placed_at h w bs rows ts n y x ≡ Cannot
  unfolding placed_at
  drawn-places-none y x e = rw e

  back-within : Sized h w → (y x k : ℕ)
      → ((j : ℕ) → j < k → On h w (2 * y + get_or (ys_in ts) j 0) (2 * x + get_or (xs_in ts) j 0))
      → Within (back_of h w bs ts y x k)
  unfolding back_of
  back-within s y x zero o = tt
  back-within s y x (suc k) o =
      go (wall_of h w bs (2 * y + get_or (ys_in ts) k 0) (2 * x + get_or (xs_in ts) k 0))
      (back-within s y x k (λ j l. o j (omega arith))) (border-low (o k (omega arith)) s)
    where
      go : (b : Bool) → Within (back_of h w bs ts y x k)
          → border_at h w (2 * y + get_or (ys_in ts) k 0) (2 * x + get_or (xs_in ts) k 0) < 1984
          → Within (cond b (Blocked (border_at h w (2 * y + get_or (ys_in ts) k 0) (2 * x + get_or (xs_in ts) k 0)))
          (back_of h w bs ts y x k))
      go true i l = l
      go false i l = i

  pub placed-within : Sized h w → Lain h w rows ts n → (y x : ℕ) → y < h → x < w
      → Within (placed_at h w bs rows ts n y x)
  unfolding placed_at
  placed-within s o y x a b =
      go (bit_at (get_or rows y 0) x) (λ e. back-within s y x n (o.each y x a b e))
    where
      go : (t : Bool) → (t ≡ true → Within (back_of h w bs ts y x n))
          → Within (cond t (back_of h w bs ts y x n) Cannot)
      go true i = i refl
      go false i = tt

  module _ (o : ℕ) {q : Placement} (e : q ≡ placed_at h w bs rows ts n (o / w) (o % w)) where
    pub block_one : {b : ℕ} → q ≡ Blocked b → block_in h w bs rows ts n o ≡ wall_at b ∷ []
    unfolding block_in
    block_one d = rw (← e, d)

    pub block_none : (q ≡ Fits) ⊎ (q ≡ Cannot) → block_in h w bs rows ts n o ≡ []
    unfolding block_in
    block_none (inl d) = rw (← e, d)
    block_none (inr d) = rw (← e, d)
