-- Laws of raised coordinates: what they stand for, and the transform that an array of them spells.
use Rattle.std.specs.Prelude.{◌≡◌, refl, Bool, true, false, cond, List, ◌∷◌, map, ℕ, zero, suc, ◌+◌, ◌-◌, ◌%◌, ◌≤◌, ◌<◌}
use Rattle.std.specs.Prelude.{ℤ, negsuc, neg_ℤ, ◌+ℤ◌, get_or}
use Rattle.std.proofs.Math.Path.{ap}
use Rattle.std.proofs.Common.{ap₂, ◌∙◌, arith, le-ltb}
use Rattle.std.proofs.Math.IntN.{pos, +ℤ_assoc, +ℤ_comm}
use Rattle.lists.specs.Lists.{range_from}
use Rattle.lists.specs.TableLaws.{map_range}
use Rattle.rules.specs.Page.{Point, ◌⊕◌}
use Rattle.rules.specs.Turns.{signed, apply, coordinate, rowward, columnward}
use Rattle.shapes.specs.Raising.{ys_in, xs_in, lowered, raised, raised_spot, spelled, Raised, lift_of, turn_of}
use Rattle.shapes.specs.Raising.{moved_by, Lifts, Turnable}
use Rattle.shapes.specs.Spots.{place_at, spot_at, spots}

-- a difference of naturals
minus_pos : (b a : ℕ) → a ≤ b → pos (b - a) ≡ pos b +ℤ neg_ℤ (pos a)
minus_pos b zero h = let e : b - 0 ≡ b + 0 = omega arith in ap pos e
minus_pos b (suc a) h = rw (le-ltb b (suc a) h)

-- what a lifted coordinate stands for
pub lift-lowered : (minus : Bool) (base : ℕ) (k : ℕ) → Lifts minus base k
    → lowered (lift_of minus base k) ≡ signed minus (pos k) +ℤ lowered base
lift-lowered true base k l =
    ap (λ (z : ℤ). z +ℤ negsuc 63) (minus_pos base k (l.down refl)
    ∙ +ℤ_comm (pos base) (neg_ℤ (pos k)))
    ∙ +ℤ_assoc (neg_ℤ (pos k)) (pos base) (negsuc 63)
lift-lowered false base k l =
    ap (λ (z : ℤ). z +ℤ negsuc 63) (+ℤ_comm (pos base) (pos k))
    ∙ +ℤ_assoc (pos k) (pos base) (negsuc 63)

pub lift-low : (minus : Bool) (base : ℕ) (k : ℕ) → Lifts minus base k → base < 128 → lift_of minus base k < 128
lift-low true base k l h = omega arith
lift-low false base k l h = l.up refl

pub lift-odd : (minus : Bool) (base : ℕ) (k : ℕ) → Lifts minus base k → base % 2 ≡ 0
    → lift_of minus base k % 2 ≡ k % 2
lift-odd true base k l h = let d = l.down refl in omega arith
lift-odd false base k l h = omega arith

-- an array of raised coordinates spells the transform
module _ {swap r c : Bool} {y x : ℕ} {down across : List ℕ} {n : ℕ} (t : Turnable swap r c y x down across n)
    (a : List ℕ)
    (rows : (i : ℕ) → i < n → get_or (ys_in a) i 0 ≡ lift_of r y (get_or (cond swap across down) i 0))
    (columns : (i : ℕ) → i < n → get_or (xs_in a) i 0 ≡ lift_of c x (get_or (cond swap down across) i 0)) where
  pub turned-raised : Raised a n
  turned-raised i h =
      let d = rows i h in
      let b = columns i h in
      let k = t.rows i h in
      let j = t.columns i h in
      record {
        place = omega (arith, t.few);
        row = rw d (lift-low r y (get_or (cond swap across down) i 0) k t.low.0);
        column = rw b (lift-low c x (get_or (cond swap down across) i 0) j t.low.1);
        odd =
            rw (
              d,
              b,
              lift-odd r y (get_or (cond swap across down) i 0) k t.even.0,
              lift-odd c x (get_or (cond swap down across) i 0) j t.even.1,
            )
            (either swap i (t.odd i h));
      }
    where
      either : (u : Bool) (i : ℕ) → get_or down i 0 % 2 + get_or across i 0 % 2 ≡ 1
          → get_or (cond u across down) i 0 % 2 + get_or (cond u down across) i 0 % 2 ≡ 1
      either true i h = omega arith
      either false i h = h

  -- the coordinates before the turn
  from_row : (u : Bool) (i : ℕ) → pos (get_or (cond u across down) i 0)
      ≡ coordinate (cond u columnward rowward) (place_at (get_or down i 0) (get_or across i 0))
  from_row true i = refl
  from_row false i = refl

  from-column : (u : Bool) (i : ℕ) → pos (get_or (cond u down across) i 0)
      ≡ coordinate (cond u rowward columnward) (place_at (get_or down i 0) (get_or across i 0))
  from-column true i = refl
  from-column false i = refl

  turned-at : (i : ℕ) → i < n
      → raised_spot a i
      ≡ apply (turn_of swap r c) (place_at (get_or down i 0) (get_or across i 0)) ⊕ raised y x
  unfolding raised_spot apply ◌⊕◌
  turned-at i h =
      let d = lift-lowered r y (get_or (cond swap across down) i 0) (t.rows i h) in
      let b = lift-lowered c x (get_or (cond swap down across) i 0) (t.columns i h) in
      let p = ap lowered (rows i h) ∙ d ∙ ap (λ (z : ℤ). signed r z +ℤ lowered y) (from_row swap i) in
      let q = ap lowered (columns i h) ∙ b ∙ ap (λ (z : ℤ). signed c z +ℤ lowered x) (from-column swap i) in
      λ e. record { layer = pos 0; row = p e; column = q e }

  turned-from : (i m : ℕ) → i + m ≤ n
      → map (raised_spot a) (range_from i m)
      ≡ map (λ j. apply (turn_of swap r c) j ⊕ raised y x)
      (map (spot_at down across) (range_from i m))
  turned-from i zero h = refl
  turned-from i (suc m) h =
      ap₂ (λ (p : Point) (ps : List Point). p ∷ ps) (turned-at i (omega arith)) (turned-from (suc i) m (omega arith))

  pub turned-spelled : spelled a n ≡ moved_by (apply (turn_of swap r c)) (raised y x) (spots down across n)
  unfolding spelled moved_by spots
  turned-spelled =
      turned-from 0 n (omega arith)
      ∙ ap (map (λ j. apply (turn_of swap r c) j ⊕ raised y x)) (map_range (spot_at down across) n)
