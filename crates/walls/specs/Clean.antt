-- Clean: a page with no wall between two cells of one block.
--
--   Apart b c d n   none of the n borders from b on is such a wall; the cells from c on stand before them, those from d
--                   on behind them
--   page-clean      where it is so of the borders below and of those on the right, step 2 finds nothing
use Rattle.std.specs.Prelude.{◌≡◌, Bool, ℕ, zero, suc, ◌+◌, ◌-◌, ◌*◌, ◌/◌, ◌%◌, ◌<◌, ◌≤◌, ltb, None}
use Rattle.std.proofs.Math.Path.{refl, sym, ap}
use Rattle.std.proofs.Common.{◌∙◌, arith, ltb-true}
use Rattle.std.proofs.Math.Bool.{true, false}
use Rattle.rules.specs.Page.{State}
use Rattle.rules.specs.Flat.{flat, ahead_at, hop_below, hop_right, below_of, right_of, cell_at, hop_if}
use Rattle.laws.specs.FlatLaws.{Spot, spot, row_of_lem}
use Rattle.walls.specs.Breaches.{is_breach, hop_breach, breach_on, breach_from, first_breach}
use Rattle.walls.specs.WallCases.{on-append}

module _ (s : ℕ → State) (block : ℕ → ℕ) where
  abbrev pub Apart : ℕ → ℕ → ℕ → ℕ → Type 0
  Apart b c d n = (j : ℕ) → j < n → is_breach s block (c + j) (record { border = b + j; to = d + j }) ≡ false

  hop-clean : (v : Bool) (c b t : ℕ) → (v ≡ true → is_breach s block c (record { border = b; to = t }) ≡ false)
      → breach_on s block c (hop_if v b t) ≡ None
  unfolding breach_on hop_breach hop_if
  hop-clean true c b t h = rw (h refl)
  hop-clean false c b t h = refl

  module _ (h w : ℕ) (down : Apart (h * (w - 1)) 0 w ((h - 1) * w))
      (across : (y : ℕ) → y < h → Apart (y * (w - 1)) (y * w) (y * w + 1) (w - 1)) where
    cell-clean : (y x : ℕ) → y < h → x < w → breach_on s block (y * w + x) (ahead_at h w y x) ≡ None
    unfolding ahead_at hop_below hop_right below_of right_of cell_at
    cell-clean y x hy hx =
        on-append s block (y * w + x) (hop_below h w y x) (hop_right h w y x)
        ∙ rw (hop-clean _ _ _ _ below, hop-clean _ _ _ _ right)
      where
        at : Spot h w y x
        at = spot h w y x hy hx

        below : ltb (y + 1) h ≡ true
            → is_breach s block (y * w + x)
            (record { border = h * (w - 1) + (y * w + x); to = (y + 1) * w + x }) ≡ false
        below e =
            let a : 0 + (y * w + x) ≡ y * w + x = omega arith in
            let b : w + (y * w + x) ≡ (y + 1) * w + x = omega (arith, at.next) in
            rw (a, b) at (down (y * w + x) (at.under (ltb-true (y + 1) h e)))

        right : ltb (x + 1) w ≡ true
            → is_breach s block (y * w + x) (record { border = y * (w - 1) + x; to = y * w + (x + 1) }) ≡ false
        right e =
            let l : x + 1 < w = ltb-true (x + 1) w e in
            let b : y * w + 1 + x ≡ y * w + (x + 1) = omega arith in
            rw b at (across y hy x (omega arith))

    pub page-clean : None ≡ first_breach (flat h w) s block
    unfolding first_breach flat breach_from
    page-clean = sym (from (h * w) 0 (omega arith))
      where
        at : (i : ℕ) → i < h * w → breach_on s block i (ahead_at h w (i / w) (i % w)) ≡ None
        at i q =
            let r = row_of_lem h w i q in
            ap (λ c. breach_on s block c (ahead_at h w (i / w) (i % w))) r.same
            ∙ cell-clean (i / w) (i % w) r.row r.column

        from : (k i : ℕ) → i + k ≤ h * w
            → breach_from (λ x. breach_on s block x (ahead_at h w (x / w) (x % w))) k i ≡ None
        from zero i l = refl
        from (suc k) i l = rw (at i (omega arith)) (from k (suc i) (omega arith))
