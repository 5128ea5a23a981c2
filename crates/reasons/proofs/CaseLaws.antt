-- More laws of the definitions, by cases; no answer cites them.
use Rattle.std.specs.Prelude.{◌≡◌, refl, Bool, true, false, List, [], ℕ, ◌+◌, ◌-◌, ◌*◌, ltb, length, get_or, drop}
use Rattle.std.specs.Prelude.{Option, Some, None, is_some}
use Rattle.std.specs.Bool.{then_some}
use Rattle.std.specs.Option.{MatchOption}
use Rattle.std.proofs.Common.{sym, ap, ◌∙◌, arith, length-drop, length-take-le, get_or-take, get_or-drop}
use Rattle.std.proofs.Common.{lt-ltb, le-ltb}
use Rattle.std.proofs.lemmas.Bool.{cases_lt}
use Rattle.std.proofs.Math.Logic.{⊎_elim}
use Rattle.lists.specs.Lists.{flat_map, keep_if}
use Rattle.lists.specs.Parts.{part}
use Rattle.lists.specs.UpTo.{up_to}
use Rattle.lists.specs.UpToLaws.{up_same, flat_up}
use Rattle.rules.specs.declared.Side.{Side}
use Rattle.rules.specs.Page.{Hop}
use Rattle.rules.specs.Reasons.{gather}
use Rattle.laws.specs.FlatLaws.{Counts, Spot}
use Rattle.reasons.specs.declared.Direction.TheVariants.{Below, Right}
use Rattle.reasons.specs.declared.Neighbour.{Neighbour}
use Rattle.reasons.specs.Arrays.{Cells, Stepped, hops_in, hop_of, scan_at, scan_of}
use Rattle.reasons.specs.StepLaws.{below-some, below-none, right-some, right-none}
use Rattle.reasons.specs.ScanLaws.{gather-off, gather-kept, gather-dropped}

-- StepLaws: the neighbours below and right, both cases at once
module _ {h w y x : ℕ} (k : Counts h w) (s : Spot h w y x) where
  pub below-hop : Stepped h w y x Below
      (then_some (ltb (y + 1) h) (record { border = h * (w - 1) + (y * w + x); to = y * w + x + w }))
  below-hop =
      ⊎_elim
      (λ p. rw (lt-ltb (y + 1) h p) (below-some k s p))
      (λ p. rw (le-ltb (y + 1) h p) (below-none k s p))
      (cases_lt (y + 1) h)

  pub right-hop : Stepped h w y x Right
      (then_some (ltb (x + 1) w) (record { border = y * (w - 1) + x; to = y * w + x + 1 }))
  right-hop =
      ⊎_elim
      (λ p. rw (lt-ltb (x + 1) w p) (right-some k s p))
      (λ p. rw (le-ltb (x + 1) w p) (right-none k s p))
      (cases_lt (x + 1) w)

-- ScanLaws: a neighbour that the code answers, kept or not
module _ (side : Side) (p : Hop → Bool) where
  pub gather-hops : (r : Option Neighbour) (kept : Bool) → MatchOption r (gather side p (hops_in r) ≡ [])
      (λ n. kept ≡ p (hop_of n)
      → gather side p (hops_in r) ≡ keep_if kept (record { border = n.border; side = side }) [])
  gather-hops None kept = gather-off side p
  gather-hops (Some n) kept = go kept
    where
      go : (b : Bool) → b ≡ p (hop_of n)
          → gather side p (hops_in (Some n)) ≡ keep_if b (record { border = n.border; side = side }) []
      go true q = gather-kept side p n q
      go false q = gather-dropped side p n q

  -- what is kept is a neighbour
  pub kept-some : (r : Option Neighbour) (kept : Bool) → MatchOption r (kept ≡ false) (λ n. kept ≡ p (hop_of n))
      → kept ≡ true → is_some r ≡ true
  kept-some None kept e t = sym e ∙ t
  kept-some (Some n) kept e t = refl

-- a part of a cell list, cell by cell
module _ {h w : ℕ} {cells : List ℕ} {from to : ℕ} (k : Cells h w cells from to) where
  length_part : length (part cells from to) ≡ to - from
  length_part = length-take-le (to - from) (drop from cells) (simp length-drop (omega (arith, k.long, k.end)))

  pub part_up : {A : Type 0} (f : ℕ → List A) → flat_map f (part cells from to)
      ≡ up_to (λ i. f (get_or cells (from + i) 0)) (to - from)
  part_up f =
      flat_up f (part cells from to)
      ∙ rw length_part
      (up_same (λ i. f (get_or (part cells from to) i 0)) (λ i. f (get_or cells (from + i) 0)) (to - from)
      (λ i q. ap f (get_or-take (to - from) (drop from cells) i 0 q ∙ get_or-drop from cells i 0)))

pub scan-part : {h w : ℕ} {cells : List ℕ} {from to : ℕ} (cs bs ids : List ℕ) (same : Bool) (F : List ℕ)
    → Cells h w cells from to → scan_of h w cs bs ids same F (part cells from to)
    ≡ up_to (λ i. scan_at h w cs bs ids same F (get_or cells (from + i) 0)) (to - from)
unfolding scan_of
scan-part {h} {w} cs bs ids same F k = part_up k (scan_at h w cs bs ids same F)
