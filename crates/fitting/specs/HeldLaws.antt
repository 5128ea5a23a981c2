-- Laws of the memory of the search: adjacent units, planes and mask.
use Rattle.std.specs.Prelude.{◌≡◌, refl, List, [], ◌∷◌, ◌++◌, ℕ, zero, suc, ◌+◌, ◌-◌, ◌<◌, ◌≤◌, length, get_or, set}
use Rattle.std.specs.Prelude.{replicate}
use Rattle.std.proofs.Common.{sym, ◌∙◌, length-append, length-set, get_or-set_same, get_or-set_other, get_or-append-add}
use native.Mathlib.Omega.{arith}
use Rattle.std.proofs.lemmas.List.{length-replicate, take-append-le}
use Rattle.std.proofs.Math.Seq.{take-length}
use Rattle.lists.specs.Lists.{◌∈◌, range}
use Rattle.lists.specs.Padded.{padded}
use Rattle.lists.specs.Filters.{length-filter}
use Rattle.lists.specs.PaddedLaws.{zeros}
use Rattle.lists.specs.Ranges.{length-range}
use Rattle.lists.specs.Arithmetic.{if-same}
use Rattle.rules.specs.Check.{adjacent, mates}
use Rattle.rules.specs.Codes.{states_in, unclued}
use Rattle.rules.specs.Groups.{potential_count}
use Rattle.groups.specs.declared.Grouping.{Grouping}
use Rattle.groups.specs.Grouping.{cells_in, starts_in}
use Rattle.reasons.specs.Arrays.{Cells}
use Rattle.std.specs.Prelude.{true, Option, Some, None, MatchOption}
use Rattle.std.specs.Option.{is_some}
use Rattle.adjacent.specs.Mates.{Gathered}
use Rattle.adjacent.specs.BesideLaws.{mates-low, beside-gathered}
use Rattle.adjacent.specs.Homes.{Home}
use Rattle.planes.specs.DrawLaws.{planes-long}
use Rattle.planes.specs.Placing.{bare}
use Rattle.planes.specs.Laying.{fits_beside}
use Rattle.planes.specs.Planes.{planes_of}
use Rattle.planes.specs.Masks.{Sizes, MaskAnswers}
use Rattle.planes.specs.FitLaws.{beside-answers}
use Rattle.fitting.specs.Held.{Nearby, Adjoined, HeldOf, Held}

-- adjacent units are kept as they are asked for
module _ (h w : ℕ) (cs bs : List ℕ) where
  pub nearby-none : Nearby h w cs bs (replicate 1024 0)
  nearby-none =
      record { long = length-replicate 1024 zero; some = λ p q e. absurd (omega (arith, zeros 1024 p)) }

pub nearby-more : {h w : ℕ} {cs bs near : List ℕ} → Nearby h w cs bs near → (p q : ℕ) → p < 1024
    → q ∈ mates (unclued h w cs) (states_in bs) p → Nearby h w cs bs (set near p (q + 1))
nearby-more {h} {w} {cs} {bs} {near} k p q l m =
    record {
      long = length-set near p (q + 1) ∙ k.long;
      some =
          λ p' q' e.
          if-same p' p
          (λ z.
          let v : q + 1 ≡ q' + 1 =
          sym (get_or-set_same near p (q + 1) 0 (omega (arith, k.long))) ∙ (rw z at e) in
          let d : q ≡ q' = omega arith in
          rw (z, ← d) m)
          (λ z. k.some p' q' (sym (get_or-set_other near p p' (q + 1) 0 z) ∙ e));
    }

-- the potential units are asked for an adjacent one in turn
pub adjoined-none : (h w : ℕ) (cs bs : List ℕ) → Adjoined h w cs bs 0
adjoined-none h w cs bs = record { each = λ p l. absurd (omega arith) }

pub adjoined-more : {h w : ℕ} {cs bs : List ℕ} {n : ℕ} → Adjoined h w cs bs n → {q : ℕ}
    → q ∈ mates (unclued h w cs) (states_in bs) n → Adjoined h w cs bs (n + 1)
adjoined-more {n = n} k {q} m =
    record { each = λ p l. if-same p n (λ e. rw e (q, m)) (λ d. k.each p (omega arith)) }

-- a potential unit that the arrays have
module _ {h w : ℕ} {cs bs : List ℕ} {ps : Grouping} {p : ℕ} (k : Home h w cs bs ps p) where
  pub mate-few : {q : ℕ} → q ∈ mates (unclued h w cs) (states_in bs) p → q < 1024
  mate-few {q} m = omega (arith, mates-low k.grouped p q m, k.known.few)

  pub mate-cells : {q : ℕ} → q ∈ mates (unclued h w cs) (states_in bs) p
      → Cells h w (cells_in ps) (get_or (starts_in ps) q 0) (get_or (starts_in ps) (q + 1) 0)
  mate-cells {q} m = k.grouped.each q (mates-low k.grouped p q m)

  -- some list begins with its adjacent units
  mates-few : length (mates (unclued h w cs) (states_in bs) p) ≤ 1024
  unfolding mates
  mates-few =
      let n = potential_count (unclued h w cs) (states_in bs) in
      omega (
        arith,
        length-filter (adjacent (unclued h w cs) (states_in bs) p) (range n),
        length-range 0 n,
        k.known.few,
      )

  abbrev mates-list : List ℕ
  mates-list = let xs = mates (unclued h w cs) (states_in bs) p in padded 1024 0 xs ++ (length xs ∷ [])

  mates-gathered : Gathered (mates (unclued h w cs) (states_in bs) p) mates-list
  mates-gathered =
      let xs = mates (unclued h w cs) (states_in bs) p in
      let n = length xs in
      let zs = replicate {A = ℕ} (1024 - n) 0 in
      let long : length (xs ++ zs) ≡ 1024 =
      omega (arith, mates-few, length-append xs zs, length-replicate {A = ℕ} (1024 - n) 0) in
      let count : get_or mates-list 1024 0 ≡ n = let e : length (xs ++ zs) + 0 ≡ 1024 = omega arith in
      rw e at (get_or-append-add (xs ++ zs) (n ∷ []) 0 0) in
      let most = mates-few in
      record {
        long = omega (arith, length-append (xs ++ zs) (n ∷ []));
        few = omega arith;
        first =
            let z : n - 0 ≡ n = omega arith in
            rw (count, z)
            (take-append-le n (xs ++ zs) (n ∷ []) (omega arith)
            ∙ (take-append-le n xs zs (omega arith) ∙ take-length xs));
      }

module _ (h w : ℕ) (cs bs : List ℕ) (ps : Grouping) where
  pub held_start : Held h w cs bs ps (replicate 192 0) (replicate 33 0)
  held_start =
      record {
        long = length-replicate 192 zero;
        size = length-replicate 33 zero;
        none = λ e. refl;
        some = λ q e. absurd (never q e);
      }
    where
      never : (q : ℕ) → ◌≡◌ {A = ℕ} (get_or (replicate 33 0) 32 0) (q + 1) → ⊥
      never q e = let z : ◌≡◌ {A = ℕ} 0 (q + 1) = e in omega arith

module _ {h w : ℕ} {cs bs : List ℕ} {ps : Grouping} {p m : List ℕ} where
  -- planes that are drawn stay
  pub held-planes : Held h w cs bs ps p m → (get_or m 32 0 ≡ 0 → ⊥) → p ≡ planes_of h w cs bs
  held-planes k e = (k.some (get_or m 32 0 - 1) (last (get_or m 32 0) e)).planes
    where
      last : (n : ℕ) → (n ≡ 0 → ⊥) → n ≡ n - 1 + 1
      last zero f = absurd (f refl)
      last (suc n) f = omega arith

module _ {h w : ℕ} {cs bs : List ℕ} {ps : Grouping} {p m : List ℕ} {q : ℕ} (k : HeldOf h w cs bs ps q p m) where
  pub held_of : Held h w cs bs ps p m
  held_of =
      record {
        long = planes-long h w cs bs k.planes;
        size = k.mask.size;
        none = λ e. let z : ◌≡◌ {A = ℕ} 0 1 = omega (arith, k.name) in absurd (omega arith);
        some = λ r e. let d : q ≡ r = omega (arith, k.name) in rw d at k;
      }

  module _ (a : Home h w cs bs ps q) where
    pub held-sizes : Sizes h p m
    held-sizes =
        record { tall = a.drawn.sized.tall; planes = planes-long h w cs bs k.planes; mask = k.mask.size }

    pub held-answers : MaskAnswers h p m
        (λ js. fits_beside (unclued h w cs) (states_in bs) (bare js) (cells_in ps) (starts_in ps)
        (mates (unclued h w cs) (states_in bs) q))
    held-answers =
        let l = mates-gathered a in
        let b = beside-gathered ps a.grouped a.known q l in
        rw (k.planes, ← l.first) (beside-answers b bs a.drawn (rw l.first k.mask))

-- one that is found is adjacent
pub mate-found : {xs : List ℕ} (o : Option ℕ) → MatchOption o (xs ≡ []) (λ q. q ∈ xs) → is_some o ≡ true
    → (q : ℕ) × (q ∈ xs)
mate-found (Some q) m e = (q, m)
mate-found None m e = cc
