-- Bounds: a fault names a potential unit that there is, and a faulty block is one of the blocks.
use Rattle.std.proofs.Math.Path.{◌≡◌, refl}
use Rattle.std.specs.Prelude.{Bool, ◌&&◌, ◌||◌, cond, eqb, Option, None, Some}
use Rattle.std.specs.Option.{option_or, option_map, IfSome}
use Rattle.std.proofs.lemmas.Option.{none-some, same_Some}
use Rattle.std.proofs.Math.Bool.{true, false}
use mathlib.Core.List.{List, [], ◌∷◌}
use Rattle.std.proofs.Math.Option.{Option as Maybe}
use Prim.Native.Nat.{ℕ, zero, suc, ◌+◌, ◌<◌}
use Rattle.std.proofs.Common.{arith}
use Rattle.std.proofs.Math.Dec.{ltb}
use Rattle.rules.specs.Check.{clash}
use Rattle.blocks.specs.declared.Part.{Part}
use Rattle.blocks.specs.declared.Census.{Census}
use Rattle.blocks.specs.declared.Fault.{Fault}
use Rattle.blocks.specs.declared.Fault.TheVariants.{InsideEdge, Inside, Edge, EdgeInside}
use Rattle.blocks.specs.declared.Faulty.{Faulty}
use Rattle.blocks.specs.Censuses.{first_in, of_colour, colour_unit, colour_part, census_of}
use Rattle.blocks.specs.Faults.{first_fault, scan_fault, small_fault, big_fault, clue_fault}
use Rattle.blocks.specs.Faults.{census_fault, cell_fault, scan_on, fault_on}
use Rattle.blocks.specs.Faulty.{at, faulty_from, first_faulty}
use Rattle.blocks.specs.Written.{fault_unit}

-- the potential unit that a fault names is below n, as every cell's is
module _ (n : ℕ) (some : 0 < n) where
  abbrev pub Under : Option Fault → Type 0
  Under o = IfSome o (λ f. fault_unit f < n)

  or-under : (f g : Option Fault) → Under f → Under g → Under (option_or f g)
  or-under None g p q = q
  or-under (Some f) g p q = p

  cond-under : (b : Bool) (f g : Option Fault) → Under f → Under g → Under (cond b f g)
  cond-under true f g p q = p
  cond-under false f g p q = q

  first_under : (f : ℕ → Option Fault) (xs : List ℕ) → ((x : ℕ) → Under (f x)) → Under (first_fault f xs)
  unfolding first_fault
  first_under f [] h = tt
  first_under f (x ∷ xs) h = or-under (f x) (first_fault f xs) (h x) (first_under f xs h)

  small-under : (p q : Part) (k : ℕ) → p.unit < n → Under (small_fault p q k)
  unfolding small_fault
  small-under p q k h = cond-under (ltb 0 p.size && ltb k q.size) (Some (InsideEdge p.unit)) None h tt

  edge-under : (b : Bool) (u : ℕ) → u < n → fault_unit (cond b (Edge u) (EdgeInside u)) < n
  edge-under true u h = h
  edge-under false u h = h

  big-under : (m : ℕ) (p : Part) (k : ℕ) → p.unit < n → Under (big_fault m p k)
  unfolding big_fault
  big-under m p k h =
      cond-under (ltb 0 p.size && ltb k m) (Some (cond p.clued (Edge p.unit) (EdgeInside p.unit))) None
      (edge-under p.clued p.unit h) tt

  clue-under : (k : Option ℕ) (p q : Part) (a b : ℕ) → p.unit < n → q.unit < n → Under (clue_fault k p q a b)
  unfolding clue_fault
  clue-under None p q a b h l = tt
  clue-under (Some m) p q a b h l =
      cond-under (ltb m p.size || ltb m q.size) (Some Inside) (option_or (big_fault m p a) (big_fault m q b)) some
      (or-under (big_fault m p a) (big_fault m q b) (big-under m p a h) (big-under m q b l))

  census-under : (t : Census) (a b : ℕ) → t.zero.unit < n → t.one.unit < n → Under (census_fault t a b)
  unfolding census_fault
  census-under t a b h l =
      or-under (small_fault t.zero t.one a)
      (option_or (small_fault t.one t.zero b) (clue_fault t.clue t.zero t.one a b))
      (small-under t.zero t.one a h)
      (or-under (small_fault t.one t.zero b) (clue_fault t.clue t.zero t.one a b)
      (small-under t.one t.zero b l) (clue-under t.clue t.zero t.one a b h l))

  module _ (colour_at : ℕ → Bool) (clue_at : ℕ → Maybe ℕ) (unit_at : ℕ → ℕ) (below : (x : ℕ) → unit_at x < n) where
    head-under : (xs : List ℕ) → first_in unit_at xs < n
    head-under [] = some
    head-under (x ∷ xs) = below x

    own-under : (xs : List ℕ) (c : Bool) → colour_unit colour_at clue_at unit_at xs c < n
    unfolding colour_unit
    own-under xs c = head-under (of_colour colour_at clue_at unit_at c xs)

    cell-under : (q : Bool → ℕ) (k : Maybe ℕ) (x : ℕ) → Under (cell_fault colour_at clue_at unit_at q k x)
    unfolding cell_fault scan_fault
    cell-under q k x =
        let d = clash k (clue_at x) in
        cond-under (eqb (q (colour_at x)) (unit_at x)) (cond d (Some Inside) None) (Some (InsideEdge (unit_at x)))
        (cond-under d (Some Inside) None some tt) (below x)

    pub fault-under : (size_at : ℕ → ℕ) (xs : List ℕ) → Under (fault_on colour_at clue_at unit_at size_at xs)
    unfolding fault_on scan_on census_of colour_part
    fault-under size_at xs =
        or-under _ _ (first_under _ xs (cell-under _ _))
        (census-under (census_of colour_at clue_at unit_at xs) _ _ (own-under xs false) (own-under xs true))

-- what is found is a number below n, and what is wrong at it
module _ (f : ℕ → Option Fault) where
  pub record Wrong (n : ℕ) (r : Faulty) : Type 0 where
    pub block : r.block < n
    pub fault : f r.block ≡ Some r.fault

  from_wrong : (k i : ℕ) (r : Faulty) → faulty_from f k i ≡ Some r → Wrong (i + k) r
  unfolding faulty_from
  from_wrong zero i r e = absurd (none-some r e)
  from_wrong (suc k) i r e = go (from_wrong k (suc i) r) (f i) refl e
    where
      go : (faulty_from f k (suc i) ≡ Some r → Wrong (suc i + k) r)
          → (o : Option Fault) → f i ≡ o → option_or (option_map (at i) o) (faulty_from f k (suc i)) ≡ Some r
          → Wrong (i + suc k) r
      go p None h g = let w = p g in record { block = omega (arith, w.block); fault = w.fault }
      go p (Some h) q g = rw (← same_Some (at i h) r g) (record { block = omega arith; fault = q })

  pub first-wrong : (n : ℕ) (r : Faulty) → first_faulty f n ≡ Some r → Wrong n r
  unfolding first_faulty
  first-wrong n r e = let w = from_wrong n 0 r e in record { block = omega (arith, w.block); fault = w.fault }
