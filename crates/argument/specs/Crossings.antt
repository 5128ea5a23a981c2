-- Where a path of a block leaves a unit.
--
--   Crossing x y, cross       the hop to the other colour, from the unit of x, on the way to y
use Rattle.std.specs.Prelude.{◌≡◌, refl, ◌⊎◌, ℕ, ◌<◌}
use Rattle.std.proofs.Common.{◌∙◌, sym, inl, inr}
use Rattle.std.proofs.Math.Path.{ap}
use Rattle.std.proofs.Math.Bool.{not}
use Rattle.std.specs.Bool.{beq}
use Rattle.std.proofs.Math.Dec.{T}
use Rattle.lists.specs.Lists.{◌∈◌}
use Rattle.lists.specs.Booleans.{T_and, T-dec, beq-eq}
use Rattle.rules.specs.Page.{Hop, Puzzle, State, is_open}
use Rattle.rules.specs.Rules.{stay, joins_block, joins_unit, SameBlock, SameUnit, step}
use Rattle.laws.specs.PageLaws.{Bordered}
use Rattle.laws.specs.StateLaws.{not-both, not-self}
use Rattle.laws.specs.RuleLaws.{colour-hop}

module _ (Z : Puzzle) (K : Bordered Z.page) (σ : ℕ → State) where
  pub record Crossing (x y : ℕ) : Type 0 where
    pub out : ℕ
    pub over : Hop
    pub same : SameUnit Z σ x out
    pub hop : over ∈ Z.page.around out
    pub opens : T (is_open (σ over.border))
    pub other : Z.colour over.to ≡ not (Z.colour x)
    pub rest : SameBlock Z σ over.to y

  pub cross : {y x : ℕ} → x < Z.page.cells → SameBlock Z σ x y → Z.colour y ≡ not (Z.colour x) → Crossing x y
  unfolding joins_unit joins_block
  cross {y} {x} h (stay e) q = absurd (not-self (Z.colour x) (Z.colour y) (ap Z.colour e) q)
  cross {y} {x} h (step j m t r) q =
      go (T-dec (beq (Z.colour x) (Z.colour j.to))) (λ q'. cross (K.hop-in x j h m) r q')
    where
      go : T (beq (Z.colour x) (Z.colour j.to)) ⊎ T (not (beq (Z.colour x) (Z.colour j.to)))
          → (Z.colour y ≡ not (Z.colour j.to) → Crossing j.to y) → Crossing x y
      go (inr u) ih = record {
        out = x;
        over = j;
        same = stay refl;
        hop = m;
        opens = t;
        other =
            not-both (Z.colour x) (Z.colour j.to) u;
        rest = r;
      }
      go (inl u) ih = let e = beq-eq (Z.colour x) (Z.colour j.to) u in let c = ih (q ∙ ap not e) in record {
        out = c.out;
        over = c.over;
        same = step j m (let v = colour-hop Z K x j h m e in search T_and) c.same;
        hop = c.hop;
        opens = c.opens;
        other = c.other ∙ ap not (sym e);
        rest = c.rest;
      }
