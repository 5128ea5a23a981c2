-- Two settings with the same sides on the page's borders are solutions alike.
--
--   sides-sym           the same sides, the other way round
--   solution-agrees     if the one is a solution, so is the other
use Rattle.std.proofs.Common.{◌∙◌, sym}
use Rattle.std.specs.Prelude.{ℕ, ◌<◌}
use Rattle.rules.specs.Page.{Puzzle, State}
use Rattle.rules.specs.Rules.{joins_block, joins_unit, SameBlock, SameUnit, Congruent, Solution}
use Rattle.laws.specs.PageLaws.{Bordered}
use Rattle.laws.specs.RuleLaws.{join-map, join-in}
use Rattle.argument.specs.Demand.{SameSides}

pub sides-sym : (Z : Puzzle) (s σ : ℕ → State) → SameSides Z s σ → SameSides Z σ s
unfolding SameSides
sides-sym Z s σ e b h = sym (e b h)

module _ (Z : Puzzle) (K : Bordered Z.page) (s σ : ℕ → State) (e : SameSides Z s σ) where
  block-there : {x y : ℕ} → x < Z.page.cells → SameBlock Z s x y → SameBlock Z σ x y
  unfolding joins_block SameSides
  block-there h j = join-map Z.page _ _ K (λ b k t. rw (e b k) at t) h j

  unit-there : {x y : ℕ} → x < Z.page.cells → SameUnit Z s x y → SameUnit Z σ x y
  unfolding joins_unit SameSides
  unit-there h j = join-map Z.page _ _ K (λ b k t. rw (e b k) at t) h j

module _ (Z : Puzzle) (K : Bordered Z.page) (s σ : ℕ → State) (e : SameSides Z s σ) where
  block_back : {x y : ℕ} → x < Z.page.cells → SameBlock Z σ x y → SameBlock Z s x y
  block_back h j = block-there Z K σ s (sides-sym Z s σ e) h j

  unit-back : {x y : ℕ} → x < Z.page.cells → SameUnit Z σ x y → SameUnit Z s x y
  unit-back h j = unit-there Z K σ s (sides-sym Z s σ e) h j

  congruent-there : (x y : ℕ) → x < Z.page.cells → y < Z.page.cells → Congruent Z s x y → Congruent Z σ x y
  congruent-there x y hx hy c = record {
    turn = c.turn;
    listed = c.listed;
    shift = c.shift;
    onto = λ p j. let r = c.onto p (unit-back hx j) in (r.0, unit-there Z K s σ e hy r.1, r.2);
    from = λ q j. let r = c.from q (unit-back hy j) in (r.0, unit-there Z K s σ e hx r.1, r.2);
  }

  pub solution-agrees : Solution Z s → Solution Z σ
  unfolding SameSides
  solution-agrees sol = record {
    full = λ b h q. sol.full b h (e b h ∙ q);
    no_wall = λ x h hx m j q. sol.no_wall x h hx m (block_back hx j) (e h.border (K.hop-border x h hx m) ∙ q);
    both = λ x c hx. let r = sol.both x c hx in (r.0, block-there Z K s σ e hx r.1, r.2);
    one = λ x y hx j q. unit-there Z K s σ e hx (sol.one x y hx (block_back hx j) q);
    congruent = λ x y hx j q. let j' = block_back hx j in
        congruent-there x y hx (join-in Z.page K _ hx j') (sol.congruent x y hx j' q);
    clues = λ x n hx q.
        let u = sol.clues x n hx q in
        record {
          cells = u.cells;
          once = u.once;
          each = λ y m. unit-there Z K s σ e hx (u.each y m);
          every = λ y j. u.every y (unit-back hx j);
          size = u.size;
        };
  }
