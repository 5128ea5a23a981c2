-- `unused_zero` meets its contract: what each run gathers is 0, or true, exactly where the definition's places are 0.
use Rattle.std.proofs.Common.{◌≡◌, ◌∙◌, refl, sym, ap, ◌&&◌, eqb, eq-eqb, ne_eqb, bit_or, pos, length, rules, arith}
use Rattle.std.proofs.lemmas.Grind.{common_steps}
use Rattle.lists.specs.Arithmetic.{or-none}
use Rattle.board.specs.Alien.{zeros_from, clue_zero, zero_clues_from, unused_in}
use Rattle.board.proofs.Board.unused_zero.Goals.{then-gathered-eq0, else-gathered-eq0, then-gathered, else-gathered}
use Rattle.board.proofs.Board.unused_zero.Goals.{Joined-gathered}
use Rattle.board.proofs.Board.unused_zero.Goals as goal

-- the lengths of the arrays
long : (c : Joined-gathered)
    → let b = c.args.self.now in
    (length b.colours ≡ 1024) × (length b.clues ≡ 1024) × (length b.borders ≡ 1984) × (length b.stack ≡ 1984)
long c = (search rules, search rules, search rules, search rules)

-- what the first test says, the first two and the first three
colours : (c : Joined-gathered) → eqb c.gathered.result 0 ≡ zeros_from c.args.self.now.colours c.args.cells
unfolding zeros_from
colours c =
    rw (long c).0
    (c.gathered.ensures (λ a. eqb a 0) (λ x. eqb x 0) 0 refl
    (λ a x b p. let q : b ≡ bit_or a x = search rules in ap (λ y. eqb y 0) q ∙ or-none a x))

clues : (c : Joined-gathered)
    → let a = c.args in
    c.if-gathered-eq0.value ≡ zeros_from a.self.now.colours a.cells && zero_clues_from a.self.now.clues a.cells
unfolding zero_clues_from
clues c =
    elim c.if-gathered-eq0.branch [
      | then-gathered-eq0 w ↦
          w.value-is
          ∙ rw (sym (colours c) ∙ eq-eqb c.gathered.result 0 w.if-gathered-eq0.true, (long c).1)
          (w.gathered-then-gathered-eq0.ensures (λ a. a) clue_zero (pos 0) refl
          (λ a x b p. grind (arith, common_steps)))
      | else-gathered-eq0 w ↦
          let e = ne_eqb c.gathered.result 0 w.if-gathered-eq0.false in
          w.value-is ∙ e ∙ rw (sym (colours c) ∙ e)
    ]

borders : (c : Joined-gathered)
    → let a = c.args in
    c.if-gathered.value
    ≡ zeros_from a.self.now.colours a.cells && zero_clues_from a.self.now.clues a.cells
    && zeros_from a.self.now.borders a.total
unfolding zeros_from
borders c =
    elim c.if-gathered.branch [
      | then-gathered w ↦
          w.value-is
          ∙ rw (sym (clues c) ∙ w.if-gathered.true, (long c).2)
          (w.gathered-then-gathered.ensures (λ a. eqb a 0) (λ x. eqb x 0) 0 refl
          (λ a x b p. let q : b ≡ bit_or a x = search rules in ap (λ y. eqb y 0) q ∙ or-none a x))
      | else-gathered w ↦ w.value-is ∙ w.if-gathered.false ∙ rw (sym (clues c) ∙ w.if-gathered.false)
    ]

pub returns-then-gathered-eq0-2 : goal.returns-then-gathered-eq0-2
unfolding unused_in zeros_from
returns-then-gathered-eq0-2 c =
    let d = (goal.at.returns-then-gathered-eq0-2 c).Joined-gathered in
    rw (sym (borders d) ∙ c.if-gathered-eq0-2.true, (long d).3)
    (c.gathered-then-gathered-eq0-2.ensures (λ a. eqb a 0) (λ x. eqb x 0) 0 refl
    (λ a x b p. let q : b ≡ bit_or a x = search rules in ap (λ y. eqb y 0) q ∙ or-none a x))

pub returns-else-gathered-eq0-2 : goal.returns-else-gathered-eq0-2
unfolding unused_in
returns-else-gathered-eq0-2 c =
    c.if-gathered-eq0-2.false
    ∙ rw (sym (borders (goal.at.returns-else-gathered-eq0-2 c).Joined-gathered) ∙ c.if-gathered-eq0-2.false)
