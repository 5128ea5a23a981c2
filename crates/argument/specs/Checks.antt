-- What check answers, in the words of the rules.
--
--   check-holds         a reason holds on the board it is given on
--   check-once          it names no border twice ..
--   check-few           .. and has at most as many literals as there are decided borders
--   check_sound         no solution contains a reason
--   check-full          a full setting passes exactly when it is a solution
--   check-each          a claim about every hit is one about what every reason that check answers was struck from
--   check-kind          an answer is a pass or a conflict
use Rattle.std.specs.Prelude.{◌≡◌, refl, ◌⊎◌, ◌↔◌, List, length}
use Rattle.std.proofs.Common.{sym, subst, inl, inr, arith}
use Rattle.std.proofs.Math.Option.{Option, some, none}
use Prim.Native.Nat.{ℕ, ◌≤◌}
use Rattle.std.proofs.Math.ListN.{length-map}
use Rattle.lists.specs.Lists.{Distinct}
use Rattle.lists.specs.ListLaws.{first-none, map-within}
use Rattle.lists.specs.Lengths.{subset-le}
use Rattle.lists.specs.Ranges.{mem-range, range-lt}
use Rattle.rules.specs.declared.Literal.{Literal}
use Rattle.rules.specs.Page.{Puzzle, State, Contains}
use Rattle.rules.specs.Rules.{Solution}
use Rattle.rules.specs.Check.{Reason, Verdict, pass, conflict, hit, undecided_count, borders_named, once, once_in}
use Rattle.rules.specs.Check.{verdict_of, check}
use Rattle.rules.specs.Book.{states}
use Rattle.laws.specs.PageLaws.{Bordered, CellsPlaced, TurnsListed}
use Rattle.laws.specs.OnceLaws.{holds-once, contains-once, once-borders}
use Rattle.laws.specs.BookLaws.{decided-mem}
use Rattle.argument.specs.Demand.{Full, Passes}
use Rattle.argument.specs.Hits.{Each, each-some, each_or, each_first, else-none}
use Rattle.argument.specs.Sound.{Sound, sound-block}
use Rattle.argument.specs.Walls.{sound-walls}
use Rattle.argument.specs.Mates.{sound-unit}
use Rattle.argument.specs.Forms.{each-form}
use Rattle.argument.specs.Held.{held-forms}
use Rattle.argument.specs.Complete.{solved}

-- the answer and the hit
answer-hit : (n : ℕ) (o : Option Reason) (r : Reason) → verdict_of n (once_in o) ≡ conflict r
    → (q : Reason) × (o ≡ some q) × (once q ≡ r)
answer-hit n none r e = let z : ◌≡◌ {A = ℕ} 0 1 = cc in absurd (omega arith)
answer-hit n (some q) r e = let u : once q ≡ r = cc in (q, refl, u)

answer-none : (n : ℕ) (o : Option Reason) (k : ℕ) → verdict_of n (once_in o) ≡ pass k → o ≡ none
answer-none n none k e = refl
answer-none n (some q) k e = let z : ◌≡◌ {A = ℕ} 0 1 = cc in absurd (omega arith)

pub check-kind : (r : Verdict) → Passes r ⊎ ((q : Reason) × (r ≡ conflict q))
check-kind (pass n) = inl (n, refl)
check-kind (conflict q) = inr (q, refl)

pub check-each : (Q : Reason → Type 0) (Z : Puzzle) (s : ℕ → State) → Each Q (hit Z s) → (r : Reason)
    → check Z s ≡ conflict r → (q : Reason) × Q q × (once q ≡ r)
unfolding check
check-each Q Z s h r e =
    let a = answer-hit (undecided_count Z s) (hit Z s) r e in
    (a.0, each-some Q a.0 (subst (Each Q) a.1 h), a.2)

module _ (Z : Puzzle) (K : Bordered Z.page) (P : CellsPlaced Z.page) (I : TurnsListed Z.page) where
  -- what a reason was struck from holds on its board
  hit-holds : (s : ℕ → State) (r : Reason) → check Z s ≡ conflict r → (q : Reason) × Contains s q × (once q ≡ r)
  hit-holds s = check-each (Contains s) Z s (each-form Z s (Contains s) (held-forms Z K s))

  pub check-holds : (s : ℕ → State) (r : Reason) → check Z s ≡ conflict r → Contains s r
  check-holds s r e = let a = hit-holds s r e in subst (Contains s) a.2 (holds-once s a.0 a.1)

  -- 02: "no border is named twice"
  pub check-once : (s : ℕ → State) (r : Reason) → check Z s ≡ conflict r → Distinct (borders_named r)
  check-once s r e =
      let a = hit-holds s r e in
      subst (λ (k : Reason). Distinct (borders_named k)) a.2 (once-borders s a.0 a.1)

  -- 02: "so a reason has at most as many literals as there are decided borders"
  pub check-few : (ls : List Literal) (r : Reason) → check Z (states ls) ≡ conflict r → length r ≤ length ls
  unfolding Contains
  check-few ls r e =
      let border : Literal → ℕ = λ l. l.border in
      let c = check-holds (states ls) r e in
      let n = subset-le (borders_named r) (borders_named ls) (check-once (states ls) r e)
      (map-within border r ls (λ l m. decided-mem ls l (c l m))) in
      omega (arith, n, length-map r border, length-map ls border)

  hit-sound : (s : ℕ → State) → Each (Sound Z) (hit Z s)
  unfolding hit
  hit-sound s =
      each_or (Sound Z) _ _ (each_first (Sound Z) _ _ (λ B m. sound-block Z K P s B))
      (each_or (Sound Z) _ _ (each_first (Sound Z) _ _ (λ x m. sound-walls Z K P s x (range-lt _ m)))
      (each_first (Sound Z) _ _ (λ U m. sound-unit Z K P I s U)))

  pub check_sound : (s : ℕ → State) (r : Reason) → check Z s ≡ conflict r → (σ : ℕ → State) → Solution Z σ
      → Contains σ r → ⊥
  unfolding Sound
  check_sound s r e σ sol c =
      let a = check-each (Sound Z) Z s (hit-sound s) r e in
      a.1 σ sol (contains-once σ a.0 (subst (Contains σ) (sym a.2) c))

  check-solved : (s : ℕ → State) → Full Z s → Passes (check Z s) → Solution Z s
  unfolding check hit
  check-solved s full p =
      let a = else-none _ _ (answer-none (undecided_count Z s) (hit Z s) p.0 p.1) in
      let b = else-none _ _ a.1 in
      solved Z K P I s full
      (λ B h. first-none _ _ a.0 (mem-range _ h))
      (λ x h. first-none _ _ b.0 (mem-range _ h))
      (λ U h. first-none _ _ b.1 (mem-range _ h))

  check-passes : (s : ℕ → State) → Solution Z s → Passes (check Z s)
  check-passes s sol = go (check-kind (check Z s))
    where
      go : Passes (check Z s) ⊎ ((q : Reason) × (check Z s ≡ conflict q)) → Passes (check Z s)
      go (inl p) = p
      go (inr q) = absurd (check_sound s q.0 q.1 s sol (check-holds s q.0 q.1))

  pub check-full : (s : ℕ → State) → Full Z s → (Passes (check Z s) ↔ Solution Z s)
  check-full s full = (check-solved s full, check-passes s)
