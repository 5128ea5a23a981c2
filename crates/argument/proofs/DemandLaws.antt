-- Demand 3 for the book holds, for every puzzle on a page that meets the page laws and every list of calls.
--
--   answered-longer, ruled-longer, stood-longer   what is so in a list is so in a longer one
--   book-demand                                   the claim
use Rattle.std.specs.Prelude.{◌≡◌, refl, ◌⊎◌, ◌↔◌, List, ◌∷◌, ◌++◌, ℕ}
use Rattle.std.proofs.Common.{◌∙◌, ap, inl, inr, append_assoc}
use Rattle.std.proofs.Math.Path.{sym, subst}
use Rattle.rules.specs.declared.Literal.{Literal}
use Rattle.rules.specs.Page.{Puzzle, State, Contains}
use Rattle.rules.specs.Rules.{Solution}
use Rattle.rules.specs.Check.{Reason, Verdict, pass, conflict, check}
use Rattle.rules.specs.Book.{Asked, states, book_after}
use Rattle.laws.specs.PageLaws.{Bordered, CellsPlaced, TurnsListed}
use Rattle.laws.specs.BookLaws.{Clean, decided-mem, book-clean, answered-check, looked-clean}
use Rattle.argument.specs.Demand.{SameSides, BookAnswered, BookRuledOut, BookStoodAt, Passes, BookDemand}
use Rattle.argument.specs.Agrees.{sides-sym, solution-agrees}
use Rattle.argument.specs.Checks.{check-kind, check-holds, check-once, check-few, check_sound, check-full}

module _ (Z : Puzzle) where
  pub answered-longer : (calls more : List Asked) (ls : List Literal) (r : Verdict) → BookAnswered Z calls ls r
      → BookAnswered Z (calls ++ more) ls r
  answered-longer calls more ls r a = record {
    earlier = a.earlier;
    call = a.call;
    later = a.later ++ more;
    split = ap (λ (c : List Asked). c ++ more) a.split ∙ append_assoc a.earlier (a.call ∷ a.later) more;
    standing = a.standing;
    answer = a.answer;
  }

  pub ruled-longer : (calls more : List Asked) (σ : ℕ → State) → BookRuledOut Z calls σ
      → BookRuledOut Z (calls ++ more) σ
  ruled-longer calls more σ q = record {
    sequence = q.sequence;
    reason = q.reason;
    given = answered-longer calls more q.sequence (conflict q.reason) q.given;
    contains = q.contains;
  }

  pub stood-longer : (calls more : List Asked) (σ : ℕ → State) (r : Verdict) → BookStoodAt Z calls σ r
      → BookStoodAt Z (calls ++ more) σ r
  stood-longer calls more σ r q = record {
    sequence = q.sequence;
    check = answered-longer calls more q.sequence r q.check;
    full = q.full;
    sides = q.sides;
  }

  -- the answer is check's, on the states of the sequence that was looked at
  checked : (calls : List Asked) (ls : List Literal) (r : Verdict) → BookAnswered Z calls ls r → check Z (states ls) ≡ r
  checked calls ls r a =
      ap (λ (ks : List Literal). check Z (states ks)) (sym a.standing)
      ∙ answered-check Z (book_after Z a.earlier) a.call r a.answer

  -- the setting that stood has the literals of a reason that holds there
  stood-contains : (calls : List Asked) (σ : ℕ → State) (r : Verdict) (q : BookStoodAt Z calls σ r) (reason : Reason)
      → Contains (states q.sequence) reason → Contains σ reason
  unfolding Contains SameSides
  stood-contains calls σ r q reason c l m =
      let a = q.check in
      let clean : Clean Z q.sequence = subst (Clean Z) a.standing
      (looked-clean Z (book_after Z a.earlier) a.call r a.answer (book-clean Z a.earlier)) in
      let h = clean.below l (decided-mem q.sequence l (c l m)) in
      sym (q.sides l.border h) ∙ c l m

module _ (Z : Puzzle) (K : Bordered Z.page) (P : CellsPlaced Z.page) (I : TurnsListed Z.page) where
  none-ruled : (calls : List Asked) (σ : ℕ → State) → Solution Z σ → BookRuledOut Z calls σ → ⊥
  none-ruled calls σ sol q =
      check_sound Z K P I (states q.sequence) q.reason
      (checked Z calls q.sequence (conflict q.reason) q.given) σ sol q.contains

  verdicts : (calls : List Asked) (σ : ℕ → State) (r : Verdict) → BookStoodAt Z calls σ r → (Passes r ↔ Solution Z σ)
  verdicts calls σ r q =
      let e = checked Z calls q.sequence r q.check in
      let c = check-full Z K P I (states q.sequence) q.full in (
        λ p. solution-agrees Z K (states q.sequence) σ q.sides (c.0 (p.0, e ∙ p.1)),
        λ sol.
            let p = c.1 (solution-agrees Z K σ (states q.sequence) (sides-sym Z (states q.sequence) σ q.sides)
            sol) in
            (p.0, sym e ∙ p.1),
      )

  failed : (calls : List Asked) (σ : ℕ → State) (r : Verdict) → BookStoodAt Z calls σ r → (Passes r → ⊥)
      → BookRuledOut Z calls σ
  failed calls σ r q n = go (check-kind r)
    where
      go : Passes r ⊎ ((reason : Reason) × (r ≡ conflict reason)) → BookRuledOut Z calls σ
      go (inl p) = absurd (n p)
      go (inr c) =
          let e = checked Z calls q.sequence r q.check ∙ c.1 in
          record {
            sequence = q.sequence;
            reason = c.0;
            given = subst (BookAnswered Z calls q.sequence) c.1 q.check;
            contains = stood-contains Z calls σ r q c.0 (check-holds Z K P I (states q.sequence) c.0 e);
          }

  pub book-demand : (calls : List Asked) → BookDemand Z calls
  book-demand calls = record {
    held = λ ls r a. check-holds Z K P I (states ls) r (checked Z calls ls (conflict r) a);
    each_once = λ ls r a. check-once Z K P I (states ls) r (checked Z calls ls (conflict r) a);
    few = λ ls r a. check-few Z K P I ls r (checked Z calls ls (conflict r) a);
    no_solution = none-ruled calls;
    verdict = verdicts calls;
    otherwise = failed calls;
    monotone = ruled-longer Z calls;
    stays_in = λ more σ p. none-ruled (calls ++ more) σ ((verdicts calls σ (pass p.0) p.1).0 (p.0, refl));
    stays_out = λ more σ q p.
        none-ruled calls σ ((verdicts (calls ++ more) σ (pass p.0) p.1).0 (p.0, refl)) q;
    same_verdict = λ σ q r s t.
        let a = verdicts calls σ q s in
        let b = verdicts calls σ r t in
        (λ p. b.1 (a.0 p), λ p. a.1 (b.0 p));
  }
