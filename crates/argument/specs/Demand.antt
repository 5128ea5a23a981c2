-- Demand 3 for the book: a single claim about a whole list of calls.
--
--   Full Z s                    the setting s leaves no border of the page undecided
--   SameSides Z s σ             s and σ have the same states on the page's borders
--   BookAnswered Z calls ls r   somewhere in the list a check or a preview, which looked at ls, was answered with r
--   BookHandedOut Z calls ls r  somewhere in the list a check or a preview, which looked at ls, handed out the reason r
--   BookRuledOut Z calls σ      σ contains all literals of some reason handed out in the list
--   BookStoodAt Z calls σ r     σ stood at a check or a preview of the list that was answered with r
--   Passes r                    the answer r is a pass
--   BookPassedAt Z calls σ      σ stood at a check or a preview of the list that was answered with a pass
--   BookDemand Z calls          the claim
use Rattle.std.specs.Prelude.{◌≡◌, ◌↔◌, List, ◌∷◌, ◌++◌, ℕ, ◌<◌, ◌≤◌, length}
use Rattle.lists.specs.Lists.{Distinct}
use Rattle.rules.specs.declared.Literal.{Literal}
use Rattle.rules.specs.Page.{Puzzle, State, undecided, Contains}
use Rattle.rules.specs.Rules.{Solution}
use Rattle.rules.specs.Check.{Reason, Verdict, pass, conflict, borders_named}
use Rattle.rules.specs.Book.{Asked, answered, states, looked, reply, book_after}

module _ (Z : Puzzle) where
  -- "A full setting makes each border wall or open"
  unfoldable pub Full : (ℕ → State) → Type 0
  Full s = (b : ℕ) → b < Z.page.borders → s b ≡ undecided → ⊥

  unfoldable pub SameSides : (ℕ → State) → (ℕ → State) → Type 0
  SameSides s σ = (b : ℕ) → b < Z.page.borders → s b ≡ σ b

  -- "A check is answered if not refused"; ls is the sequence that the calls before it lead to, and for a preview a copy
  -- of it with the preview's literal put last
  pub record BookAnswered (calls : List Asked) (ls : List Literal) (r : Verdict) : Type 0 where
    pub earlier : List Asked
    pub call : Asked
    pub later : List Asked
    pub split : calls ≡ earlier ++ (call ∷ later)
    pub standing : looked (book_after Z earlier).sequence call.call ≡ ls
    pub answer : reply Z (book_after Z earlier) call ≡ answered r

  -- "a reason handed out is the literals it wrote"; a preview's "counts as handed out"
  abbrev pub BookHandedOut : List Asked → List Literal → Reason → Type 0
  BookHandedOut calls ls r = BookAnswered calls ls (conflict r)

  -- a full setting is ruled out by the list if it contains all literals of some reason handed out in it
  pub record BookRuledOut (calls : List Asked) (σ : ℕ → State) : Type 0 where
    pub sequence : List Literal
    pub reason : Reason
    pub given : BookHandedOut calls sequence reason
    pub contains : Contains σ reason

  -- "A full setting stood at a check if the board then had no undecided border and the setting's sides"; "a full
  -- setting on the copy counts as one that stood at the check"
  pub record BookStoodAt (calls : List Asked) (σ : ℕ → State) (r : Verdict) : Type 0 where
    pub sequence : List Literal
    pub check : BookAnswered calls sequence r
    pub full : Full (states sequence)
    pub sides : SameSides (states sequence) σ

abbrev pub Passes : Verdict → Type 0
Passes r = (n : ℕ) × (r ≡ pass n)

abbrev pub BookPassedAt : Puzzle → List Asked → (ℕ → State) → Type 0
BookPassedAt Z calls σ = (n : ℕ) × BookStoodAt Z calls σ (pass n)

pub record BookDemand (Z : Puzzle) (calls : List Asked) : Type 0 where
  -- each reason handed out held on the board it was handed out on
  pub held : (ls : List Literal) (r : Reason) → BookHandedOut Z calls ls r → Contains (states ls) r
  -- 02: "no border is named twice, so a reason has at most as many literals as there are decided borders"
  pub each_once : (ls : List Literal) (r : Reason) → BookHandedOut Z calls ls r → Distinct (borders_named r)
  pub few : (ls : List Literal) (r : Reason) → BookHandedOut Z calls ls r → length r ≤ length ls
  -- no solution is ruled out
  pub no_solution : (σ : ℕ → State) → Solution Z σ → BookRuledOut Z calls σ → ⊥
  -- a full setting that stood at an answered check passed there exactly when it is a solution ..
  pub verdict : (σ : ℕ → State) (r : Verdict) → BookStoodAt Z calls σ r → (Passes r ↔ Solution Z σ)
  -- .. and otherwise is ruled out
  pub otherwise : (σ : ℕ → State) (r : Verdict) → BookStoodAt Z calls σ r → (Passes r → ⊥) → BookRuledOut Z calls σ
  -- a longer list rules out no less
  pub monotone : (more : List Asked) (σ : ℕ → State) → BookRuledOut Z calls σ → BookRuledOut Z (calls ++ more) σ
  -- what passed is ruled out in no longer list, and what is ruled out passes in no longer list
  pub stays_in : (more : List Asked) (σ : ℕ → State) → BookPassedAt Z calls σ → BookRuledOut Z (calls ++ more) σ → ⊥
  pub stays_out : (more : List Asked) (σ : ℕ → State) → BookRuledOut Z calls σ → BookPassedAt Z (calls ++ more) σ → ⊥
  -- no verdict turns: where the same full setting stood twice, it passed both times or neither time
  pub same_verdict : (σ : ℕ → State) (q r : Verdict) → BookStoodAt Z calls σ q → BookStoodAt Z calls σ r
      → (Passes q ↔ Passes r)
