-- More laws of the definitions, by cases; no answer cites them.
use Rattle.std.specs.Prelude.{◌≡◌, refl, Bool, true, false, List, [], ℕ, ◌<◌, T, eqb, Option, Some, None, MatchOption}
use Rattle.std.proofs.Common.{sym, ◌∙◌, eq-eqb}
use Rattle.lists.specs.Lists.{◌∈◌, any, range}
use Rattle.lists.specs.ListLaws.{mem-filter}
use Rattle.lists.specs.Ranges.{mem-range}
use Rattle.lists.specs.Filters.{filter_none}
use Rattle.rules.specs.Codes.{states_in, unclued}
use Rattle.rules.specs.Flat.{flat}
use Rattle.rules.specs.Groups.{members, potential_of, potential_count}
use Rattle.rules.specs.Check.{mates}
use Rattle.adjacent.specs.Mates.{Single, Sampled, meets_at}
use Rattle.adjacent.specs.GatherLaws.{mates-are}

-- SampleLaws: what a search found, or that it found none
module _ (n : ℕ) (f : ℕ → Bool) where
  pub single-none : ((x : ℕ) → false ≡ f x) → Single n f None
  single-none e = λ x. sym (e x)

  pub single-one : {q : ℕ} → q < n → ((x : ℕ) → eqb q x ≡ f x) → Single n f (Some q)
  single-one h e = (h, e)

  pub sampled-none : ((x : ℕ) → false ≡ f x) → Sampled n f None
  sampled-none e = λ x. sym (e x)

  -- what was found by one test passes another
  pub sampled-here : {q : ℕ} → Sampled n f (Some q) → (g : ℕ → Bool) → (f q ≡ true → g q ≡ true)
      → Sampled n g (Some q)
  sampled-here k g e = (k.0, e k.1)

  -- the one that passes is one that passes, and where there is none there is none
  pub single-any : (r : Option ℕ) → Single n f r → Sampled n f r
  single-any None k = k
  single-any (Some q) k = (k.0, sym (k.1 q) ∙ eq-eqb q q refl)

-- a cell of p touches q: q is a mate of p, however many potential units there are
module _ (h w : ℕ) (cs bs : List ℕ) where
  pub sampled-any : {cells : List ℕ} (r : Option ℕ)
      → Sampled (potential_count (unclued h w cs) (states_in bs)) (λ x. any (meets_at h w cs bs x) cells) r
      → (p : ℕ) → cells ≡ members (flat h w) (potential_of (unclued h w cs) (states_in bs)) p
      → MatchOption r (mates (unclued h w cs) (states_in bs) p ≡ [])
      (λ q. q ∈ mates (unclued h w cs) (states_in bs) p)
  sampled-any {cells} None k p m =
      let count = potential_count (unclued h w cs) (states_in bs) in
      let test : ℕ → Bool = λ x. any (meets_at h w cs bs x) cells in
      sym (mates-are h w cs bs p m) ∙ filter_none test (range count) (λ x n. k x)
  sampled-any {cells} (Some q) k p m =
      let count = potential_count (unclued h w cs) (states_in bs) in
      let test : ℕ → Bool = λ x. any (meets_at h w cs bs x) cells in
      rw (mates-are h w cs bs p m) at (mem-filter test (range count) (mem-range count k.0) (holds k.1))
    where
      holds : {b : Bool} → b ≡ true → T b
      holds e = rw e tt
