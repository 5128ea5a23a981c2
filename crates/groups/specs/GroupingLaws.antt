-- Laws of a grouping: a part of a list that was written, a grouping that may be lent, one that was filled.
use Rattle.std.specs.Prelude.{◌≡◌, List, [], ◌∷◌, ◌++◌, ℕ, ◌+◌, ◌-◌, ◌<◌, ◌≤◌, length, get_or, take, drop, replicate}
use Rattle.std.proofs.Common.{ap, ◌∙◌, arith, length-append, length-drop, length-take-le}
use Rattle.std.proofs.Math.ListN.{get_or-append}
use Rattle.std.proofs.Math.Seq.{get_or-drop}
use Rattle.std.proofs.lemmas.List.{length-replicate, get_or-append_right}
use Rattle.lists.specs.Table.{table}
use Rattle.lists.specs.TableLaws.{length-table, get_d-table}
use Rattle.lists.specs.PaddedLaws.{zeros}
use Rattle.groups.specs.declared.Grouping.{Grouping}
use Rattle.groups.specs.Parts.{Groups}
use Rattle.groups.specs.Arrays.{Blank, Stored}
use Rattle.groups.specs.Grouping.{numbers_in, cells_in, starts_in, count_in, empty_grouping, grouping_of, array_of}
use Rattle.groups.specs.Grouping.{Filled, Vacant}

-- the first n places of a list are written
module _ (n : ℕ) (l : List ℕ) (room : n ≤ length l) (new : List ℕ) where
  front-stored : (f : ℕ → ℕ) → length new ≡ n → ((x : ℕ) → x < n → get_or new x 0 ≡ f x)
      → Stored n f l (new ++ drop n l)
  front-stored f size at = record {
    long = simp (length-append, length-drop) (omega (arith, size));
    at = λ x h. get_or-append new (drop n l) 0 x (omega arith) ∙ at x h;
    rest = λ x h. get_or-append_right new (drop n l) n x 0 size h ∙ get_or-drop n l (x - n) 0
        ∙ ap (λ (j : ℕ). get_or l j 0) (omega arith);
  }

  pub front-counted : new ≡ table (length (take n l)) (λ x. x) → Stored n (λ x. x) l (new ++ drop n l)
  front-counted h =
      let k : new ≡ table n (λ x. x) = rw (length-take-le n l room) at h in
      front-stored (λ x. x) (ap length k ∙ length-table n (λ x. x)) (λ x i. rw k (get_d-table n (λ x. x) x 0 i))

  pub front-cleared : new ≡ replicate (length (take n l)) 0 → Stored n (λ x. 0) l (new ++ drop n l)
  front-cleared h =
      let k : new ≡ replicate n 0 = rw (length-take-le n l room) at h in
      front-stored (λ x. 0) (ap length k ∙ length-replicate n 0) (λ x i. rw k (zeros n x))

-- groupings that may be lent: one of zeros, and one that was filled
blank-zeros : (N n : ℕ) → Blank N n (replicate N 0)
blank-zeros N n = record { long = length-replicate N 0; rest = λ x h. zeros N x }

pub vacant-zeros : (n : ℕ) → Vacant n empty_grouping
unfolding empty_grouping
vacant-zeros n = record { numbers = blank-zeros 1024 n; cells = blank-zeros 1024 n; starts = blank-zeros 1025 (n + 1) }

-- the groups as one value, and as one list
pub filled-grouping : {G : Groups} (g : Grouping) → Filled G g → g ≡ grouping_of G
unfolding grouping_of
filled-grouping g f = λ i. record { numbers = f.numbers i; cells = f.cells i; starts = f.starts i; count = f.count i }

pub filled-array : {G : Groups} (g : Grouping) → Filled G g
    → numbers_in g ++ (cells_in g ++ (starts_in g ++ (count_in g ∷ []))) ≡ array_of G
unfolding array_of
filled-array g f = rw (f.numbers, f.cells, f.starts, f.count)
