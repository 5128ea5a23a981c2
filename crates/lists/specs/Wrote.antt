-- Writing into memory, one element after another: what a function that writes says of it.
-- Assumes nothing.
--
--   WroteAs code m from xs after next   the elements xs, each as the places that code gives of it, were written into m
--                       from the place `from`: `after` is the memory afterwards, and `next` the place after the last
use Rattle.std.specs.Prelude.{◌≡◌, List, ℕ, ◌+◌, length}
use Rattle.std.proofs.lemmas.List.Edits.{sets}
use Rattle.lists.specs.Lists.{flat_map}

pub record WroteAs {A B : Type 0} (code : A → List B) (m : List B) (from : ℕ) (xs : List A) (after : List B)
    (next : ℕ) : Type 0 where
  pub memory : after ≡ sets m from (flat_map code xs)
  pub place : next ≡ from + length (flat_map code xs)
