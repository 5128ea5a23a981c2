-- The composition rules of the table of eight rows, tested once over the table.
--
--   products            row a of this list has at b the row that does b, then a
--   product_row a b     that row's number
use Rattle.std.specs.Prelude.{◌≡◌, List, [], ◌∷◌, ℕ, ◌<◌, T, get_or}
use Rattle.std.proofs.Common.{ap, ◌∙◌}
use Rattle.std.proofs.Math.Bool.{xor}
use Rattle.lists.specs.Lists.{all, range}
use Rattle.lists.specs.ListLaws.{all-mem}
use Rattle.lists.specs.Ranges.{mem-range}
use Rattle.rules.specs.Page.{Shape}
use Rattle.rules.specs.Turns.{apply, compose}
use Rattle.rules.specs.Shapes.{turned}
use Rattle.laws.specs.ShapeLaws.{turned-compose}
use Rattle.laws.specs.TurnLaws.{same_turn, same_turn→eq}
use Rattle.shapes.specs.Rows.{turn_at, image}

abbrev pub products : List (List ℕ)
products =
    (0 ∷ 1 ∷ 2 ∷ 3 ∷ 4 ∷ 5 ∷ 6 ∷ 7 ∷ [])
    ∷ (1 ∷ 0 ∷ 3 ∷ 2 ∷ 5 ∷ 4 ∷ 7 ∷ 6 ∷ [])
    ∷ (2 ∷ 3 ∷ 1 ∷ 0 ∷ 7 ∷ 6 ∷ 4 ∷ 5 ∷ [])
    ∷ (3 ∷ 2 ∷ 0 ∷ 1 ∷ 6 ∷ 7 ∷ 5 ∷ 4 ∷ [])
    ∷ (4 ∷ 5 ∷ 6 ∷ 7 ∷ 0 ∷ 1 ∷ 2 ∷ 3 ∷ [])
    ∷ (5 ∷ 4 ∷ 7 ∷ 6 ∷ 1 ∷ 0 ∷ 3 ∷ 2 ∷ [])
    ∷ (6 ∷ 7 ∷ 5 ∷ 4 ∷ 3 ∷ 2 ∷ 0 ∷ 1 ∷ [])
    ∷ (7 ∷ 6 ∷ 4 ∷ 5 ∷ 2 ∷ 3 ∷ 1 ∷ 0 ∷ [])
    ∷ []

abbrev pub product_row : ℕ → ℕ → ℕ
product_row a b = get_or (get_or products a []) b 0

-- the test over the table
tested : T (all (λ a. all (λ b. same_turn (compose (turn_at a) (turn_at b)) (turn_at (product_row a b))) (range 8))
    (range 8))
unfolding all xor
tested = tt

pub compose-rows : (a b : ℕ) → a < 8 → b < 8 → compose (turn_at a) (turn_at b) ≡ turn_at (product_row a b)
compose-rows a b h k =
    same_turn→eq (compose (turn_at a) (turn_at b)) (turn_at (product_row a b))
    (all-mem (λ b. same_turn (compose (turn_at a) (turn_at b)) (turn_at (product_row a b))) (range 8)
    (all-mem (λ a. all (λ b. same_turn (compose (turn_at a) (turn_at b)) (turn_at (product_row a b))) (range 8))
    (range 8)
    tested
    (mem-range 8 h)) (mem-range 8 k))

pub image-image : (a b : ℕ) (t : Shape) → a < 8 → b < 8 → image a (image b t) ≡ image (product_row a b) t
unfolding image
image-image a b t h k =
    turned-compose (turn_at a) (turn_at b) t ∙ ap (λ d. turned (apply d) t) (compose-rows a b h k)
