-- Making: what making a fresh image in lent bytes gives.
--
--   fresh_number h w cs ks s  the number that making the image of a puzzle in the bytes s returns
--   fresh_image h w cs ks s   the bytes afterwards
use Rattle.std.specs.Prelude.{cond, List, ℕ, eqb, ℤ}
use Rattle.board.specs.Board.{number_of, fresh_of}
use Rattle.image.specs.Image.{image_of, right_length}

-- "Making a board gives 1 to 4"; 5 for an "image of another length"; "The lowest applicable number is given"
unfoldable pub fresh_number : ℕ → ℕ → List ℕ → List ℤ → List ℕ → ℕ
fresh_number h w cs ks s =
    cond (eqb (number_of (fresh_of h w cs ks).outcome) 0)
    (cond (right_length s) 0 5)
    (number_of (fresh_of h w cs ks).outcome)

-- the image of the fresh board; on a refusal "lent memory stays"
unfoldable pub fresh_image : ℕ → ℕ → List ℕ → List ℤ → List ℕ → List ℕ
fresh_image h w cs ks s = cond (eqb (fresh_number h w cs ks s) 0) (image_of (fresh_of h w cs ks).board) s
