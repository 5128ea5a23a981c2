-- Series: a list of decides and undos on an image in one call.
--
--   code_call c       the call of a code: 65,535 is an undo, any other the decide of the literal with that code
--   done_of s cs      how many of the calls are done one after another, up to the first that is refused
--   image_done s cs   the image after those
--   SeriesStepped s a t o  one call: o has the number of the call a on the image s, and t is the image afterwards
use Rattle.std.specs.Prelude.{◌≡◌, cond, List, [], ◌∷◌, ℕ, suc, ◌/◌, ◌%◌, eqb}
use Rattle.board.specs.Board.{Outcome, number_of}
use Rattle.image.specs.Image.{ImageCall, decide, undo, image_number, image_after}

-- "a literal is 2·border, plus 1 for wall"
unfoldable pub code_call : ℕ → ImageCall
code_call c = cond (eqb c 65535) undo (decide (c / 2) (c % 2))

unfoldable pub done_of : List ℕ → List ℕ → ℕ
done_of s [] = 0
done_of s (c ∷ cs) = cond (eqb (image_number s (code_call c)) 0) (suc (done_of (image_after s (code_call c)) cs)) 0

unfoldable pub image_done : List ℕ → List ℕ → List ℕ
image_done s [] = s
image_done s (c ∷ cs) = cond (eqb (image_number s (code_call c)) 0) (image_done (image_after s (code_call c)) cs) s

pub record SeriesStepped (s : List ℕ) (a : ImageCall) (t : List ℕ) (o : Outcome) : Type 0 where
  pub number : number_of o ≡ image_number s a
  pub after : t ≡ image_after s a
