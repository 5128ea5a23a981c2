-- Producing: the images that decides and undos can produce from the image of a fresh board, by what the calls return.
--
--   ImageProduced s    the image of a fresh board, then decides and undos that are done, lead to the image s
use Rattle.std.specs.Prelude.{◌≡◌, List, ℕ, ℤ, Ok}
use Rattle.board.specs.declared.Board.{Board}
use Rattle.board.specs.Board.{returned, fresh_of, SmallClues}
use Rattle.image.specs.Image.{image_of, ImageCall, image_number, image_after}

pub data ImageProduced : List ℕ → Type 0 where
  begun : (h w : ℕ) (cs : List ℕ) (ks : List ℤ) (b : Board) → SmallClues ks → fresh_of h w cs ks ≡ returned (Ok tt) b
      → ImageProduced (image_of b)
  called : (s : List ℕ) (a : ImageCall) → ImageProduced s → image_number s a ≡ 0 → ImageProduced (image_after s a)
