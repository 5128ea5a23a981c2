-- Planes: which borders of a page are clear, as words, and the search that reads them.
--
--   clear_at cs bs f t b     the border b between the cells f and t joins one colour and is not wall
--   clear_row cs bs c a b n  n borders from the number b up, between the cells from c up and those a further on
--   line_word h w cs bs r    the doubled row r of the page: odd, the borders below a row's cells; even, those right of
--                            them
--   plane_row .. n r         the first n doubled rows of a page, raised: row r by 64, the columns by 32; 0 off the page
--   plane_word h w cs bs r   all 2h - 1 of them
--   planes_of h w cs bs      the planes of a page
use Rattle.std.specs.Prelude.{Bool, not, ◌&&◌, cond, List, ℕ, ◌+◌, ◌-◌, ◌*◌, ◌/◌, ◌%◌, ◌^◌, eqb, ltb, leb, get_or}
use Rattle.lists.specs.Table.{table}
use Rattle.planes.specs.Bits.{row_from}

module _ (cs bs : List ℕ) where
  unfoldable pub clear_at : ℕ → ℕ → ℕ → Bool
  clear_at f t b = eqb (get_or cs f 0) (get_or cs t 0) && not (eqb (get_or bs b 0) 1)

  unfoldable pub clear_row : ℕ → ℕ → ℕ → ℕ → ℕ
  clear_row c ahead b n = row_from n 0 (λ x. clear_at (c + x) (c + x + ahead) (b + x))

module _ (h w : ℕ) (cs bs : List ℕ) where
  unfoldable pub line_word : ℕ → ℕ
  line_word r =
      cond (eqb (r % 2) 1) (clear_row cs bs (r / 2 * w) w (h * (w - 1) + r / 2 * w) w)
      (clear_row cs bs (r / 2 * w) 1 (r / 2 * (w - 1)) (w - 1))

  unfoldable pub plane_row : ℕ → ℕ → ℕ
  plane_row n r = cond (leb 64 r && ltb r (64 + n)) (line_word (r - 64) * 2 ^ 32) 0

  unfoldable pub plane_word : ℕ → ℕ
  plane_word r = plane_row (2 * h - 1) r

  unfoldable pub planes_of : List ℕ
  planes_of = table 192 plane_word
