-- The listed rows are rows of the table, one to eight.
use Rattle.std.specs.Prelude.{Bool, true, false, ℕ, ◌≤◌, ◌<◌, T, ltb, length, get_or}
use Rattle.std.proofs.Common.{arith, ltb→lt}
use Rattle.lists.specs.Lists.{◌∈◌, all}
use Rattle.lists.specs.ListLaws.{all-mem, get_d-mem}
use Rattle.rules.specs.Page.{Shape}
use Rattle.shapes.specs.Listing.{Rows}
use Rattle.shapes.specs.Rows.{fixes, flip_listed, rows_by, rows_of}

-- the listed rows
row_low : (a b c : Bool) → T (all (λ r. ltb r 8) (rows_by a b c))
unfolding all
row_low true true true = tt
row_low true true false = tt
row_low true false true = tt
row_low true false false = tt
row_low false b true = tt
row_low false b false = tt

pub listed-low : (t : Shape) {r : ℕ} → r ∈ rows_of t → r < 8
unfolding rows_of
listed-low t {r} m =
    ltb→lt r 8 (all-mem (λ r. ltb r 8) (rows_of t) (row_low (fixes t 1) (fixes t 3) (flip_listed t)) m)

row-few : (a b c : Bool) → (1 ≤ length (rows_by a b c)) × (length (rows_by a b c) ≤ 8)
row-few true true true = (omega arith, omega arith)
row-few true true false = (omega arith, omega arith)
row-few true false true = (omega arith, omega arith)
row-few true false false = (omega arith, omega arith)
row-few false b true = (omega arith, omega arith)
row-few false b false = (omega arith, omega arith)

pub rows-listed : (t : Shape) → Rows (rows_of t)
unfolding rows_of
rows-listed t = facts (fixes t 1) (fixes t 3) (flip_listed t)
  where
    facts : (a b c : Bool) → Rows (rows_by a b c)
    facts a b c =
        let f = row-few a b c in
        record {
          some = f.0;
          few = f.1;
          low =
              λ j h.
              ltb→lt (get_or (rows_by a b c) j 0) 8
              (all-mem (λ r. ltb r 8) (rows_by a b c) (row_low a b c) (get_d-mem (rows_by a b c) j 0 h));
        }
