-- Making a board that is done: what it says of the puzzle, and that its board is not alien; the zeros board is.
use Rattle.std.specs.Prelude.{◌≡◌, refl, Bool, true, false, List, ℕ, ◌*◌, ℤ, pos, get_or, replicate, Ok, Err}
use Rattle.std.proofs.Common.{ap, ◌∙◌, arith, leb-true}
use Rattle.std.proofs.Math.Path.{sym}
use Rattle.std.proofs.Math.Dec.{leb}
use Rattle.std.proofs.lemmas.List.{length-replicate}
use Rattle.std.proofs.Math.ListN.{get_or-eq_default}
use Rattle.lists.specs.PaddedLaws.{zeros, get_d-padded, length-padded}
use Rattle.lists.specs.TestLaws.{all-at}
use Rattle.rules.specs.Flat.{Sized, border_count}
use Rattle.laws.specs.FlatLaws.{counts}
use Rattle.board.specs.declared.Board.{Board}
use Rattle.board.specs.declared.Returned.{Returned}
use Rattle.board.specs.Alien.{size_right, colours_right, clue_right, clues_right, is_alien}
use Rattle.board.specs.Board.{Outcome, zero_board, fresh_board, returned, puzzle_refusal, fresh_of, SmallClues}
use Rattle.board.specs.Board.{Typed}
use Rattle.board.specs.ConditionLaws.{sized, stacked-none}
use Rattle.board.specs.Cases.{refused-number, PuzzleFit, puzzle-free, fresh-size, fresh-refused, fresh-free, alien-size}
use Rattle.board.specs.TallyLaws.{tally-fresh}
use Rattle.board.specs.NativeLaws.{Native, native-of}
use Rattle.board.proofs.DecideLaws.{one_number}

-- "the all-zero board, itself alien"
pub zero-alien : is_alien zero_board ≡ true
unfolding size_right
zero-alien = sym (alien-size zero_board refl)

-- making a board of that puzzle gave d
pub record Made (h w : ℕ) (cs : List ℕ) (ks : List ℤ) (d : Board) : Type 0 where
  pub size : Sized h w
  pub fit : PuzzleFit (h * w) cs ks
  pub is : d ≡ fresh_board h w cs ks

pub made-is : {h w : ℕ} {cs : List ℕ} {ks : List ℤ} {d : Board} → fresh_of h w cs ks ≡ returned (Ok tt) d
    → Made h w cs ks d
made-is {h} {w} {cs} {ks} {d} e = go (size_right h w) refl (puzzle_refusal (h * w) cs ks) refl
  where
    go : (s : Bool) → size_right h w ≡ s → (o : Outcome) → puzzle_refusal (h * w) cs ks ≡ o → Made h w cs ks d
    go false p o q = absurd (let n : 1 ≡ 0 = one_number (fresh-size h w cs ks p ∙ e) in omega arith)
    go true p (Err r) q = absurd (refused-number r (one_number (fresh-refused h w cs ks p r (sym q) ∙ e)))
    go true p (Ok u) q =
        record {
          size = sized p;
          fit = puzzle-free (h * w) cs ks q;
          is = ap (λ (t : Returned). t.board) (sym e ∙ sym (fresh-free h w cs ks p (sym q)));
        }

module _ {h w : ℕ} {cs : List ℕ} {ks : List ℤ} {d : Board} (M : Made h w cs ks d) where
  fresh-native : Native (fresh_board h w cs ks)
  unfolding colours_right clues_right
  fresh-native =
      record {
        size = M.size;
        colour =
            λ i l.
            rw (get_d-padded 1024 0 cs i)
            (leb-true (get_or cs i 0) 1 (all-at (h * w) (λ j. leb (get_or cs j 0) 1) i M.fit.colour l));
        clue =
            λ i l.
            rw (get_d-padded 1024 (pos 0) ks i) (all-at (h * w) (λ j. clue_right (get_or ks j (pos 0))) i M.fit.clue l);
        few = omega arith;
        entry = λ i l. absurd (omega arith);
        once = λ i l. absurd (omega arith);
        code = λ x l. rw (zeros 1984 x) (omega arith);
        held = λ x l. rw (zeros 1984 x, stacked-none (replicate 1984 0) x);
        tally = sym (tally-fresh 1984 (border_count h w));
        no_colour = λ i l. let c = M.fit.colours in get_d-padded 1024 0 cs i ∙ get_or-eq_default cs 0 (omega arith);
        no_clue =
            λ i l.
            let c = M.fit.clues in
            get_d-padded 1024 (pos 0) ks i ∙ get_or-eq_default ks (pos 0) (omega arith);
        no_border = λ x l. zeros 1984 x;
        no_entry = λ i l. zeros 1984 i;
      }

  pub made-keeps : is_alien d ≡ false
  made-keeps = ap is_alien M.is ∙ native-of _ fresh-native

  pub made-typed : SmallClues ks → Typed d
  made-typed s =
      let c = counts M.size in
      let p = M.fit.colours in
      let q = M.fit.clues in
      rw M.is
      (record {
        colours = length-padded 1024 0 cs (omega arith);
        clues = length-padded 1024 (pos 0) ks (omega arith);
        borders = length-replicate {A = ℕ} 1984 0;
        stack = length-replicate {A = ℕ} 1984 0;
        small = λ i. rw (get_d-padded 1024 (pos 0) ks i) (s i);
      })
