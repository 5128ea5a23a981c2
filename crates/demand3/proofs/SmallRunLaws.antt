-- 01's small boards answer as they say.
--
--   small-clues, asked-lent, run-answers  how that follows from the book
--   small-runs        all of them
use Rattle.std.specs.Prelude.{◌≡◌, refl, true, List, [], ◌∷◌, map, ℕ, zero, suc, ℤ, pos, length, Ok}
use Rattle.std.proofs.Common.{ap, ◌∙◌}
use Rattle.std.specs.Int.Signed.{le_z}
use Rattle.lists.specs.Lists.{all, filter, any, or_else, flat_map, first_hit}
use Rattle.lists.specs.Tests.{all_below}
use Rattle.lists.specs.Count.{count_below}
use Rattle.lists.specs.Booleans.{and_left, and_right}
use Rattle.rules.specs.declared.Call.{Call}
use Rattle.rules.specs.Page.{◌⊕◌, opposite}
use Rattle.rules.specs.Codes.{states_in, colours_in, clues_in, puzzle_in}
use Rattle.rules.specs.Rules.{one_colour, joins_block, joins_unit}
use Rattle.rules.specs.Groups.{labels, entry, is_first, numbers, group_count, members, joins_potential}
use Rattle.rules.specs.Reasons.{gather, inside_at, inside, edge_at, edge, is_found, trace, look, hunt, path}
use Rattle.rules.specs.Turns.{apply}
use Rattle.rules.specs.Shapes.{same_points, insert, sort, shift_by, normal, turned, connections_at, shape_of, with_half}
use Rattle.rules.specs.Shapes.{quarters, with_quarter, with_flip, flat_transforms}
use Rattle.rules.specs.Check.{check, hit_if, block_clue, inside_block, inside_unit, edge_of, size_of}
use Rattle.rules.specs.Check.{coloured, stray_from, cell_hit, cell_hits, small_hit, big_hit, clue_hit, block_hit_on}
use Rattle.rules.specs.Check.{block_hit}
use Rattle.rules.specs.Check.{wall_hit, wall_hits, touches, adjacent, mates, judge, laid, transforms_of, placements}
use Rattle.rules.specs.Check.{far_walls_at, far_walls, unit_reason, unit_hit_in, unit_hit_on, unit_hit, hit}
use Rattle.rules.specs.Check.{once, undecided_count}
use Rattle.rules.specs.Flat.{flat, cell_at, right_of, below_of, border_count, hop_if, hop_above, hop_below, hop_left}
use Rattle.rules.specs.Flat.{hop_right, around_at, ahead_at, flat_first, flat_second, flat_place, flat_reads_at}
use Rattle.rules.specs.Flat.{flat_reads}
use Rattle.rules.specs.Book.{Asked, ask, Reply, states, names, without_last, done_book}
use Rattle.rules.specs.Book.{tally_at, decide_reply, check_reply, reply_to, after, replies_from, tallies_from}
use Rattle.rules.specs.Book.{replies, tallies}
use Rattle.board.specs.Alien.{size_right, colours_right, clues_right}
use Rattle.board.specs.Board.{puzzle_refusal, fresh_of, SmallClues}
use Rattle.board.specs.Accepted.{made_board}
use Rattle.demand3.specs.Runs.{lend, asked_by}
use Rattle.demand3.specs.Demand3.{Demand3}
use Rattle.demand3.proofs.Demand3Laws.{demand3}
use Rattle.demand3.specs.SmallRuns.{RunAnswers, recorded, lent_with, asks_with, pair_clues, recorded_puzzle, SmallRuns}

pub asked-lent : (m : List ℕ) (calls : List Call) → map asked_by (map (lend m) calls) ≡ map (ask (length m)) calls
asked-lent m [] = refl
asked-lent m (c ∷ calls) = ap (λ (asked : List Asked). ask (length m) c ∷ asked) (asked-lent m calls)

pub small-clues : (ks : List ℤ) → all (λ k. le_z k (pos 2147483647)) ks ≡ true → SmallClues ks
unfolding all
small-clues [] e i = refl
small-clues (k ∷ ks) e zero = and_left (le_z k (pos 2147483647)) (all (λ j. le_z j (pos 2147483647)) ks) e
small-clues (k ∷ ks) e (suc i) =
    small-clues ks (and_right (le_z k (pos 2147483647)) (all (λ j. le_z j (pos 2147483647)) ks) e) i

run-answers : {h w : ℕ} {cs : List ℕ} {ks : List ℤ} {calls : List Call} {rs : List Reply}
    → all (λ k. le_z k (pos 2147483647)) ks ≡ true → (fresh_of h w cs ks).outcome ≡ Ok tt
    → replies (puzzle_in h w cs ks) (map (ask 1984) calls) ≡ rs → RunAnswers h w cs ks calls rs
run-answers {h} {w} {cs} {ks} {calls} s a e =
    record {
      answers =
          λ m p.
          (demand3 h w cs ks (record { small = small-clues ks s; made = a }) (map (lend m) calls)).answers
          ∙ ap (replies (puzzle_in h w cs ks)) (asked-lent m calls ∙ ap (λ n. map (ask n) calls) p)
          ∙ e;
    }

recorded-holds : (fresh_of 1 2 (0 ∷ 1 ∷ []) pair_clues).outcome ≡ Ok tt → (m : List ℕ)
    → Demand3 (made_board 1 2 (0 ∷ 1 ∷ []) pair_clues) recorded_puzzle (map (lent_with m) recorded)
unfolding all
recorded-holds a m =
    demand3 1 2 (0 ∷ 1 ∷ []) pair_clues (record { small = small-clues pair_clues refl; made = a })
    (map (lent_with m) recorded)

pub small-runs : SmallRuns
unfolding filter any all or_else flat_map first_hit count_below ◌⊕◌ opposite states_in colours_in clues_in
    one_colour joins_block
    joins_unit labels entry is_first numbers group_count members joins_potential gather inside_at inside edge_at
    edge is_found
    trace look hunt path apply same_points insert sort shift_by normal turned connections_at shape_of with_half quarters
    with_quarter with_flip flat_transforms check hit_if block_clue inside_block inside_unit edge_of size_of
    coloured stray_from
    cell_hit cell_hits small_hit big_hit clue_hit block_hit_on block_hit wall_hit wall_hits touches adjacent
    mates judge laid
    transforms_of placements far_walls_at far_walls unit_reason unit_hit_in unit_hit_on unit_hit hit once
    undecided_count flat
    cell_at right_of below_of border_count hop_if hop_above hop_below hop_left hop_right around_at ahead_at
    flat_first flat_second
    flat_place flat_reads_at flat_reads states names without_last done_book tally_at decide_reply check_reply
    reply_to after
    replies_from tallies_from fresh_of puzzle_refusal size_right colours_right clues_right all_below
small-runs =
    record {
      one-cell-empty = run-answers refl refl refl;
      one-colour-empty = run-answers refl refl refl;
      page = run-answers refl refl refl;
      clue-one-passes = run-answers refl refl refl;
      clue-zero-empty = run-answers refl refl refl;
      clue-two-empty = run-answers refl refl refl;
      both-open = run-answers refl refl refl;
      four-passes = run-answers refl refl refl;
      four-wall = run-answers refl refl refl;
      four-once = run-answers refl refl refl;
      wall-in-block = run-answers refl refl refl;
      refusals = run-answers refl refl refl;
      previews = run-answers refl refl refl;
      lent-answers =
          λ m p.
          (recorded-holds refl m).answers ∙ ap (λ n. replies recorded_puzzle (map (asks_with n) recorded)) p ∙ refl;
      lent-records =
          λ m p.
          (recorded-holds refl m).records ∙ ap (λ n. tallies recorded_puzzle (map (asks_with n) recorded)) p ∙ refl;
    }
