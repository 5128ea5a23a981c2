-- The rules of the table of eight rows, and that the turns of a flat page are the eight signed swaps.
use Rattle.std.specs.Prelude.{◌≡◌, refl, Bool, true, false, not, map, T}
use Rattle.std.proofs.Common.{sym, subst, T_not}
use Rattle.std.proofs.Math.Bool.{xor}
use Rattle.lists.specs.Lists.{◌∈◌, any, all}
use Rattle.lists.specs.ListLaws.{all-mem, mem-map, map-find}
use Rattle.lists.specs.Pairs.{pairwise, distinct-pairwise, distinct-map}
use Rattle.lists.specs.Booleans.{T-and-l, T-and-r}
use Rattle.rules.specs.Turns.{Axis, layerward, rowward, columnward, Row, Turn, apply}
use Rattle.rules.specs.Turns.{compose, plus, flat_turn, flat_table}
use Rattle.laws.specs.TurnLaws.{same_row, same_turn, has_turn, same_row→eq, same_turn-refl, has-turn, apply-inj}
use Rattle.laws.specs.TurnLaws.{both_axes, signed_swap, product, TableRules, undone, undo, composes, composition, Swaps}
use Rattle.std.proofs.Math.Path.{◌≡◌, refl, sym}
use Rattle.std.proofs.Common.{subst}
use Rattle.std.specs.Prelude.{not}
use Prim.Native.Nat.{ℕ}
use Rattle.std.proofs.Math.Dec.{T}
use Rattle.lists.specs.Lists.{◌∈◌}
use Rattle.lists.specs.ListLaws.{mem-map, map-find}
use Rattle.rules.specs.Turns.{apply, flat_table}
use Rattle.rules.specs.Flat.{flat}
use Rattle.laws.specs.TurnLaws.{Swaps}

pub table-rules : TableRules flat_table
unfolding all any pairwise product xor
table-rules =
    record {
      once = distinct-pairwise (λ a. a) (λ a b. not (same_turn a b)) differ flat_table tt;
      whole = swap-listed;
      only = λ t m. all-mem signed_swap flat_table tt m;
      closed = λ a b m n. has-turn (compose a b) flat_table
          (all-mem (λ b. has_turn (compose a b) flat_table) flat_table
          (T-and-r (undone flat_table a) _ (all-mem composes flat_table composition m)) n);
      inverse = λ a m. undo flat_table a (T-and-l (undone flat_table a) _ (all-mem composes flat_table composition m));
      made = refl;
      made_of = tt;
    }
  where
    differ : (a b : Turn) → T (not (same_turn a b)) → a ≡ b → ⊥
    differ a b t e = T_not (same_turn a b) t (rw e (same_turn-refl b))

    signs : (a b : Axis) → T (both_axes a b) → (i j : Bool)
        → flat_turn (record { axis = a; minus = i }) (record { axis = b; minus = j }) ∈ flat_table
    signs rowward columnward t true true = has-turn _ flat_table tt
    signs rowward columnward t true false = has-turn _ flat_table tt
    signs rowward columnward t false true = has-turn _ flat_table tt
    signs rowward columnward t false false = has-turn _ flat_table tt
    signs columnward rowward t true true = has-turn _ flat_table tt
    signs columnward rowward t true false = has-turn _ flat_table tt
    signs columnward rowward t false true = has-turn _ flat_table tt
    signs columnward rowward t false false = has-turn _ flat_table tt
    signs layerward b t i j = absurd t
    signs rowward layerward t i j = absurd t
    signs rowward rowward t i j = absurd t
    signs columnward layerward t i j = absurd t
    signs columnward columnward t i j = absurd t

    swap-listed : (t : Turn) → T (signed_swap t) → t ∈ flat_table
    swap-listed t s =
        let l = same_row→eq t.layers (plus layerward) (T-and-l (same_row t.layers (plus layerward)) _ s) in
        let m = signs t.rows.axis t.columns.axis (T-and-r (same_row t.layers (plus layerward)) _ s)
        t.rows.minus t.columns.minus in
        subst (λ (r : Row). record { layers = r; rows = t.rows; columns = t.columns } ∈ flat_table) (sym l) m

pub table-swaps : Swaps (map apply flat_table)
table-swaps =
    record {
      whole = λ t s. mem-map apply (table-rules.whole t s);
      only = λ g m. let r = map-find apply flat_table m in (r.0, table-rules.only r.0 r.1, r.2);
      once = distinct-map apply apply-inj flat_table table-rules.once;
    }

-- "shift, quarter turns, reflection": congruence on a flat page allows the eight signed swaps and nothing else
pub flat-swaps : (h w : ℕ) → Swaps (flat h w).turns
unfolding flat
flat-swaps h w = table-swaps
