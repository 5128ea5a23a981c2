-- Lists stored one after the other.
use Rattle.std.specs.Prelude.{◌≡◌, List, [], ◌∷◌, ◌++◌, ℕ, ◌+◌, ◌≤◌, length, drop}
use Rattle.std.proofs.Common.{sym, ◌∙◌, zero-add, arith, length-append}
use Rattle.std.proofs.lemmas.List.Edits.{sets}
use Rattle.std.proofs.Math.Seq.{sets-eq}
use Rattle.lists.specs.Stores.{sets-append}

pub stored-front : (m vs : List ℕ) → length vs ≤ length m → vs ++ drop (length vs) m ≡ sets m 0 vs
stored-front m vs h = rw (zero-add (length vs)) at (sym (sets-eq vs m 0 (omega (arith, h))))

-- a grouping's four parts
pub four-parts : (m ns cs ss : List ℕ) (k : ℕ) → length ns ≡ 1024 → length cs ≡ 1024 → length ss ≡ 1025
    → sets (sets (sets (sets m 0 ns) 1024 cs) 2048 ss) 3073 (k ∷ []) ≡ sets m 0 (ns ++ (cs ++ (ss ++ (k ∷ []))))
four-parts m ns cs ss k a b c =
    let x = sets-append m 0 ns (cs ++ (ss ++ (k ∷ []))) in
    let y = sets-append (sets m 0 ns) 1024 cs (ss ++ (k ∷ [])) in
    let z = sets-append (sets (sets m 0 ns) 1024 cs) 2048 ss (k ∷ []) in
    sym ((rw a at x) ∙ (rw b at y) ∙ (rw c at z))

pub four-length : (ns cs ss : List ℕ) (k : ℕ) → length ns ≡ 1024 → length cs ≡ 1024 → length ss ≡ 1025
    → 3074 ≡ length (ns ++ (cs ++ (ss ++ (k ∷ []))))
four-length ns cs ss k a b c =
    omega (
      arith,
      a,
      b,
      c,
      length-append ns (cs ++ (ss ++ (k ∷ []))),
      length-append cs (ss ++ (k ∷ [])),
      length-append ss (k ∷ []),
    )
