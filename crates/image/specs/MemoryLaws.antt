-- Reason memory beside an image: codes stored one after the other, and a reason's literals from the codes that
-- stand for them.
use Rattle.std.specs.Prelude.{◌≡◌, refl, List, map, ℕ, ◌+◌, ◌*◌, ◌<◌, ◌≤◌, length, get_or, take}
use Rattle.std.proofs.Common.{ap, ap₂, sym, ◌∙◌, arith}
use Rattle.std.proofs.lemmas.List.{length-map}
use Rattle.std.proofs.lemmas.List.Edits.{sets}
use Rattle.std.proofs.Math.Seq.{length-sets}
use Rattle.lists.specs.Lists.{flat_map}
use Rattle.lists.specs.Stores.{sets-flat-more, take-sets}
use Rattle.rules.specs.declared.Literal.{Literal}
use Rattle.rules.specs.Codes.{literal_code, put}
use Rattle.image.specs.Image.{two_bytes, put_codes, put_bytes}
use Rattle.image.specs.ByteLaws.{two-long}

pub codes-none : (m codes : List ℕ) → m ≡ put_codes m codes 0
unfolding put_codes flat_map
codes-none m codes = refl

pub length-put-codes : (m codes : List ℕ) (i : ℕ) → length (put_codes m codes i) ≡ length m
unfolding put_codes
length-put-codes m codes i = length-sets m 0 (flat_map two_bytes (take i codes))

-- one code more is stored
pub codes-more : (m codes : List ℕ) (i : ℕ) → i < length codes
    → sets (put_codes m codes i) (2 * i) (two_bytes (get_or codes i 0)) ≡ put_codes m codes (i + 1)
unfolding put_codes
codes-more m codes i h =
    let e : 2 * i ≡ 0 + 2 * i = omega arith in
    ap (λ j. sets (put_codes m codes i) j (two_bytes (get_or codes i 0))) e
    ∙ sets-flat-more two_bytes 2 two-long m 0 codes i 0 h

-- where codes holds the literals ls from its start on, their bytes are the reason's
pub codes-put : (m codes before : List ℕ) (ls : List Literal) → length ls ≤ length before → codes ≡ put before 0 ls
    → put_codes m codes (length ls) ≡ put_bytes m ls
unfolding put put_codes put_bytes
codes-put m codes before ls h e =
    let k = length-map ls literal_code in
    ap (λ (l : List ℕ). sets m 0 (flat_map two_bytes l))
    (ap₂ (λ (j : ℕ) (l : List ℕ). take j l) (sym k) e ∙ take-sets before (map literal_code ls) (omega arith))
