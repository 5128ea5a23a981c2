-- What a host does with the exported calls is a list of single calls that meets demand 3.
--
--   series-image, series-heard    a list of calls in one call: image and what is told are those of its single calls
--   series-stop                   the call after them, if there is one, is refused
--   host-demand                   demand 3 for every list of a host's calls, from the image of a fresh board
use Rattle.std.specs.Prelude.{◌≡◌, Bool, cond, ℕ, suc, ◌<◌, eqb, ℤ, length, get_or, take, replicate}
use Rattle.std.proofs.Math.Path.{refl, ap₂}
use Rattle.std.proofs.Common.{ap, sym, ◌∙◌, arith, eqb-true}
use Rattle.std.proofs.Math.Bool.{true, false}
use mathlib.Core.List.{List, [], ◌∷◌, ◌++◌, map}
use Rattle.std.proofs.lemmas.Bool.{eqb-false}
use Rattle.board.specs.Accepted.{Accepted, made_board}
use Rattle.rules.specs.Codes.{puzzle_in}
use Rattle.image.specs.Image.{image_of, image_number, image_after}
use Rattle.image.specs.Runs.{Sent, altering, sent_image, Got, got, got_by, image_run, image_from}
use Rattle.image.specs.Series.{code_call, done_of, image_done}
use Rattle.image.specs.Hosts.{HostCall, single, series, singles, heard, host_image, singles_from, heard_from}
use Rattle.image.specs.Hosts.{host_from, HostDemand}
use Rattle.image.specs.RunLaws.{image-demand}

-- ---- a list of calls in one call
abbrev done : Got
done = got 0 []

module _ (s : List ℕ) (c : ℕ) (codes : List ℕ) where
  -- the image after the first call
  abbrev next : List ℕ
  next = image_after s (code_call c)

  -- how many are done, where t says whether the first is
  abbrev count : Bool → ℕ
  count t = cond t (suc (done_of next codes)) 0

  -- their single calls
  abbrev made : Bool → List Sent
  made t = map (λ d. altering (code_call d)) (take (count t) (c ∷ codes))

  first-image : (t : Bool) → image_done next codes ≡ image_from next (singles next (series codes))
      → cond t (image_done next codes) s ≡ image_from s (made t)
  unfolding image_from
  first-image true e = e
  first-image false e = refl

  first-heard : (t : Bool) → eqb (image_number s (code_call c)) 0 ≡ t
      → heard next (series codes) ≡ image_run next (singles next (series codes))
      → replicate (count t) done ≡ image_run s (made t)
  unfolding image_run
  first-heard true q e =
      ap₂ (λ (n : ℕ) (l : List Got). got n [] ∷ l)
      (sym (eqb-true (image_number s (code_call c)) 0 q)) e
  first-heard false q e = refl

  first-stop : (t : Bool) → eqb (image_number s (code_call c)) 0 ≡ t
      → (done_of next codes < length codes
      → image_number (image_done next codes) (code_call (get_or codes (done_of next codes) 0)) ≡ 0 → ⊥)
      → count t < length (c ∷ codes)
      → image_number (cond t (image_done next codes) s) (code_call (get_or (c ∷ codes) (count t) 0)) ≡ 0
      → ⊥
  first-stop true q f l z = f (omega arith) z
  first-stop false q f l z = eqb-false (image_number s (code_call c)) 0 q z

pub series-image : (s codes : List ℕ) → image_done s codes ≡ image_from s (singles s (series codes))
unfolding image_done done_of image_from
series-image s [] = refl
series-image s (c ∷ codes) =
    first-image s c codes (eqb (image_number s (code_call c)) 0) (series-image (image_after s (code_call c)) codes)

pub series-heard : (s codes : List ℕ) → heard s (series codes) ≡ image_run s (singles s (series codes))
unfolding done_of image_run
series-heard s [] = refl
series-heard s (c ∷ codes) =
    first-heard s c codes (eqb (image_number s (code_call c)) 0) refl (series-heard (image_after s (code_call c)) codes)

pub series-stop : (s codes : List ℕ) → done_of s codes < length codes
    → image_number (image_done s codes) (code_call (get_or codes (done_of s codes) 0)) ≡ 0 → ⊥
unfolding image_done done_of
series-stop s [] l z = omega arith
series-stop s (c ∷ codes) l z =
    first-stop s c codes (eqb (image_number s (code_call c)) 0) refl
    (series-stop (image_after s (code_call c)) codes) l z

-- ---- a list of a host's calls
run-append : (s : List ℕ) (a b : List Sent) → image_run s (a ++ b) ≡ image_run s a ++ image_run (image_from s a) b
unfolding image_run image_from
run-append s [] b = refl
run-append s (c ∷ a) b =
    ap (λ (l : List Got). got_by s c ∷ l) (run-append (sent_image s c) a b)

from-append : (s : List ℕ) (a b : List Sent) → image_from s (a ++ b) ≡ image_from (image_from s a) b
unfolding image_from
from-append s [] b = refl
from-append s (c ∷ a) b = from-append (sent_image s c) a b

call-image : (s : List ℕ) (c : HostCall) → host_image s c ≡ image_from s (singles s c)
unfolding image_from
call-image s (single c) = refl
call-image s (series codes) = series-image s codes

call-heard : (s : List ℕ) (c : HostCall) → heard s c ≡ image_run s (singles s c)
unfolding image_run
call-heard s (single c) = refl
call-heard s (series codes) = series-heard s codes

pub host-image : (s : List ℕ) (calls : List HostCall) → host_from s calls ≡ image_from s (singles_from s calls)
unfolding host_from singles_from image_from
host-image s [] = refl
host-image s (c ∷ calls) =
    host-image (host_image s c) calls
    ∙ ap (λ (t : List ℕ). image_from t (singles_from (host_image s c) calls)) (call-image s c)
    ∙ sym (from-append s (singles s c) (singles_from (host_image s c) calls))

pub host-heard : (s : List ℕ) (calls : List HostCall) → heard_from s calls ≡ image_run s (singles_from s calls)
unfolding heard_from singles_from image_run
host-heard s [] = refl
host-heard s (c ∷ calls) =
    ap₂ (λ (a b : List Got). a ++ b) (call-heard s c)
    (host-heard (host_image s c) calls
    ∙ ap (λ (t : List ℕ). image_run t (singles_from (host_image s c) calls)) (call-image s c))
    ∙ sym (run-append s (singles s c) (singles_from (host_image s c) calls))

pub host-demand : (h w : ℕ) (cs : List ℕ) (ks : List ℤ) → Accepted h w cs ks → (calls : List HostCall)
    → HostDemand (image_of (made_board h w cs ks)) (made_board h w cs ks) (puzzle_in h w cs ks) calls
host-demand h w cs ks A calls =
    let s = image_of (made_board h w cs ks) in
    record {
      demand = image-demand h w cs ks A (singles_from s calls);
      answers = host-heard s calls;
      image = host-image s calls;
    }
