-- Hosts: lists of all the exported calls on an image, and the single calls that they make.
--
--   HostCall            a call of a host: a single call, or a list of decides and undos in one call
--   singles s c         the single calls that it makes on the image s
--   heard s c           what it tells the host of each of them
--   host_image s c      the image afterwards
--   singles_from s cs   the single calls that a list of calls makes, from the image s on
--   heard_from s cs     what they tell
--   host_from s cs      the image after them
--   HostDemand          demand 3 for a list of a host's calls
use Rattle.std.specs.Prelude.{◌≡◌, List, [], ◌∷◌, ◌++◌, map, ℕ, take, replicate}
use Rattle.rules.specs.Page.{Puzzle}
use Rattle.board.specs.declared.Board.{Board}
use Rattle.image.specs.Runs.{Sent, altering, sent_image, Got, got, got_by, image_run, image_from}
use Rattle.image.specs.Runs.{ImageDemand}
use Rattle.image.specs.Series.{code_call, done_of, image_done}

-- "Each image call returns one number"; beyond 01, `dbchoco_calls` returns how many of its calls are done
pub data HostCall : Type 0 where
  single : Sent → HostCall
  series : List ℕ → HostCall

abbrev pub singles : List ℕ → HostCall → List Sent
singles s (single c) = c ∷ []
singles s (series codes) = map (λ c. altering (code_call c)) (take (done_of s codes) codes)

-- a call that is counted as done has returned 0
abbrev pub heard : List ℕ → HostCall → List Got
heard s (single c) = got_by s c ∷ []
heard s (series codes) = replicate (done_of s codes) (got 0 [])

abbrev pub host_image : List ℕ → HostCall → List ℕ
host_image s (single c) = sent_image s c
host_image s (series codes) = image_done s codes

-- ---- each call is made on the image that the last one left
unfoldable pub singles_from : List ℕ → List HostCall → List Sent
singles_from s [] = []
singles_from s (c ∷ calls) = singles s c ++ singles_from (host_image s c) calls

unfoldable pub heard_from : List ℕ → List HostCall → List Got
heard_from s [] = []
heard_from s (c ∷ calls) = heard s c ++ heard_from (host_image s c) calls

unfoldable pub host_from : List ℕ → List HostCall → List ℕ
host_from s [] = s
host_from s (c ∷ calls) = host_from (host_image s c) calls

-- s is the first image, start the board that making the puzzle's board returns, and Z the puzzle
pub record HostDemand (s : List ℕ) (start : Board) (Z : Puzzle) (calls : List HostCall) : Type 0 where
  -- the single calls meet demand 3
  pub demand : ImageDemand s start Z (singles_from s calls)
  -- the host hears what they give
  pub answers : heard_from s calls ≡ image_run s (singles_from s calls)
  -- the image that the host's calls leave is the one that they leave
  pub image : host_from s calls ≡ image_from s (singles_from s calls)
