-- What the memory of the search holds between two units.
--
--   Nearby near         where the list has not 0 at p, it has a potential unit adjacent to p, raised by 1
--   Adjoined n          each of the first n potential units has an adjacent one
--   HeldOf .. q p m     the planes of the page, and the mask of the cells of the potential units adjacent to q; the
--                       last place of the mask is q + 1
--   Held .. p m         nothing yet, and the last place of the mask is 0; or what is held of the potential unit there
use Rattle.std.specs.Prelude.{◌≡◌, List, ℕ, ◌+◌, ◌<◌, length, get_or, replicate}
use Rattle.lists.specs.Lists.{◌∈◌}
use Rattle.rules.specs.Codes.{states_in, unclued}
use Rattle.rules.specs.Check.{mates}
use Rattle.groups.specs.declared.Grouping.{Grouping}
use Rattle.groups.specs.Grouping.{cells_in, starts_in}
use Rattle.planes.specs.Planes.{planes_of}
use Rattle.planes.specs.Masks.{Masked, origins_in}

pub record Nearby (h w : ℕ) (cs bs near : List ℕ) : Type 0 where
  pub long : length near ≡ 1024
  pub some : (p q : ℕ) → get_or near p 0 ≡ q + 1 → q ∈ mates (unclued h w cs) (states_in bs) p

pub record Adjoined (h w : ℕ) (cs bs : List ℕ) (n : ℕ) : Type 0 where
  pub each : (p : ℕ) → p < n → (q : ℕ) × (q ∈ mates (unclued h w cs) (states_in bs) p)

module _ (h w : ℕ) (cs bs : List ℕ) (ps : Grouping) where
  pub record HeldOf (q : ℕ) (p m : List ℕ) : Type 0 where
    pub planes : p ≡ planes_of h w cs bs
    pub mask : Masked w (origins_in (cells_in ps) (starts_in ps) (mates (unclued h w cs) (states_in bs) q)) m
    pub name : get_or m 32 0 ≡ q + 1

  pub record Held (p m : List ℕ) : Type 0 where
    pub long : length p ≡ 192
    pub size : length m ≡ 33
    pub none : get_or m 32 0 ≡ 0 → p ≡ replicate 192 0
    pub some : (q : ℕ) → get_or m 32 0 ≡ q + 1 → HeldOf q p m
