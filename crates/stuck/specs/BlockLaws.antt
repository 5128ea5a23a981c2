-- The blockers of one image: those of its survivors are those of all its placements.
use Rattle.std.specs.Prelude.{◌≡◌, List, ℕ}
use Rattle.lists.specs.Lists.{flat_map}
use Rattle.rules.specs.Codes.{states_in, unclued}
use Rattle.rules.specs.Page.{Point}
use Rattle.groups.specs.declared.Grouping.{Grouping}
use Rattle.groups.specs.Grouping.{cells_in, starts_in}
use Rattle.groups.specs.Pages.{Drawn}
use Rattle.groups.specs.Parts.{part_of}
use Rattle.shapes.specs.Raising.{Raised, spelled}
use Rattle.adjacent.specs.Mates.{mates_in, Beside}
use Rattle.planes.specs.Placing.{bare}
use Rattle.planes.specs.Laying.{blocks_beside}
use Rattle.planes.specs.Masks.{Masked, origins_in}
use Rattle.planes.specs.Planes.{planes_of}
use Rattle.stuck.specs.Survivors.{Survived, Lain, no_walls, block_in}
use Rattle.stuck.specs.SurvivorLaws.{lain, blocks-same}

-- q are the planes of the colours, m is the mask of the origins
module _ {h w : ℕ} {cs : List ℕ} (d : Drawn h w cs) (bs ts : List ℕ) (n : ℕ) (r : Raised ts n)
    {q m rows : List ℕ} (e : q ≡ planes_of h w cs no_walls) (v : Survived q m h ts n rows) where
  survived : Survived (planes_of h w cs no_walls) m h ts n rows
  survived = rw e at v

  pub lain-rows : Lain h w rows ts n
  lain-rows = lain d bs ts n r survived

  pub blocks-row : {potential : Grouping} {mates : List ℕ} → Beside h w potential mates
      → Masked w (origins_in (cells_in potential) (starts_in potential) (mates_in mates)) m
      → {js : List Point} → spelled ts n ≡ js
      → flat_map (λ Q. flat_map (block_in h w bs rows ts n) (part_of (cells_in potential) (starts_in potential) Q))
      (mates_in mates)
      ≡ blocks_beside (unclued h w cs) (states_in bs) (bare js) (cells_in potential) (starts_in potential)
      (mates_in mates)
  blocks-row b k g = rw (← g) (blocks-same d bs ts n r b k survived)
