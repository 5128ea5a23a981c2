-- `block_fault` meets its contract: one cell's fault; what one look settles; else no cell has a fault, and the census
-- tells.
use Rattle.std.proofs.Common.{ap, ◌∙◌, arith, Bool, false, true, ◌<◌, ◌≤◌, ◌+◌, get_or}
use Rattle.rules.specs.Codes.{colours_in, clues_in}
use Rattle.rules.specs.Groups.{entry}
use Rattle.groups.specs.Grouping.{numbers_in, starts_in}
use Rattle.blocks.specs.Arrays.{size_in}
use Rattle.blocks.specs.Censuses.{colour_unit, colour_part, census_of}
use Rattle.blocks.specs.LoneCases.{lone-fault, single-cell}
use Rattle.blocks.specs.FaultCases.{fault-census, own-parted}
use Rattle.blocks.proofs.faults.block_fault.Goals.{After-census-t}
use Rattle.blocks.proofs.faults.block_fault.Goals as goal

pub returns-in-len1 : goal.returns-in-len1
returns-in-len1 c =
    let a = c.args in
    c.lone_fault.ensures
    ∙ rw (single-cell a.cells.now (omega arith), c.from.ensures)
    (lone-fault (clues_in a.clues.now) (entry (numbers_in a.potential.now)) (size_in (starts_in a.potential.now))
    (colours_in a.colours.now) (get_or a.cells.now 0 0))

-- the potential unit of a colour's first cell has a size
parted : (c : After-census-t) → (colour : Bool)
    → let a = c.args in
    let u = colour_unit (colours_in a.colours.now) (clues_in a.clues.now) (entry (numbers_in a.potential.now))
    a.cells.now colour in
    (u < 1024) × (get_or (starts_in a.potential.now) u 0 ≤ get_or (starts_in a.potential.now) (u + 1) 0)
parted c =
    let a = c.args in
    own-parted (colours_in a.colours.now) (clues_in a.clues.now) (numbers_in a.potential.now)
    (starts_in a.potential.now) a.cells.now c.requires.1

pub size_of-requires : goal.size_of-requires
unfolding census_of colour_part
size_of-requires c =
    rw (ap (λ t. t.zero.unit) c.census-t.ensures) (parted (goal.at.size_of-requires c).After-census-t false)

pub size_of-requires-in-Unsure : goal.size_of-requires-in-Unsure
unfolding census_of colour_part
size_of-requires-in-Unsure c =
    rw (ap (λ t. t.one.unit) c.census-t.ensures) (parted (goal.at.size_of-requires-in-Unsure c).After-census-t true)

pub returns-in-Unsure : goal.returns-in-Unsure
returns-in-Unsure c =
    let a = c.args in
    c.census_fault.ensures
    ∙ rw (c.size_of-in-Unsure.ensures, c.size_of.ensures)
    (fault-census (colours_in a.colours.now) (clues_in a.clues.now) (entry (numbers_in a.potential.now))
    (size_in (starts_in a.potential.now)) a.cells.now _ c.census-t.ensures c.in-Unsure.ensures)
