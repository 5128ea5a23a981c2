-- The argument behind demand 3. To read first: PageLaws of crate laws (what is asked of a page), Demand (what is
-- claimed), Checks (what check answers) and, in proofs/, DemandLaws (the claim holds).

-- what is claimed
pub mod Demand
-- the three steps are sound
pub mod Keeps
pub mod Hits
pub mod Sizes
pub mod CellScan
pub mod Sound
pub mod Paths
pub mod Walls
pub mod Crossings
pub mod Mates
-- a reason holds on its board
pub mod Forms
pub mod Held
-- steps 1 and 2 name no border twice
pub mod EarlyOnce
-- a full board that passes is a solution
pub mod Fulls
pub mod Passes
pub mod Fits
pub mod Lays
pub mod Complete
pub mod Agrees
-- the answers of check and of the book
pub mod Checks
-- flat pages
-- small boards: those of document 01, and a solution
pub mod Boards
pub mod Witness
