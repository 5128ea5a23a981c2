pub mod Breaches
pub mod WallCases
pub mod Clean
pub mod Written
pub mod Bounds
pub mod WallHits
