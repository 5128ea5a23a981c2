pub mod Produced
pub mod Reach
