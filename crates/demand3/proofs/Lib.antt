pub mod Demand3Laws
pub mod RunLaws
pub mod RunWitnessLaws
pub mod SmallRunLaws
