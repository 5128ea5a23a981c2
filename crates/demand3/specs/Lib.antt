pub mod Runs
pub mod Demand3
pub mod SmallRuns
pub mod RunWitness
