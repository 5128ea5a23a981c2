pub mod DemandLaws
pub mod FlatDemand
pub mod WitnessLaws
