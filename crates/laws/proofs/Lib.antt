pub mod FlatOnce
pub mod FlatShapes
pub mod Sums
pub mod TableRules
