pub mod Left
pub mod Transcript
pub mod BoardLaws
pub mod PageTheorem
pub mod Examples
