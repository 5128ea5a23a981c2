pub mod Mates
pub mod TouchLaws
pub mod MateLaws
pub mod GatherLaws
pub mod SampleLaws
pub mod BesideLaws
pub mod Homes
pub mod HomeLaws
