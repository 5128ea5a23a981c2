pub mod AlienLaws
pub mod HostLaws
pub mod MakingLaws
