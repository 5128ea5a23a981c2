pub mod CaseLaws
pub mod SetsLaws
