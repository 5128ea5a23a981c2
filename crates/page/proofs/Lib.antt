pub mod CaseLaws
pub mod JudgedLaws
