pub mod CallLaws
pub mod CaseLaws
pub mod CountedLaws
pub mod OnceLaws
pub mod PreviewLaws
pub mod RangeLaws
