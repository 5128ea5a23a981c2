pub mod CaseLaws
pub mod MemoryLaws
pub mod PathLaws
