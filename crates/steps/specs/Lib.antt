pub mod Found
pub mod HitLaws
pub mod LateLaws
