pub mod Alien
pub mod Board
pub mod Accepted
pub mod View
pub mod ConditionLaws
pub mod TallyLaws
pub mod Cases
pub mod NativeLaws
