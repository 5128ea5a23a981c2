pub mod DecideLaws
pub mod FreshLaws
pub mod LiteralLaws
pub mod StepLaws
pub mod ViewLaws
