pub mod WalkLaws
pub mod Passes
mod WordLaws
