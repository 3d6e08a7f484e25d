pub mod Unique
pub mod DemandLaws
