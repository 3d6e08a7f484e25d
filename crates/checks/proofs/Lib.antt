pub mod CheckLaws
pub mod SweepLaws
