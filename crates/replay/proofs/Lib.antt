pub mod TestLaws
pub mod ToldLaws
pub mod JobLaws
