pub mod WorkLaws
pub mod JobLaws
pub mod Examples
