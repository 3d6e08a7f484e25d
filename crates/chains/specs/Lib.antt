-- How to read these files: ground's specs/Lib.
pub mod Chain
pub mod Least
