-- How to read these files: ground's specs/Lib.
pub mod Job
pub mod Checks
-- Inner, no part of document 01:
pub mod Inner
