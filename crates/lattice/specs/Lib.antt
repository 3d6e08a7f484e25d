-- How to read these files: ground's specs/Lib.
pub mod Words
pub mod Lattice
pub mod Rows
pub mod Accepted
pub mod Rules
pub mod Size
-- Inner, no part of document 01:
pub mod Inner
