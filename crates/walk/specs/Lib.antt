-- How to read these files: ground's specs/Lib.
pub mod WalkBack
pub mod WordRows
-- Inner, no part of document 01:
pub mod Inner
