-- How to read these files: ground's specs/Lib.
pub mod Segment
pub mod Answers
pub mod Examples
-- Inner, no part of document 01:
pub mod Lent
