-- How to read these files: ground's specs/Lib. Promise says what a caller may lean on, and Demand3 what follows from it for the words. What they
-- name stands, in this order, in the chains' Chain and Least, the segmenter's Segment and Answers, the checks' Job and Checks, the walk's WordRows
-- and WalkBack, the lattice's Words, Lattice and Rows, and ground's files.
pub mod Promise
pub mod Demand3
