-- How a job lies in the recorded list, and when the library's answer is the recorded one. ground's specs/Lib.antt says how to read these files.
pub mod Numbers
pub mod Head
pub mod Lent
pub mod Given
pub mod Same
pub mod List
