-- What the proofs of several functions share.
pub mod OneMore
pub mod Steps
pub mod Extremes
pub mod Record
pub mod Listed
pub mod Packed
pub mod Stored
pub mod Whole
pub mod Kept
