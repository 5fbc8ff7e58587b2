-- What the proofs of several functions share.
pub mod Rows
pub mod Vectors
pub mod Sizes
pub mod Recorded
pub mod Pages
