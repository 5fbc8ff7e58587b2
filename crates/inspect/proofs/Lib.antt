-- What the proofs of several functions share.
pub mod Steps
pub mod Conditions
pub mod Scans
pub mod Parts
