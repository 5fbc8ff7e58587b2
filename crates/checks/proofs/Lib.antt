-- The laws that the proofs of several functions share; crates above cite them too.
pub mod Bounds
pub mod Refusals
pub mod Sums
pub mod Turns
