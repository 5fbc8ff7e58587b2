-- What the contracts of this crate cite of their own.
pub mod Vectors
pub mod Seen
pub mod Records
