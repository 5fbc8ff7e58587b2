-- What the contracts of this crate cite of their own.
pub mod Settled
pub mod Recorded
