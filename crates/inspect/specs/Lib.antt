-- What the contracts of this crate cite of their own.
pub mod Seen
pub mod Looked
