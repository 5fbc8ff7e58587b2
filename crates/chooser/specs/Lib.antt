-- What the contracts of this crate cite of their own.
pub mod Forms
pub mod Trial
