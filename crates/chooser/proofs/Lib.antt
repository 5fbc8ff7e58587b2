-- What the proofs of several functions share.
pub mod Floor
pub mod Looking
pub mod Order
pub mod Rows
