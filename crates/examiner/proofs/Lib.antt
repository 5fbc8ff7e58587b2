-- What the proofs of the examiner's functions share.
pub mod Turns
