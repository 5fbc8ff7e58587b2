-- What the proofs of the reader cite.
pub mod Turns
pub mod Answers
