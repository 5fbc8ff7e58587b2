-- What the proofs of one vector's reading cite.
pub mod Spans
pub mod Refusals
pub mod Answers
