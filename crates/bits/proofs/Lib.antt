-- What the proofs of several functions share.
pub mod Above
pub mod Fetched
pub mod Laws
pub mod WholeWords
pub mod WordLists
pub mod Room
pub mod Spelled
pub mod Zeros
