pub mod Above
pub mod Fetched
pub mod Room
pub mod Words
