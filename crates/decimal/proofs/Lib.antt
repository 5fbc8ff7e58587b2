pub mod Entries
pub mod Products
pub mod Powers
pub mod Halves
pub mod Rounding
pub mod Exceptions
pub mod Turns
