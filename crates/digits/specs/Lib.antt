pub mod Lists
pub mod Digits
