pub mod Scale
pub mod Turn
pub mod Fields
