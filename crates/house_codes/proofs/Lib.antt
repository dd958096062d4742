pub mod Making
pub mod Padding
