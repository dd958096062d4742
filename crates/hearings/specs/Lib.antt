pub mod Writing
pub mod Lines
pub mod File
pub mod Text
pub mod Values
pub mod Readers
