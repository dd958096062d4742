pub mod Checks
pub mod Made
pub mod Buffers
pub mod Turns
pub mod Counts
