pub mod Powers
pub mod Parts
pub mod Written
pub mod Gathered
pub mod Lifted
pub mod Risen
pub mod Listed
