pub mod Letters
pub mod Pairing
pub mod Few
pub mod Feeding
pub mod Recovered
