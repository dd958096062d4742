pub mod Wrote
pub mod Letters
pub mod Fronts
pub mod Chosen
pub mod Bounds
pub mod Held
pub mod Texts
