pub mod Monomials
pub mod First
pub mod Steps
