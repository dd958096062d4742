pub mod Values
pub mod Book
pub mod History
pub mod Promise
pub mod Words
