pub mod History
pub mod Moments
pub mod Serving
pub mod Sheets
pub mod Places
pub mod Passing
pub mod Promised
