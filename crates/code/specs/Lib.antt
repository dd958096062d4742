pub mod Messages
pub mod Meaning
pub mod Score
pub mod Rule
pub mod Answers
pub mod Rising
