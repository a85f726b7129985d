pub mod Tests
pub mod Truths
