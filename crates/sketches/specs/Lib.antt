pub mod Entries
pub mod Described
pub mod Readings
pub mod Sketches
pub mod Laws
pub mod Answers
