pub mod Meanings
pub mod Worlds
