pub mod Bits
pub mod Blank
pub mod Writes
pub mod Ranges
