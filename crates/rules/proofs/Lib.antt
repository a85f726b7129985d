pub mod Inversions
pub mod Computes
