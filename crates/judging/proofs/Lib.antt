pub mod Everys
pub mod Clauses
pub mod Carries
