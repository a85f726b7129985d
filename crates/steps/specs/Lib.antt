pub mod Waits
pub mod Branches
pub mod Memory
pub mod Held
pub mod Derivations
pub mod Verdicts
