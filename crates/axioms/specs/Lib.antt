pub mod Valid
pub mod InWords
pub mod Steps
pub mod Unlawful
pub mod Axioms
pub mod Written
pub mod WrittenSteps
