pub mod Fronts
pub mod Laws
pub mod Chains
pub mod Readers
