pub mod Refusals
pub mod Bytes
pub mod Files
pub mod Chains
pub mod Kinds
pub mod Readers
