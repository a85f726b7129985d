pub mod AsStored
pub mod Sequents
