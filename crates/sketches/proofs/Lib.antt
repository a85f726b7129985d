pub mod Unknown
pub mod Given
pub mod Grown
pub mod Placings
pub mod Finished
pub mod Reading
pub mod Entered
pub mod Laws
