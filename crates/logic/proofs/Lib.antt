pub mod Bools
pub mod Truth
pub mod Persistence
pub mod Falling
pub mod Trees
pub mod Standings
pub mod Numbers
pub mod Facts
mod Pushes
