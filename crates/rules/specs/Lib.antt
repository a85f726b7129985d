pub mod Contents
pub mod Decoding
pub mod Scenes
pub mod Outcomes
pub mod PackSteps
pub mod Rules
pub mod Applying
