pub mod Instances
pub mod Judging
pub mod Passing
