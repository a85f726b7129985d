pub mod Asked
pub mod Readings
pub mod Packs
pub mod Layers
pub mod Instances
pub mod BareLaws
pub mod LaidLaws
