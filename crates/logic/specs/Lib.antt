pub mod Modalities
pub mod Models
pub mod ModelRules
pub mod Formulas
pub mod Facts
pub mod Truth
pub mod Stored
pub mod Tables
