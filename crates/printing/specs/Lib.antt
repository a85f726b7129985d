pub mod Numerals
pub mod Lines
pub mod Sinks
pub mod SinkLaws
