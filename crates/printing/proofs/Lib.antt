pub mod Decimal
pub mod Reading
pub mod Refused
