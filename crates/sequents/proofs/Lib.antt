pub mod Views
pub mod Few
