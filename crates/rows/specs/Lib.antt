pub mod Masks
pub mod RowsOf
pub mod Written
pub mod PlacesOf
