pub mod Entries
pub mod Drafts
pub mod Reading
pub mod Laws
