pub mod Entries
pub mod Dossiers
pub mod Drafts
pub mod Laws
pub mod Answers
