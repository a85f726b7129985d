pub mod Seen
pub mod Sets
pub mod Firsts
pub mod Judgements
pub mod Examined
