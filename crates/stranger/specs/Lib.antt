pub mod BelievedMeaning
pub mod Laws
