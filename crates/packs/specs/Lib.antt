pub mod ISsMeaning
pub mod C2pMeaning
pub mod DelCMeaning
pub mod RsMeaning
pub mod Tests
pub mod Laws
