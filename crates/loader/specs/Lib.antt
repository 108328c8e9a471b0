pub mod Loading
pub mod Loads
