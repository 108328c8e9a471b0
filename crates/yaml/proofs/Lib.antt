pub mod Gives
pub mod Takes
pub mod Puts
