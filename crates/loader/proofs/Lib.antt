pub mod Allowed
pub mod Running
pub mod Settling
