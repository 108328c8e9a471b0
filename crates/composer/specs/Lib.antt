pub mod Holding
pub mod Names
pub mod Opens
pub mod Refusals
pub mod State
pub mod Steps
pub mod Tags
