pub mod Doing
pub mod Finding
pub mod Opening
