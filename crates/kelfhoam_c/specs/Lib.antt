pub mod Told
pub mod Loading
pub mod Writing
