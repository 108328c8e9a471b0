pub mod Passing
pub mod Bare
pub mod Calling
