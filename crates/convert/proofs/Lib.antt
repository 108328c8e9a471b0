pub mod Bytes
pub mod Allowed
pub mod Together
pub mod Going
pub mod Counting
pub mod Few
