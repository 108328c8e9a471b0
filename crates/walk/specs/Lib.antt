pub mod Entries
pub mod Names
pub mod Looks
pub mod Counting
pub mod Going
pub mod Plans
