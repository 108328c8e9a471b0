pub mod Packed
pub mod Lawful
pub mod Ends
pub mod Reads
pub mod Writes
pub mod Examples
