pub mod Empty
pub mod Numbers
pub mod Questions
pub mod Check
pub mod Books
pub mod Reads
pub mod Sound
