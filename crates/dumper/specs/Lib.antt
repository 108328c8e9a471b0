pub mod Answers
pub mod Handing
pub mod Names
pub mod Steps
pub mod States
pub mod Calls
