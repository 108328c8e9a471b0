pub mod Stacks
pub mod Growing
