pub mod Copies
pub mod Handing
pub mod Surveys
pub mod Wholes
