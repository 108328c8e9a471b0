pub mod Writer
pub mod Handing
pub mod Runs
pub mod Counts
pub mod Holds
pub mod ReadBack
pub mod Law
