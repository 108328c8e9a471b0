pub mod Readings
pub mod Alike
