pub mod Escaping
pub mod Comparing
pub mod Unescaping
pub mod Guessing
pub mod Fronting
