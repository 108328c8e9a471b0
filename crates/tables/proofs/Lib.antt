pub mod Tops
pub mod Clean
pub mod Growing
