pub mod Shapes
pub mod Flow
pub mod View
pub mod Places
pub mod Puts
