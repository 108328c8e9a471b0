pub mod Handed
pub mod Eventful
pub mod Going
pub mod Calling
