pub mod Every
pub mod Faults
pub mod Determined
pub mod Handing
pub mod Lookups
pub mod Soundness
