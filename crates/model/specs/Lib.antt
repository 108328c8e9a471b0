pub mod Events
pub mod Reading
pub mod Graph
