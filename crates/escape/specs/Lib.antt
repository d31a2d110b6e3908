pub mod Reader
pub mod Grammar
pub mod Reading
pub mod Pieces
