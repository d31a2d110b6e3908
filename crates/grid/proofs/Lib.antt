pub mod Panes
pub mod Writing
