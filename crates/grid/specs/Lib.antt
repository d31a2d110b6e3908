pub mod Panes
pub mod Grids
