pub mod Width
pub mod Rows
pub mod Texts
pub mod Characters
pub mod Outcomes
pub mod Lines
