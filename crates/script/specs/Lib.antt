pub mod Cuts
pub mod Escapes
pub mod Numbers
pub mod Scripts
