pub mod Walk
pub mod Scan
pub mod Division
