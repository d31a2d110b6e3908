pub mod Bytes
pub mod Cutting
