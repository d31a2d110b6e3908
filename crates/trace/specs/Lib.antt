pub mod Appends
pub mod Traces
