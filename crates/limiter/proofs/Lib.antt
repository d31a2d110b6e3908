pub mod Rationing
pub mod Pacing
pub mod Examples
