pub mod Standard
pub mod Heads
