pub mod Screen
pub mod Operations
pub mod Steps
pub mod Meant
pub mod Lent
pub mod Rows
