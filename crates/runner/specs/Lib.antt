pub mod Answers
pub mod Runs
pub mod Stops
pub mod Reasons
