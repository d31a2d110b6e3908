pub mod Deciding
pub mod Dividing
pub mod Scanning
pub mod Walking
pub mod Measuring
pub mod Counting
