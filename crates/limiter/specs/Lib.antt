pub mod Spending
pub mod Ration
pub mod History
pub mod Standing
pub mod Course
pub mod Figures
