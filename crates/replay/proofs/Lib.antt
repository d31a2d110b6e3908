pub mod Laws
pub mod Reading
pub mod Renders
pub mod RoundTrip
pub mod Tables
pub mod Taking
