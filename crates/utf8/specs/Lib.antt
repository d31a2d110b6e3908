pub mod Rfc
