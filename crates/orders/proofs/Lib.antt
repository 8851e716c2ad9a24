pub mod BlockCodes
pub mod Writes
