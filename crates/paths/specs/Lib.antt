pub mod Paths
pub mod Ground
pub mod Calls
pub mod History
pub mod Told
pub mod Law
