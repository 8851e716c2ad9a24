pub mod Computed
pub mod Distances
