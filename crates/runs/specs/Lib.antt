pub mod Sets
pub mod Sure
pub mod Sizes
pub mod Results
pub mod SideTables
