pub mod WholeWayComputed
