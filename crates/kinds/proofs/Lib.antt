pub mod Order
pub mod NoKind
