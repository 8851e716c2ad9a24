pub mod Table
pub mod Loop
pub mod Walk
