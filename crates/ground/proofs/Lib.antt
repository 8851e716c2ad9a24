pub mod NumberOfSites
pub mod PairCalls
pub mod Until
pub mod FreshCells
pub mod JoinedRoutes
pub mod Counting
pub mod CopiedLinks
pub mod RunOnRoutes
