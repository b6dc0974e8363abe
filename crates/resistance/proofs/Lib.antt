pub mod Bounds
pub mod GroupBounds
pub mod GroupLimits
pub mod Held
pub mod Ratios
pub mod Readings
pub mod RootWords
pub mod Squares
