pub mod Bears
pub mod Columns
pub mod Parts
pub mod Tabled
pub mod Welds
