pub mod Hangs
pub mod InWords
pub mod Pushes
pub mod Slips
pub mod Whole
