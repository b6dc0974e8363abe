pub mod Admits
pub mod BitSet
pub mod Expressed
pub mod Lowest
pub mod Numbered
pub mod Quotes
pub mod Turns
